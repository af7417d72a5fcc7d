-- `link::building::resolve` meets its contract. Assumes nothing.
use Rattle.image.specs.Places.{file_of, shelf_file}
use Rattle.link.specs.Search.{list_of, Below}
use Rattle.link.proofs.SearchLaws.{all_below}
use Rattle.link.proofs.VisitLaws.{below_up}
use Rattle.link.proofs.TargetLaws.{target-own, target-listed}
use Rattle.link.proofs.building.resolve.Goals as goal
use Rattle.link.proofs.building.resolve.Goals.{Start}

-- the files of the list are shelved
listed : (c : Start) → Below c.args.scope.now.n (list_of c.args.scope.now.list)
listed c = let s = c.args.scope.now in all_below s.n (list_of s.list) s.below

pub returns-in-Some : goal.returns-in-Some
returns-in-Some c = let s = c.args.scope.now in
    target-own (shelf_file s.shelf) s.n (file_of s.own) c.args.wanted (list_of s.list) c.args.full.now (listed (goal.at.returns-in-Some c).Start) c.find_item.ensures c.in-Some.m c.in-Some.is

pub find_listed-requires : goal.find_listed-requires
find_listed-requires c = let s = c.args.scope.now in
    below_up s.n 32 (list_of s.list) s.n_bound (listed (goal.at.find_listed-requires c).Start)

pub returns : goal.returns
returns c = let s = c.args.scope.now in
    target-listed (shelf_file s.shelf) s.n (file_of s.own) c.args.wanted (list_of s.list) c.args.full.now (listed (goal.at.returns c).Start) c.find_item.ensures c.in_default.is c.find_listed.ensures
