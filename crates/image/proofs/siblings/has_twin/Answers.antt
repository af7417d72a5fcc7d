-- `image::siblings::has_twin` meets its contract. Assumes nothing.
use Rattle.std.proofs.Common.{rules, tests, ◌≡◌, ◌&&◌, eqb}
use Rattle.lists.specs.Below.{any_below}
use Rattle.lists.specs.Lists.{same}
use Rattle.lists.proofs.StdLaws.{any_of_range}
use Rattle.image.specs.FullName.{item_name, item_up}
use Rattle.image.specs.Schema.{schema}
use Rattle.image.specs.Chained.{siblings}
use Rattle.image.proofs.siblings.has_twin.Goals as goal

pub returns : goal.returns
unfolding siblings
returns c = let g = schema c.args.image.now in
    let l = c.args.links.now in
    let h : c.any.result ≡ any_below c.args.i (λ j. eqb c.item_up-up.result (item_up g l j) && same c.item_name-name.result.now (item_name g l j)) =
    any_of_range _ _ _ _ _ c.any.ensures.ran (λ x b q k. search (rules, tests)) in
    rw (c.item_up-up.ensures, c.item_name-name.ensures) at h
