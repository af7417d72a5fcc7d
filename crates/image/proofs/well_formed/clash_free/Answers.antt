-- `image::well_formed::clash_free` meets its contract. Assumes nothing.
use Rattle.std.proofs.Common.{rules, tests}
use Rattle.lists.proofs.StdLaws.{all_of_range}
use Rattle.image.specs.Schema.{schema_in}
use Rattle.image.specs.Shelf.{clash_free}
use Rattle.image.proofs.well_formed.clash_free.Goals as goal

pub returns : goal.returns
unfolding clash_free schema_in
returns c = all_of_range _ _ _ _ _ c.all.ensures.ran (λ x b q k. search (rules, tests))
