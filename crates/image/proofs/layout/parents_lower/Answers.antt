-- `image::layout::parents_lower` meets its contract. Assumes nothing.
use Rattle.std.proofs.Common.{rules, tests}
use Rattle.lists.proofs.StdLaws.{all_of_range}
use Rattle.image.specs.Layout.{parents_lower}
use Rattle.image.proofs.layout.parents_lower.Goals as goal

pub returns : goal.returns
unfolding parents_lower
returns c = all_of_range _ _ _ _ _ c.all.ensures.ran (λ x b q k. search (rules, tests))
