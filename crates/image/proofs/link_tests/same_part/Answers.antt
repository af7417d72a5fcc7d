-- `image::link_tests::same_part` meets its contract. Assumes nothing.
use mathlib.Core.Path.{◌∙◌}
use Rattle.lists.proofs.StdLaws.{same_pointwise}
use Rattle.image.proofs.link_tests.same_part.Goals as goal

pub returns : goal.returns
returns c = c.eq.ensures ∙ rw (c.part.ensures, c.part-2.ensures) (same_pointwise _ _)
