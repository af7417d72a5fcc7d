-- `tokens::is` meets its contract. Assumes nothing.
use mathlib.Core.Path.{◌∙◌}
use Rattle.lists.proofs.StdLaws.{same_pointwise}
use Rattle.tokens.proofs.is.Goals as goal

pub returns : goal.returns
returns c = c.eq.ensures ∙ rw c.bytes_of.ensures (same_pointwise _ _)
