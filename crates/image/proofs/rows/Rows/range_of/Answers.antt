-- `image::rows::Rows::range_of` meets its contract. Assumes nothing.
use native.Mathlib.Omega.{arith}
use Rattle.image.proofs.rows.Rows.range_of.Goals as goal

pub overflow_add-row_at : goal.overflow_add-row_at
overflow_add-row_at c = omega (arith, c.row_at.ensures.1)

pub returns : goal.returns
returns c = rw (← c.row_at.ensures.0) c.range_at.ensures
