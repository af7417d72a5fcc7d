-- `image::rows::Sections::place_of` meets its contract. Assumes nothing.
use Prim.Native.Nat.{◌*◌, ◌≤◌}
use native.Mathlib.Omega.{arith}
use Rattle.image.specs.Words.{row_at}
use Rattle.image.proofs.RowLaws.{row_small}
use Rattle.image.proofs.rows.Sections.place_of.Goals as goal
use Rattle.image.proofs.rows.Sections.place_of.Goals.{After-struct_known-1}

small : (c : After-struct_known-1) → c.args.row * c.row_width-width.result ≤ c.args.row * 16
small c = row_small c.args.row c.row_width-width.result c.row_width-width.ensures.1

pub overflow_mul-result : goal.overflow_mul-result
overflow_mul-result c = omega (arith, small (goal.at.overflow_mul-result c).After-struct_known-1)

pub overflow_add-result : goal.overflow_add-result
overflow_add-result c = omega (arith, small (goal.at.overflow_add-result c).After-struct_known-1)

pub returns : goal.returns
unfolding row_at
returns c = (rw (c.section_of-section.ensures, c.row_width-width.ensures.0), omega (arith, small (goal.at.returns c).After-struct_known-1))
