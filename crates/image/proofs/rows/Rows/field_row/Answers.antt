-- `image::rows::Rows::field_row` meets its contract. Assumes nothing.
use Rattle.image.proofs.rows.Rows.field_row.Goals as goal

pub returns : goal.returns
returns c = rw (← c.row_at.ensures.0) c.field_row_at.ensures
