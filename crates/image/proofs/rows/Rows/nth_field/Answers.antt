-- `image::rows::Rows::nth_field` meets its contract. Assumes nothing.
use Rattle.image.proofs.rows.Rows.nth_field.Goals as goal

pub returns : goal.returns
returns c = rw (← c.nth_at.ensures.0) c.field_row_at.ensures
