-- `image::rows::section_at` meets its contract. Assumes nothing.
use Rattle.image.proofs.rows.section_at.Goals as goal

pub returns : goal.returns
returns c = rw (c.trailer_word.ensures, c.trailer_word-2.ensures)
