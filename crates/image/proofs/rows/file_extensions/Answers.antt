-- `image::rows::file_extensions` meets its contract. Assumes nothing.
use Rattle.image.proofs.rows.file_extensions.Goals as goal

pub returns : goal.returns
returns c = rw (c.trailer_word-first.ensures, c.trailer_word-count.ensures)
