-- `image::links::oneof_link` meets its contract. Assumes nothing.
use Rattle.image.proofs.links.oneof_link.Goals as goal

pub returns : goal.returns
returns c = rw (c.synthetic_mark-mark.ensures, c.word_at-count.ensures, c.word_at.ensures)
