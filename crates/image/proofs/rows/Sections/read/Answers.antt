-- `image::rows::Sections::read` meets its contract. Assumes nothing.
use Rattle.image.specs.Words.{sections_of}
use Rattle.image.proofs.rows.Sections.read.Goals as goal

pub returns : goal.returns
unfolding sections_of
returns c = rw (c.section_at-6.ensures, c.section_at-5.ensures, c.section_at-4.ensures, c.section_at-3.ensures, c.section_at-2.ensures, c.section_at.ensures)
