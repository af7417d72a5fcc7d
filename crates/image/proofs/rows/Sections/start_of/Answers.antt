-- `image::rows::Sections::start_of` meets its contract. Assumes nothing.
use Rattle.image.proofs.rows.Sections.start_of.Goals as goal

pub returns : goal.returns
returns c = rw c.section_of-section.ensures
