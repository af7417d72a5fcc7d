-- `image::shelf::Shelf::image` meets its contract. Assumes nothing.
use Rattle.image.proofs.shelf.Shelf.image.Goals as goal

pub returns : goal.returns
returns c = rw c.place-at.ensures at c.part.ensures
