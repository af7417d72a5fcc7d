-- `image::shelf::Shelf::pool` meets its contract. Assumes nothing.
use Rattle.image.proofs.shelf.Shelf.pool.Goals as goal

pub returns : goal.returns
returns c = rw c.place-at.ensures at c.part.ensures
