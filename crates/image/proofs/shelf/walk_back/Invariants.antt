-- `image::shelf::walk_back` meets its contract: its loop keeps `Walking`. Assumes nothing.
use Rattle.image.proofs.ShelfLaws.{shelf_in, Walking}
use Rattle.image.proofs.shelf.walk_back.Given as goal

abbrev pub invariant-loop-k : goal.invariant-loop-k
invariant-loop-k l = Walking l.words l.bytes l.initial.k (shelf_in l.words l.bytes l.initial.w l.initial.b) l.k l.w l.b l.files
