-- `image::owners::mark_range` meets its contract: its loop keeps `Ranging`. Assumes nothing.
use Rattle.image.proofs.OwnerLaws.{Ranging}
use Rattle.image.proofs.owners.mark_range.Given as goal

abbrev pub invariant-loop-k : goal.invariant-loop-k
invariant-loop-k l = Ranging l.initial.marks l.marks l.first l.k
