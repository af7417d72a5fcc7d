-- `image::owners::mark_held` meets its contract: its loop keeps `Holding`. Assumes nothing.
use Prim.Native.Nat.{◌+◌}
use Rattle.image.specs.Words.{range_at, row_at}
use Rattle.image.specs.Layout.{covers}
use Rattle.image.proofs.OwnerLaws.{Holding}
use Rattle.image.proofs.owners.mark_held.Given as goal

abbrev pub invariant-loop-p : goal.invariant-loop-p
invariant-loop-p l = Holding l.initial.marks l.marks (λ q j. covers (range_at l.image.words.now (row_at l.image.sections l.kind q + l.offset)) j) l.p
