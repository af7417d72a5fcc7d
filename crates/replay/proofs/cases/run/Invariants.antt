-- `replay::cases::run` ends: its loop has a measure. Assumes nothing.
use Prim.Native.Nat.{◌-◌}
use mathlib.Core.Path.{◌≡◌}
use lib.ListN.{length}
use Rattle.replay.proofs.cases.run.Given as goal

abbrev pub invariant-loop-s : goal.invariant-loop-s
invariant-loop-s g l = (length l.words ≡ length l.initial.words) × (length l.bytes ≡ length l.initial.bytes)

abbrev pub decreases-loop-s : goal.decreases-loop-s
decreases-loop-s g l = length l.lists.cases.now - l.s.at
