-- `judge_cases::shelves::changes` ends: its loop has a measure. Assumes nothing.
use Prim.Native.Nat.{◌-◌}
use mathlib.Core.Path.{◌≡◌}
use lib.ListN.{length}
use Rattle.judge_cases.proofs.shelves.changes.Given as goal

abbrev pub invariant-loop-end : goal.invariant-loop-end
invariant-loop-end g l = (length l.words ≡ length l.initial.words) × (length l.bytes ≡ length l.initial.bytes)

abbrev pub decreases-loop-end : goal.decreases-loop-end
decreases-loop-end g l = length l.text - l.end
