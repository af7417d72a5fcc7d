-- `lookup::queries::answer_all` ends: its loop has a measure. Assumes nothing.
use Prim.Native.Nat.{◌-◌}
use Rattle.lookup.proofs.queries.answer_all.Given as goal

abbrev pub decreases-loop-at : goal.decreases-loop-at
decreases-loop-at g l = l.count - l.at
