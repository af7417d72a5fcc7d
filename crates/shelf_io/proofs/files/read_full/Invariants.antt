-- `shelf_io::files::read_full` meets its contract: what was read lies within `out`. Assumes nothing.
use Prim.Native.Nat.{◌≤◌, ◌-◌}
use mathlib.Core.Path.{◌≡◌}
use lib.ListN.{length}
use Rattle.shelf_io.proofs.files.read_full.Given as goal

abbrev pub invariant-loop-n : goal.invariant-loop-n
invariant-loop-n g l = (length l.out ≡ length l.initial.out) × (l.n ≤ length l.out)

abbrev pub decreases-loop-n : goal.decreases-loop-n
decreases-loop-n g l = length l.out - l.n
