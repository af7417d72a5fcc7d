-- `link::fds::search_list` meets its contract: what waits on the stack, last one first, is what is left of the walk. Assumes nothing.
use Prim.Native.Nat.{◌+◌, ◌-◌, ◌*◌}
use mathlib.Core.List.{reverse}
use lib.ListN.{take}
use Rattle.image.specs.Places.{shelf_files}
use Rattle.link.specs.Search.{publics_of}
use Rattle.link.proofs.RunLaws.{Running, Fit}
use Rattle.link.proofs.fds.search_list.Given as goal

abbrev pub invariant-loop-top : goal.invariant-loop-top
invariant-loop-top l =
    Fit (publics_of (shelf_files l.shelf l.n)) l.n (reverse (take l.initial.top l.initial.stack))
    × Running (publics_of (shelf_files l.shelf l.n)) l.n (reverse (take l.initial.top l.initial.stack)) l.stack l.top l.seen l.found l.count

abbrev pub decreases-loop-top : goal.decreases-loop-top
decreases-loop-top l = l.top + 33 * (32 - l.count)
