-- `names::name::put_front` meets its contract: what is written so far is the front of `s`. Assumes nothing.
use mathlib.Core.Path.{◌≡◌}
use lib.ListN.{length, take}
use Rattle.lists.specs.Splice.{splice}
use Rattle.names.proofs.name.put_front.Given as goal

abbrev pub invariant-loop-i : goal.invariant-loop-i
invariant-loop-i l = (length l.out ≡ length l.initial.out) × (l.out ≡ splice l.initial.out 0 (take l.i l.s))
