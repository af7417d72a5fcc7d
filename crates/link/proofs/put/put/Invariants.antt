-- `link::put::put` meets its contract: what is written so far is the front of `src`. Assumes nothing.
use mathlib.Core.Path.{◌≡◌}
use lib.ListN.{length, take}
use Rattle.lists.specs.Splice.{splice}
use Rattle.link.proofs.put.put.Given as goal

abbrev pub invariant-loop-j : goal.invariant-loop-j
invariant-loop-j g l = (length l.all ≡ length l.initial.all) × (l.all ≡ splice l.initial.all l.at (take l.j l.src))
