-- `image::links::put_counted` meets its contract: the link rows of the first k oneofs are written. Assumes nothing.
use mathlib.Core.Path.{◌≡◌}
use lib.ListN.{length}
use Rattle.lists.specs.Splice.{splice}
use Rattle.image.specs.Walk.{counted_row}
use Rattle.image.proofs.LinkLaws.{run}
use Rattle.image.proofs.links.put_counted.Given as goal

abbrev pub invariant-loop-k : goal.invariant-loop-k
invariant-loop-k l =
    (length l.links ≡ length l.initial.links) × (l.links ≡ splice l.initial.links l.at (run (counted_row l.m.0 l.members l.optionals) 0 l.k))
