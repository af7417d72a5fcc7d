-- `image::links::put_enum_links` meets its contract: the link rows of the first k enums are written. Assumes nothing.
use mathlib.Core.Path.{◌≡◌}
use lib.ListN.{length}
use Rattle.lists.specs.Splice.{splice}
use Rattle.image.specs.Links.{enum_link}
use Rattle.image.proofs.LinkLaws.{run}
use Rattle.image.proofs.links.put_enum_links.Given as goal

abbrev pub invariant-loop-k : goal.invariant-loop-k
invariant-loop-k l = (length l.links ≡ length l.initial.links) × (l.links ≡ splice l.initial.links l.at (run (enum_link l.outside) l.g.first l.k))
