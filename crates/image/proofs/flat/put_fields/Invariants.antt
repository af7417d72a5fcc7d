-- `image::flat::put_fields` meets its contract: the first k rows are listed, each with the same containing word. Assumes nothing.
use mathlib.Core.Path.{◌≡◌}
use lib.ListN.{length}
use Rattle.lists.specs.Lists.{span}
use Rattle.lists.specs.Splice.{splice}
use Rattle.image.specs.Record.{repeated}
use Rattle.image.proofs.flat.put_fields.Given as goal

abbrev pub invariant-loop-k : goal.invariant-loop-k
invariant-loop-k l =
    (length l.homes ≡ length l.initial.homes) × (length l.holders ≡ length l.initial.holders) × (l.homes ≡ splice l.initial.homes l.at (span l.g.first l.k)) × (l.holders ≡ splice l.initial.holders l.at (repeated l.k l.container))
