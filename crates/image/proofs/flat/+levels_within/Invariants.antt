-- `image::flat::levels_within` meets its contract: the depth falls at each call, and the rows before row k of the range are within it.
-- Assumes nothing.
use mathlib.Core.Path.{◌≡◌}
use mathlib.Core.Bool.{true}
use Rattle.lists.specs.Lists.{span, all}
use Rattle.image.specs.Schema.{schema}
use Rattle.image.specs.Flat.{within}
use Rattle.image.proofs.flat.+levels_within.Given as goal

-- the depth
abbrev pub decreases-levels_within : goal.decreases-levels_within
decreases-levels_within l = l.depth

abbrev pub invariant-loop-k : goal.invariant-loop-k
invariant-loop-k l = all (within l.depth (schema l.image)) (span l.g.first l.k) ≡ true
