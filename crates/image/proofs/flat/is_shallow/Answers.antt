-- `image::flat::is_shallow` meets its contract: the top level is a range of rows. Assumes nothing.
use native.Mathlib.Omega.{arith}
use Rattle.image.specs.Schema.{schema_in}
use Rattle.image.proofs.flat.is_shallow.Goals as goal

pub levels_within-requires : goal.levels_within-requires
unfolding schema_in
levels_within-requires c = record { laid_out = c.requires; count_bound = omega (arith, c.requires.top_inside, c.trailer_word-count.ensures) }

pub returns : goal.returns
unfolding schema_in
returns c = rw c.trailer_word-count.ensures at c.levels_within.ensures
