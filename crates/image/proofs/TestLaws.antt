-- A list of conditions of which all but the last are known to hold. Assumes nothing.
use mathlib.Core.Path.{◌≡◌}
use mathlib.Core.List.{List, [], ◌∷◌, ◌++◌}
use mathlib.Core.Bool.{Bool}
use Rattle.lists.specs.Below.{all_of}
use Rattle.lists.proofs.Cases.{Each, and-true}

pub all_then : (bs : List Bool) (b : Bool) → Each bs → all_of (bs ++ (b ∷ [])) ≡ b
all_then [] b h = and-true b
all_then (x ∷ bs) b h = simp h.0 (all_then bs b h.1)
