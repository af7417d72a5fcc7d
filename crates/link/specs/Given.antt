-- Which line of a list decides: the first that is given, or none. Assumes nothing.
use Rattle.std.specs.Prelude.{◌≡◌, ◌⊎◌, true, false, List, [], ◌∷◌, ℕ}
use Rattle.image.specs.Verdict.{Line}
use Rattle.image.specs.declared.verdict.Refusal.{Refusal}

-- a line with this refusal and place is given, and none before it
abbrev pub Given : List Line → Refusal → ℕ → Type 0
Given [] r p = ⊥
Given (l ∷ ls) r p = ((l.given ≡ true) × (l.refusal ≡ r) × (l.place ≡ p)) ⊎ ((l.given ≡ false) × Given ls r p)

-- no line is given
abbrev pub NoneGiven : List Line → Type 0
NoneGiven [] = Unit
NoneGiven (l ∷ ls) = (l.given ≡ false) × NoneGiven ls
