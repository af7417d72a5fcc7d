-- Lookups of the values of an enum row, by number or name: the place in the enum of the last value that has it. Assumes nothing.
use Rattle.std.specs.Prelude.{List, Bool, ℕ, ◌+◌, eqb, Option}
use Rattle.lists.specs.Below.{last_below, found_below}
use Rattle.lists.specs.Lists.{same}
use Rattle.image.specs.Schema.{Schema}

-- the last value of enum row r with p; p takes the value's row
abbrev pub last_value : Schema → ℕ → (ℕ → Bool) → Option ℕ
last_value g r p = found_below (g.values_in r).count (last_below (g.values_in r).count (λ k. p ((g.values_in r).first + k)) (g.values_in r).count)

unfoldable pub value_by_number : Schema → ℕ → ℕ → Option ℕ
unfolding last_below
value_by_number g r number = last_value g r (λ v. eqb (g.value_number v) number)

unfoldable pub value_by_name : Schema → ℕ → List ℕ → Option ℕ
unfolding last_below
value_by_name g r text = last_value g r (λ v. same (g.value_name v) text)
