-- Laws of the number that a token is, from what the default of a uint32 field is read as. Assumes nothing.
use Prim.Native.Nat.{ℕ, ◌-◌, ◌^◌, ◌≤◌}
use native.Mathlib.Omega.{arith}
use mathlib.Core.Path.{◌≡◌, refl}
use Rattle.std.specs.Prelude.{Option, None, Some, Ok, unwrap_or}
use Rattle.names.specs.Integer.{as_integer, twos_complement}
use Rattle.names.specs.Default.{DefaultRead, integer_default}
use Rattle.names.specs.declared.runtime_type_box.Words.{Words}
use Rattle.names.specs.declared.runtime_type_box.ReadDefault.TheVariants.{Integer}
use Rattle.tokens.specs.Tokens.{low_of}

-- the low word of a number that was read is the number
pub low_read : (o : Option ℕ) → ((n : ℕ) → o ≡ Some n → n ≤ 2 ^ 32 - 1) → low_of (integer_default (as_integer o)) ≡ unwrap_or o 0
unfolding integer_default as_integer twos_complement
low_read None h = refl
low_read (Some n) h = omega (arith, h n refl)

-- none was read: the answer is none of an integer
pub number_none : (o : Option ℕ) (d : DefaultRead) → d ≡ integer_default (as_integer o) → ((w : Words) → d ≡ Ok (Integer w) → ⊥) → 0 ≡ unwrap_or o 0
unfolding integer_default as_integer twos_complement
number_none None d e k = refl
number_none (Some n) d e k = absurd (k _ e)
