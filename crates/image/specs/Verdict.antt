-- Refusals as lines of a table: the first line that is given decides. Assumes nothing.
use Rattle.std.specs.Prelude.{List, [], ◌∷◌, ◌++◌, Bool, true, false, cond, ℕ, zero, suc, Result, Ok, Err}
use Rattle.image.specs.declared.verdict.Refusal.{Refusal}
use Rattle.image.specs.declared.verdict.Refusal.TheVariants.{TooLong, ShelfBroken, LayoutBroken, LimitPassed, TextWrong, NameTaken, ImportMissing, NameShared, EntryName, EntryNotBare, EntryFields, DefaultWrong, DefaultBarred, ExtendeeAbsent, MessageMissing, EnumMissing, FieldClash, NoRoom}
use Rattle.image.specs.declared.verdict.Refused.{Refused}

-- the number of each refusal
abbrev pub number : Refusal → ℕ
number TooLong = 1
number ShelfBroken = 2
number LayoutBroken = 3
number LimitPassed = 4
number TextWrong = 5
number NameTaken = 6
number ImportMissing = 7
number NameShared = 8
number EntryName = 9
number EntryNotBare = 10
number EntryFields = 11
number DefaultWrong = 12
number DefaultBarred = 13
number ExtendeeAbsent = 14
number MessageMissing = 15
number EnumMissing = 16
number FieldClash = 17
number NoRoom = 18

-- a line of the table: the refusal, whether it would be given where no line before it is, and its place
pub record Line : Type 0 where
  pub refusal : Refusal
  pub given : Bool
  pub place : ℕ

abbrev pub line : Refusal → Bool → ℕ → Line
line r b p = record { refusal = r; given = b; place = p }

-- no refusal, or the first that was given, with its place
abbrev pub Verdict : Type 0
Verdict = Result Unit Refused

-- a refusal at a place
abbrev pub stopped : Refusal → ℕ → Verdict
stopped r p = Err (record { refusal = r; place = p })

-- the first line that is given
unfoldable pub first : List Line → Verdict
first [] = Ok tt
first (l ∷ ls) = cond l.given (stopped l.refusal l.place) (first ls)

-- the lines of 0, 1, .., of which there are n
unfoldable pub in_order : ℕ → (ℕ → List Line) → List Line
in_order zero f = []
in_order (suc n) f = in_order n f ++ f n

-- no refusal
abbrev pub passes : Verdict → Bool
passes (Ok u) = true
passes (Err r) = false

-- the answer of a step: the refusal, or else x
abbrev pub judged : {A : Type 0} → Verdict → A → Result A Refused
judged (Ok u) x = Ok x
judged (Err r) x = Err r
