-- What the tests of rows tell of the ranges that rows own. Assumes nothing.
use Prim.Native.Nat.{ℕ, zero, suc, ◌+◌, ◌≤◌, ◌<◌}
use native.Mathlib.Nat.{zero-add}
use native.Mathlib.Omega.{arith}
use mathlib.Core.Path.{◌≡◌, refl, ap}
use mathlib.Core.List.{List}
use mathlib.Core.Bool.{true, not, ◌||◌}
use lib.Dec.{eqb, leb}
use lib.ListN.{length, take}
use lib.Seq.{length-take-le}
use borrow.Author.Tests.{leb-true, ne_eqb}
use Rattle.lists.specs.Below.{bit, all_of, all_below}
use Rattle.lists.proofs.Cases.{left, each}
use Rattle.lists.proofs.BelowLaws.{all_below_elim, all_below_agree}
use Rattle.lists.proofs.SpanLaws.{range_none}
use Rattle.image.specs.Words.{range_at, section_of, row_at, top_level}
use Rattle.image.specs.Layout.{range_fits, message_tests, enum_tests, row_fits, rows_fit, covers}
use Rattle.image.specs.Marks.{Held, Roomy}
use Rattle.image.specs.declared.rows.Range.{Range}
use Rattle.image.specs.declared.rows.Sections.{Sections}
use Rattle.image.specs.declared.rows.Kind.{Kind}
use Rattle.image.specs.declared.rows.Kind.TheVariants.{Message, Enum}

pub range_inside : (count : ℕ) (g : Range) → range_fits count g ≡ true → g.first + g.count ≤ count
range_inside count g e = leb-true (g.first + g.count) count (left (leb (g.first + g.count) count) (not (eqb g.count 0) || eqb g.first 0) e)

-- marks that have room for the rows of any kind
pub marks_of : (s : Sections) (marks : List ℕ) → Roomy s (length marks) → (kind : Kind) → length (take (section_of s kind).count marks) ≡ (section_of s kind).count
marks_of s marks room kind = length-take-le (section_of s kind).count marks (room.few kind)

module _ (image : List ℕ) (s : Sections) (pool : ℕ) where
  message_tests_lem : rows_fit image s pool Message ≡ true → (p : ℕ) → p < s.messages.count → all_of (message_tests image s pool (row_at s Message p)) ≡ true
  unfolding rows_fit row_fits
  message_tests_lem e p l = all_below_elim s.messages.count (λ r. all_of (message_tests image s pool (row_at s Message r))) e p l

  enum_tests_lem : rows_fit image s pool Enum ≡ true → (p : ℕ) → p < s.enums.count → all_of (enum_tests image s pool (row_at s Enum p)) ≡ true
  unfolding rows_fit row_fits
  enum_tests_lem e p l = all_below_elim s.enums.count (λ r. all_of (enum_tests image s pool (row_at s Enum r))) e p l

  module _ (fit : rows_fit image s pool Message ≡ true) where
    pub held_messages : Held image s Message 2 s.messages.count
    held_messages = record { inside = λ p l. range_inside s.messages.count (range_at image (row_at s Message p + 2)) (each (message_tests image s pool (row_at s Message p)) (message_tests_lem fit p l)).1.0 }

    pub held_enums : Held image s Message 4 s.enums.count
    held_enums = record { inside = λ p l. range_inside s.enums.count (range_at image (row_at s Message p + 4)) (each (message_tests image s pool (row_at s Message p)) (message_tests_lem fit p l)).1.1.0 }

    pub held_fields : Held image s Message 6 s.fields.count
    held_fields = record { inside = λ p l. range_inside s.fields.count (range_at image (row_at s Message p + 6)) (each (message_tests image s pool (row_at s Message p)) (message_tests_lem fit p l)).1.1.1.0 }

    pub held_extensions : Held image s Message 8 s.fields.count
    held_extensions = record { inside = λ p l. range_inside s.fields.count (range_at image (row_at s Message p + 8)) (each (message_tests image s pool (row_at s Message p)) (message_tests_lem fit p l)).1.1.1.1.0 }

    pub held_oneofs : Held image s Message 10 s.oneofs.count
    held_oneofs = record { inside = λ p l. range_inside s.oneofs.count (range_at image (row_at s Message p + 10)) (each (message_tests image s pool (row_at s Message p)) (message_tests_lem fit p l)).1.1.1.1.1.0 }

  pub held_values : rows_fit image s pool Enum ≡ true → Held image s Enum 2 s.values.count
  held_values fit = record { inside = λ p l. range_inside s.values.count (range_at image (row_at s Enum p + 2)) (each (enum_tests image s pool (row_at s Enum p)) (enum_tests_lem fit p l)).1.0 }

-- where the file owns none of the rows, the holders alone count
pub own_none : (n : ℕ) (f : ℕ → ℕ) → all_below n (λ j. eqb (bit (covers (top_level 0) j) + f j) 1) ≡ all_below n (λ j. eqb (f j) 1)
own_none n f =
    all_below_agree n (λ j. eqb (bit (covers (top_level 0) j) + f j) 1) (λ j. eqb (f j) 1)
    (λ j l. let e : bit (covers (top_level 0) j) + f j ≡ f j = rw (range_none 0 j) (zero-add (f j)) in ap (λ (x : ℕ). eqb x 1) e)

-- where rows have no owner, each has one only if there are none
pub none_owned : (n : ℕ) → eqb n 0 ≡ all_below n (λ j. eqb 0 1)
unfolding all_below
none_owned zero = refl
none_owned (suc n) = ne_eqb (suc n) 0 (λ e. absurd (omega arith))
