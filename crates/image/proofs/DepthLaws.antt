-- A level of nested messages, as a loop over a range of rows sees it. Assumes nothing.
use mathlib.Core.Path.{◌≡◌, refl, sym}
use mathlib.Core.Bool.{Bool, true, false}
use Prim.Native.Nat.{ℕ, zero, suc, ◌+◌, ◌-◌, ◌<◌}
use native.Mathlib.Omega.{arith}
use lib.Dec.{eqb}
use borrow.Author.Tests.{ne_eqb}
use Rattle.lists.specs.Lists.{span, all}
use Rattle.lists.proofs.Cases.{by, clash, equal}
use Rattle.lists.proofs.SpanLaws.{all_span_intro, all_span_elim}
use Rattle.image.specs.Schema.{Schema}
use Rattle.image.specs.Flat.{nested_rows, within}

-- no level is left: only an empty range is within it
pub within_none : (g : Schema) (d i n : ℕ) → d ≡ 0 → all (within d g) (span i n) ≡ eqb n 0
unfolding within span all
within_none g zero i zero e = refl
within_none g zero i (suc n) e = sym (ne_eqb (suc n) 0 (λ z. omega arith))
within_none g (suc d) i n e = absurd (omega arith)

pub within_step : (g : Schema) (d r : ℕ) → (d ≡ 0 → ⊥) → within d g r ≡ all (within (d - 1) g) (nested_rows g r)
unfolding within
within_step g zero r h = absurd (h refl)
within_step g (suc d) r h = let e : suc d - 1 ≡ d = omega arith in rw e

-- the rows of a range up to one that has p, and a range with a row that has not
module _ (p : ℕ → Bool) (i n k : ℕ) where
  pub all_rows_more : all p (span i k) ≡ true → p (i + k) ≡ true → all p (span i (k + 1)) ≡ true
  all_rows_more h e = all_span_intro p i (k + 1) (λ j l. equal j k (λ s. rw s e) (λ d. all_span_elim p i k h j (omega (arith, d))))

  pub all_rows_fail : k < n → p (i + k) ≡ false → all p (span i n) ≡ false
  all_rows_fail l e = by (all p (span i n)) (λ t. clash (p (i + k)) (all_span_elim p i n t k l) e) (λ t. t)
