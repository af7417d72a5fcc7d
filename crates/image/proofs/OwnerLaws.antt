-- Laws of the marks that count owners. Assumes nothing.
use Prim.Native.Nat.{ℕ, ◌+◌, ◌≤◌, ◌<◌}
use native.Mathlib.Nat.{add-zero, zero-add}
use native.Mathlib.Omega.{arith}
use mathlib.Core.Path.{◌≡◌, refl, sym, ap, ◌∙◌}
use mathlib.Core.List.{List}
use mathlib.Core.Bool.{Bool, true, false}
use lib.ListN.{length, get_or, replicate, length-replicate}
use lib.Dec.{eqb}
use Rattle.std.proofs.lemmas.List.{get_or-replicate}
use borrow.Author.Tests.{ne_eqb}
use Rattle.lists.specs.Below.{bit, all_below, count_below}
use Rattle.lists.specs.Lists.{in_range}
use Rattle.lists.proofs.Cases.{clash}
use Rattle.lists.proofs.BelowLaws.{all_below_fails, all_below_agree, count_start, count_next, count_grows}
use Rattle.image.specs.Marks.{Marked, Free}

-- the first k rows of a range are marked
pub record Ranging (before marks : List ℕ) (first k : ℕ) : Type 0 where
  pub size : length marks ≡ length before
  pub each : (j : ℕ) → j < length before → get_or marks j 0 ≡ get_or before j 0 + bit (in_range first k j)

-- the ranges of the first p rows are marked; f q j says that range q has row j
pub record Holding (before marks : List ℕ) (f : ℕ → ℕ → Bool) (p : ℕ) : Type 0 where
  pub size : length marks ≡ length before
  pub each : (j : ℕ) → j < length before → get_or marks j 0 ≡ get_or before j 0 + count_below p (λ q. f q j)

pub holding_start : (before : List ℕ) (f : ℕ → ℕ → Bool) → Holding before before f 0
holding_start before f = record { size = refl; each = λ j l. rw (count_start (λ q. f q j)) (sym (add-zero (get_or before j 0))) }

module _ {before marks after : List ℕ} {f : ℕ → ℕ → Bool} {p : ℕ} {done : Bool} (h : Holding before marks f p) (m : Marked done marks after (λ j. bit (f p j))) where
  pub holding_more : length after ≡ length marks → done ≡ true → Holding before after f (p + 1)
  holding_more size ok =
      record {
        size = size ∙ h.size;
        each = λ j l. let e = count_next p (λ q. f q j) in let a = m.grown ok j (omega (arith, h.size)) in let b = h.each j l in omega arith;
      }

  pub holding_twice : (n : ℕ) → p < n → done ≡ false → (j : ℕ) × (j < length before) × (1 < get_or before j 0 + count_below n (λ q. f q j))
  holding_twice n l stopped =
      let t = m.twice stopped in
      let i : t.0 < length before = omega (arith, t.1, h.size) in
      (t.0, i, omega (arith, t.2, h.each t.0 i, count_next p (λ q. f q t.0), count_grows (p + 1) n (λ q. f q t.0) (omega arith)))

-- ---- one marking behind another, and what it tells of owners

pub marked_then : {a b d : List ℕ} {f g : ℕ → ℕ} {first second : Bool}
    → length b ≡ length a → first ≡ true → Marked first a b f → Marked second b d g → Marked second a d (λ j. f j + g j)
marked_then {a} {b} {d} {f} {g} size e m n =
    record {
      grown = λ t j l. let x = m.grown e j l in let y = n.grown t j (omega arith) in omega arith;
      twice = λ t. let w = n.twice t in let l : w.0 < length a = omega (arith, w.1) in let x = m.grown e w.0 l in (w.0, l, omega (arith, w.2));
    }

module _ {marks after : List ℕ} {more : ℕ → ℕ} {done : Bool} (z : Free marks) (m : Marked done marks after more) where
  -- a row that would have two owners already has more than one in the end
  pub owned_not : (owners : ℕ → ℕ) → ((j : ℕ) → more j ≤ owners j) → done ≡ false → all_below (length marks) (λ j. eqb (owners j) 1) ≡ false
  owned_not owners some e =
      let w = m.twice e in
      all_below_fails (length marks) (λ j. eqb (owners j) 1) w.0 w.1 (ne_eqb (owners w.0) 1 (λ q. omega (arith, q, some w.0, w.2, z.free w.0 w.1)))

  pub owned_is : done ≡ true → length after ≡ length marks → all_below (length after) (λ j. eqb (get_or after j 0) 1) ≡ all_below (length marks) (λ j. eqb (more j) 1)
  owned_is e size =
      ap (λ (n : ℕ). all_below n (λ j. eqb (get_or after j 0) 1)) size
      ∙ all_below_agree (length marks) (λ j. eqb (get_or after j 0) 1) (λ j. eqb (more j) 1)
      (λ j l. let q : get_or after j 0 ≡ more j = m.grown e j l ∙ rw (z.free j l) (zero-add (more j)) in ap (λ (x : ℕ). eqb x 1) q)

-- marks that were all set to 0
pub filled_free : (n : ℕ) {marks : List ℕ} → marks ≡ replicate n 0 → Free marks
filled_free n {marks} e = record { free = λ j l. rw e (get_or-replicate n j 0 0 (rw (e, length-replicate {A = ℕ} n 0) at l)) }

-- a marking that stopped, as a part of a longer one
pub marked_stop : {a b : List ℕ} {f t : ℕ → ℕ} {first : Bool} → first ≡ false → ((j : ℕ) → f j ≤ t j) → Marked first a b f → Marked first a b t
marked_stop {first = first} e some m = record { grown = λ u. clash first u e; twice = λ u. let w = m.twice e in (w.0, w.1, omega (arith, w.2, some w.0)) }
