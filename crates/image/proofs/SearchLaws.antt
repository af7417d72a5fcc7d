-- Loops over rows: what a search among the rows of a range answers, and whether all rows pass a test. Assumes nothing.
use Prim.Native.Nat.{ℕ, ◌+◌, ◌-◌, ◌≤◌, ◌<◌}
use native.Mathlib.Omega.{arith}
use mathlib.Core.Path.{◌≡◌, sym, ap, ◌∙◌}
use mathlib.Core.Bool.{Bool, true, false, cond}
use borrow.Author.Tests.{lt-ltb, le-ltb}
use Rattle.lists.specs.Below.{all_below, any_below, first_below, last_below, found_below}
use Rattle.lists.proofs.BelowLaws.{all_below_fails, all_below_more, all_below_start, any_below_false, any_below_more, any_below_start, first_is, first_none, last_next, last_start}
use mathlib.Core.List.{List}
use denote.Param.Members.{Mut}
use denote.Ref.{Bor}
use Rattle.std.specs.Fn.{CalledAt}
use Rattle.std.specs.Iterator.{YieldsThen}
use Rattle.std.specs.List.{FoldsTo}
use Rattle.std.specs.Option.{MatchOption}
use Rattle.std.specs.Prelude.{⊤, Option, Some, None}
use Rattle.std.specs.declared.ops.Range.{Range}
use Rattle.std.proofs.iter.Yields.{nat_range_steps}
use Rattle.std.proofs.lemmas.Iterator.{first_from_Range}

found_at : (n k : ℕ) → k < n → found_below n k ≡ Some k
found_at n k h = rw (lt-ltb k n h)

found_none : (n : ℕ) → found_below n n ≡ None
found_none n = rw (le-ltb n n (omega arith))

-- ---- upward: the first of n that has p

abbrev pub first_in : ℕ → (ℕ → Bool) → Option ℕ
first_in n p = found_below n (first_below n p n)

-- none of the first j has it
pub record Searching (n : ℕ) (p : ℕ → Bool) (j : ℕ) : Type 0 where
  pub most : j ≤ n
  pub without : any_below j p ≡ false

pub searching_start : (n : ℕ) (p : ℕ → Bool) → Searching n p 0
searching_start n p = record { most = omega arith; without = any_below_start p }

module _ {n : ℕ} {p : ℕ → Bool} {j : ℕ} (h : Searching n p j) where
  pub searching_more : j < n → p j ≡ false → Searching n p (j + 1)
  searching_more l e = record { most = omega arith; without = any_below_more j p h.without e }

  pub first_hit : j < n → p j ≡ true → Some j ≡ first_in n p
  first_hit l e = sym (rw (first_is n p n j l e (any_below_false j p h.without)) (found_at n j l))

  pub first_end : n ≤ j → None ≡ first_in n p
  first_end l =
      let e : j ≡ n = omega (arith, h.most) in
      sym (rw (first_none n p n (rw e at (any_below_false j p h.without))) (found_none n))

-- ---- downward: the last of n that has p

abbrev pub last_in : ℕ → (ℕ → Bool) → Option ℕ
last_in n p = found_below n (last_below n p n)

-- none from k on has it
pub record Returning (n : ℕ) (p : ℕ → Bool) (k : ℕ) : Type 0 where
  pub most : k ≤ n
  pub rest : last_below n p n ≡ last_below k p n

module _ {n : ℕ} {p : ℕ → Bool} {k : ℕ} (h : Returning n p k) where
  turn : 0 < k → last_below n p n ≡ cond (p (k - 1)) (k - 1) (last_below (k - 1) p n)
  turn l =
      let e : k ≡ k - 1 + 1 = omega arith in
      h.rest ∙ ap (λ (i : ℕ). last_below i p n) e ∙ last_next (k - 1) p n

  pub returning_more : 0 < k → p (k - 1) ≡ false → Returning n p (k - 1)
  returning_more l e = record { most = omega (arith, h.most); rest = turn l ∙ simp e }

  pub last_hit : 0 < k → p (k - 1) ≡ true → Some (k - 1) ≡ last_in n p
  last_hit l e = let q : last_below n p n ≡ k - 1 = turn l ∙ simp e in sym (rw q (found_at n (k - 1) (omega (arith, h.most))))

  pub last_end : k ≤ 0 → None ≡ last_in n p
  last_end l =
      let e : k ≡ 0 = omega arith in
      let q : last_below n p n ≡ n = h.rest ∙ ap (λ (i : ℕ). last_below i p n) e ∙ last_start p n in
      sym (rw q (found_none n))

-- ---- whether all of n pass a test; the first r did

pub record Passing (n : ℕ) (p : ℕ → Bool) (r : ℕ) : Type 0 where
  pub most : r ≤ n
  pub passed : all_below r p ≡ true

pub passing_start : (n : ℕ) (p : ℕ → Bool) → Passing n p 0
passing_start n p = record { most = omega arith; passed = all_below_start p }

module _ {n : ℕ} {p : ℕ → Bool} {r : ℕ} (h : Passing n p r) where
  pub passing_more : r < n → p r ≡ true → Passing n p (r + 1)
  passing_more l e = record { most = omega arith; passed = all_below_more r p h.passed e }

  pub passing_fails : r < n → p r ≡ false → false ≡ all_below n p
  passing_fails l e = sym (all_below_fails n p r l e)

  pub passing_end : n ≤ r → true ≡ all_below n p
  passing_end l = let e : r ≡ n = omega (arith, h.most) in sym (rw e at h.passed)

-- ---- what `(0..n).find(f)` answers, from the clause `ran` of the call, where the closure f computes p

found_from : (n : ℕ) (p : ℕ → Bool) (r : Option ℕ)
    → MatchOption r ((k : ℕ) → 0 ≤ k → k < n → p k ≡ false) (λ i. (0 ≤ i) × (i < n) × (p i ≡ true) × ((k : ℕ) → 0 ≤ k → k < i → p k ≡ false)) → r ≡ first_in n p
found_from n p None h = sym (rw (first_none n p n (λ k l. h k (omega arith) l)) (found_none n))
found_from n p (Some i) h = sym (rw (first_is n p n i h.1 h.2 (λ k l. h.3 k (omega arith) l)) (found_at n i h.1))

pub find_of_range : {F : Type 0} {g : Mut F (Bor ℕ × Unit {0}) Bool} (n : ℕ) (p : ℕ → Bool) (u : Range ℕ) (f : F) (r : Option ℕ)
    → (xs : List ℕ) × (j : F) × YieldsThen nat_range_steps (record { start = 0; end = n }) xs r u × FoldsTo (λ h x q. CalledAt g h x false q) f xs j × MatchOption r ⊤ (λ x. (h : F) × CalledAt g j x true h)
    → ((x : ℕ) (b : Bool) (q : F) → CalledAt g f x b q → (q ≡ f) × (b ≡ p x)) → r ≡ first_in n p
find_of_range n p u f r ran k =
    found_from n p r (first_from_Range (record { start = 0; end = n }) u f r (λ x. p x ≡ true) (λ x. p x ≡ false) ran (λ x q c. sym (k x true q c).1) (λ x q c. ((k x false q c).0, sym (k x false q c).1)))
