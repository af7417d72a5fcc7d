-- The standard library's words for what a slice, a range or a chain of iterators answers, in the words of specs/: what `s == t`, `s.starts_with(p)`,
-- `s.iter().all(..)` and `(0..n).all(..)`, `.any(..)` and `.find(..)` come to. Assumes nothing.
use Prim.Native.Nat.{ℕ, zero, suc, ◌+◌, ◌≤◌, ◌<◌}
use native.Mathlib.Nat.{zero-add, add-zero}
use native.Mathlib.Numerals.{add-one}
use native.Mathlib.Omega.{arith}
use mathlib.Core.Bool.{Bool, true, false, ◌&&◌, ◌||◌}
use mathlib.Core.List.{List, [], ◌∷◌, append_assoc}
use mathlib.Core.Path.{◌≡◌, refl, sym, ◌∙◌, ap}
use lib.Dec.{eqb}
use lib.ListN.{length, take, get_or}
use lib.Seq.{drop-drop}
use lib.Pointwise.{pointwise}
use borrow.Rule.Slice.PartMut.{put_mid}
use borrow.Author.Tests.{ne_eqb}
use Rattle.std.specs.Prelude.{Option, Some, None}
use Rattle.std.specs.List.{list_all, list_any, starts_with, range_with_len, find}
use Rattle.std.specs.Fn.{Called}
use Rattle.std.specs.Iterator.{YieldsThen}
use Rattle.std.specs.List.{FoldsTo}
use Rattle.std.specs.Option.{MatchOption}
use Rattle.std.specs.declared.ops.Range.{Range}
use Rattle.std.proofs.iter.Yields.{nat_range_steps}
use Rattle.std.proofs.lemmas.Iterator.{YieldsList-from_range}
use Rattle.std.proofs.lemmas.Iterator.Search.{all_from_yields_List, any_from_yields_List}
use denote.Param.Members.{Mut}
use Rattle.lists.specs.Below.{all_below, any_below}
use Rattle.lists.specs.Splice.{splice}
use Rattle.lists.specs.Lists.{is_empty, all, same, is_prefix_of}
use Rattle.lists.proofs.Cases.{by, clash, equal, eqb_comm, and-true, or-false}
use Rattle.lists.proofs.BelowLaws.{all_below_intro, all_below_elim}
use Rattle.lists.proofs.ListLaws.{all_elim, all_intro}

-- ---- slices

-- `s == t`
pub same_pointwise : (s t : List ℕ) → pointwise eqb s t ≡ same s t
unfolding same
same_pointwise [] [] = refl
same_pointwise [] (b ∷ t) = refl
same_pointwise (a ∷ s) [] = refl
same_pointwise (a ∷ s) (b ∷ t) = ap (λ v. eqb a b && v) (same_pointwise s t)

-- `s.is_empty()`
pub empty_length : {A : Type 0} (s : List A) → eqb (length s) 0 ≡ is_empty s
unfolding is_empty
empty_length [] = refl
empty_length (x ∷ s) = ne_eqb (length (x ∷ s)) 0 (λ e. omega (arith, e))

-- `s.starts_with(p)`
pub prefix_starts : (p s : List ℕ) → starts_with eqb s p ≡ is_prefix_of p s
unfolding is_prefix_of
prefix_starts [] s = refl
prefix_starts (a ∷ p) [] = refl
prefix_starts (a ∷ p) (b ∷ s) = ap (λ v. eqb a b && v) (prefix_starts p s)

-- `s.strip_prefix(p)`
pub prefix_taken : (p s : List ℕ) → pointwise eqb (take (length p) s) p ≡ is_prefix_of p s
unfolding is_prefix_of
prefix_taken [] s = refl
prefix_taken (a ∷ p) [] = refl
prefix_taken (a ∷ p) (b ∷ s) = ap (λ v. v && pointwise eqb (take (length p) s) p) (eqb_comm b a) ∙ ap (λ v. eqb a b && v) (prefix_taken p s)

-- `s.iter().all(p)`
pub all_list_all : {A : Type 0} (p : A → Bool) (s : List A) → list_all p s ≡ all p s
unfolding all
all_list_all p [] = refl
all_list_all p (x ∷ s) = ap (λ v. p x && v) (all_list_all p s)

-- `out[at..at + s.len()].copy_from_slice(s)`, as the borrow checker states what stands in `out` then
pub put_mid_splice : {A : Type 0} (at n : ℕ) (out s : List A) → n ≡ length s → put_mid at n out s ≡ splice out at s
unfolding splice
put_mid_splice at n out s e = simp (drop-drop, e, append_assoc)

-- ---- ranges of numbers

and_over : (a b c : Bool) → ((b && a) && c) ≡ (a && (b && c))
and_over true true c = refl
and_over true false c = refl
and_over false true c = refl
and_over false false c = refl

or_over : (a b c : Bool) → ((b || a) || c) ≡ (a || (b || c))
or_over true true c = refl
or_over true false c = refl
or_over false true c = refl
or_over false false c = refl

-- all_below at a bound that is one more
all_next : (p : ℕ → Bool) (a : ℕ) → all_below (a + 1) p ≡ (p a && all_below a p)
unfolding all_below
all_next p a = rw (add-one a)

any_next : (p : ℕ → Bool) (a : ℕ) → any_below (a + 1) p ≡ (p a || any_below a p)
unfolding any_below
any_next p a = rw (add-one a)

from_all : (p : ℕ → Bool) (a n : ℕ) → all_below (a + n) p ≡ (all_below a p && list_all p (range_with_len a n))
from_all p a zero = rw (add-zero a) (sym (and-true (all_below a p)))
from_all p a (suc n) =
    let e : a + suc n ≡ (a + 1) + n = omega arith in
    rw e (from_all p (a + 1) n ∙ (ap (λ v. v && list_all p (range_with_len (a + 1) n)) (all_next p a) ∙ and_over (all_below a p) (p a) (list_all p (range_with_len (a + 1) n))))

from_any : (p : ℕ → Bool) (a n : ℕ) → any_below (a + n) p ≡ (any_below a p || list_any p (range_with_len a n))
from_any p a zero = rw (add-zero a) (sym (or-false (any_below a p)))
from_any p a (suc n) =
    let e : a + suc n ≡ (a + 1) + n = omega arith in
    rw e (from_any p (a + 1) n ∙ (ap (λ v. v || list_any p (range_with_len (a + 1) n)) (any_next p a) ∙ or_over (any_below a p) (p a) (list_any p (range_with_len (a + 1) n))))

-- `(0..n).all(p)`
pub range_all : (n : ℕ) (p : ℕ → Bool) → list_all p (range_with_len 0 n) ≡ all_below n p
unfolding all_below
range_all n p = sym (rw (zero-add n) at (from_all p 0 n))

-- `(0..n).any(p)`
pub range_any : (n : ℕ) (p : ℕ → Bool) → list_any p (range_with_len 0 n) ≡ any_below n p
unfolding any_below
range_any n p = sym (rw (zero-add n) at (from_any p 0 n))

find_none : (p : ℕ → Bool) (a n : ℕ) → ((k : ℕ) → a ≤ k → k < a + n → p k ≡ false) → find p (range_with_len a n) ≡ None
find_none p a zero h = refl
find_none p a (suc n) h = rw (h a (omega arith) (omega arith)) (find_none p (a + 1) n (λ k l m. h k (omega arith) (omega arith)))

find_hit : (p : ℕ → Bool) (a n k : ℕ) → a ≤ k → k < a + n → p k ≡ true → ((i : ℕ) → a ≤ i → i < k → p i ≡ false) → find p (range_with_len a n) ≡ Some k
find_hit p a zero k l m e h = absurd (omega arith)
find_hit p a (suc n) k l m e h = equal a k
    (λ i. let f : p a ≡ true = rw i e in rw (f, i))
    (λ i. rw (h a (omega arith) (omega (arith, i))) (find_hit p (a + 1) n k (omega (arith, i)) (omega arith) e (λ j x y. h j (omega arith) y)))

-- what `(0..n).all(f)` and `(0..n).any(f)` answer, from the clause `ran` of the call, where the closure f computes p
pub all_of_range : {F : Type 0} {g : Mut F (ℕ × Unit {0}) Bool} (n : ℕ) (p : ℕ → Bool) (u : Range ℕ) (f : F) (r : Bool)
    → (xs : List ℕ) × (o : Option ℕ) × (j : F) × YieldsThen nat_range_steps (record { start = 0; end = n }) xs o u × FoldsTo (λ h x q. Called g h (x, tt) true q) f xs j × MatchOption o (r ≡ true) (λ x. (r ≡ false) × ((h : F) × Called g j (x, tt) false h))
    → ((x : ℕ) (b : Bool) (q : F) → Called g f (x, tt) b q → (q ≡ f) × (b ≡ p x)) → r ≡ all_below n p
all_of_range n p u f r ran k = all_from_yields_List p u f r ran (YieldsList-from_range 0 n n refl (omega arith)) k ∙ range_all n p

pub any_of_range : {F : Type 0} {g : Mut F (ℕ × Unit {0}) Bool} (n : ℕ) (p : ℕ → Bool) (u : Range ℕ) (f : F) (r : Bool)
    → (xs : List ℕ) × (o : Option ℕ) × (j : F) × YieldsThen nat_range_steps (record { start = 0; end = n }) xs o u × FoldsTo (λ h x q. Called g h (x, tt) false q) f xs j × MatchOption o (r ≡ false) (λ x. (r ≡ true) × ((h : F) × Called g j (x, tt) true h))
    → ((x : ℕ) (b : Bool) (q : F) → Called g f (x, tt) b q → (q ≡ f) × (b ≡ p x)) → r ≡ any_below n p
any_of_range n p u f r ran k = any_from_yields_List p u f r ran (YieldsList-from_range 0 n n refl (omega arith)) k ∙ range_any n p

-- `s.iter().all(p)` by places
pub list_all_below : {A : Type 0} (p : A → Bool) (s : List A) (d : A) → list_all p s ≡ all_below (length s) (λ i. p (get_or s i d))
list_all_below p s d =
    by (list_all p s)
    (λ t. t ∙ sym (all_below_intro (length s) (λ i. p (get_or s i d)) (λ i l. all_elim p s d (sym (all_list_all p s) ∙ t) i l)))
    (λ f. by (all_below (length s) (λ i. p (get_or s i d)))
    (λ t. clash (list_all p s) (all_list_all p s ∙ all_intro p s d (λ i l. all_below_elim (length s) (λ j. p (get_or s j d)) t i l)) f)
    (λ g. f ∙ sym g))
