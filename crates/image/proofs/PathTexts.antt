-- Laws of texts that are joined, and of texts that end in others. Assumes nothing.
use mathlib.Core.Path.{◌≡◌, refl, sym, ap, ◌∙◌}
use mathlib.Core.Bool.{Bool, true, false, ◌&&◌}
use mathlib.Core.List.{List, [], ◌∷◌, ◌++◌, append_assoc}
use Prim.Native.Nat.{ℕ, suc, ◌+◌, ◌-◌, ◌≤◌, ◌<◌}
use native.Mathlib.Omega.{arith}
use lib.Dec.{leb, eqb}
use lib.ListN.{length, get_or, take, drop, length-append, take-append-drop}
use lib.Seq.{drop_at, drop-cons, get_or-drop}
use borrow.Author.Tests.{eq-eqb, ne_eqb, le-leb, leb-true}
use Rattle.lists.specs.Lists.{same, is_empty}
use Rattle.lists.proofs.Cases.{clash, left, right, and-true}
use Rattle.lists.proofs.ListLaws.{same_refl, same_is, same_differ, same_append}
use Rattle.names.specs.Package.{concat_paths}
use Rattle.image.specs.Climb.{joined_length, last_byte, lead, may_end_in}
use Rattle.image.specs.MapEntry.{ends_with}
use Rattle.image.proofs.TextLaws.{empty_some}

-- ---- joined texts

pub concat_none : (t : List ℕ) → concat_paths [] t ≡ t
unfolding concat_paths
concat_none t = refl

pub concat_nil : (s t : List ℕ) → length t ≡ 0 → concat_paths s t ≡ []
unfolding concat_paths
concat_nil [] [] h = refl
concat_nil (a ∷ s) [] h = refl
concat_nil s (b ∷ t) h = absurd (omega arith)

pub concat_both : (s t : List ℕ) → 0 < length s → 0 < length t → concat_paths s t ≡ s ++ 46 ∷ t
unfolding concat_paths
concat_both [] t n m = absurd (omega arith)
concat_both (a ∷ s) [] n m = absurd (omega arith)
concat_both (a ∷ s) (b ∷ t) n m = refl

pub concat_some : (s t : List ℕ) → 0 < length t → 0 < length (concat_paths s t)
unfolding concat_paths
concat_some [] t h = h
concat_some (a ∷ s) [] h = absurd (omega arith)
concat_some (a ∷ s) (b ∷ t) h = omega arith

pub concat-length : (s t : List ℕ) → length (concat_paths s t) ≡ joined_length (length s) (length t)
unfolding concat_paths
concat-length [] [] = refl
concat-length [] (b ∷ t) = rw (ne_eqb (suc (length t)) 0 (λ e. omega arith))
concat-length (a ∷ s) [] = refl
concat-length (a ∷ s) (b ∷ t) =
    rw (ne_eqb (suc (length t)) 0 (λ e. omega arith), ne_eqb (suc (length s)) 0 (λ e. omega arith)) (omega (arith, length-append s (46 ∷ b ∷ t)))

pub joined_le : (s t : List ℕ) → length (concat_paths s t) ≤ length s + 1 + length t
unfolding concat_paths
joined_le [] t = omega arith
joined_le (a ∷ s) [] = omega arith
joined_le (a ∷ s) (b ∷ t) = omega (arith, length-append s (46 ∷ b ∷ t))

pub empty_is : (l : List ℕ) → is_empty l ≡ true → l ≡ []
unfolding is_empty
empty_is [] h = refl
empty_is (x ∷ l) h = clash false h refl

-- ---- the package in front, and what it leads to

pub lead_none : (k x : List ℕ) → x ≡ [] → lead k x ≡ k
unfolding lead
lead_none k x e = rw e

-- the package before a joined name is the lead joined with the name
pub concat-lead : (k x t : List ℕ) → 0 < length t → concat_paths k (concat_paths x t) ≡ concat_paths (lead k x) t
unfolding concat_paths lead
concat-lead k [] t h = refl
concat-lead k (a ∷ x) [] h = absurd (omega arith)
concat-lead [] (a ∷ x) (b ∷ t) h = refl
concat-lead (d ∷ k) (a ∷ x) (b ∷ t) h = rw (append_assoc (d ∷ k) (46 ∷ a ∷ x) (46 ∷ b ∷ t))

-- where something leads, a level more of it
pub lead_some : (k x y t : List ℕ) → 0 < length t → x ≡ concat_paths y t → lead k x ≡ concat_paths (lead k y) t
unfolding lead
lead_some k x y t h e =
    let n : length x ≡ 0 → ⊥ = λ z. omega (arith, rw e at z, concat_some y t h) in
    rw (empty_some x n, e) (concat-lead k y t h)

-- ---- a text against another that it is to be

pub same_nil : (w : List ℕ) → same w [] ≡ eqb (length w) 0
unfolding same
same_nil [] = refl
same_nil (b ∷ w) = sym (ne_eqb (suc (length w)) 0 (λ e. omega arith))

-- what a text ends in is what is left of it
ends_tail : (w t : List ℕ) → ends_with w t ≡ true → drop (length w - length t) w ≡ t
ends_tail w t e = same_is (drop (length w - length t) w) t (right (leb (length t) (length w)) (same (drop (length w - length t) w) t) e)

-- where both end in t, what is in front of it decides
pub ends_same : (w s t : List ℕ) → ends_with w t ≡ true → same w (s ++ t) ≡ same (take (length w - length t) w) s
ends_same w s t e =
    let u = take (length w - length t) w in
    let split : w ≡ u ++ t = sym (take-append-drop (length w - length t) w) ∙ ap (λ (l : List ℕ). u ++ l) (ends_tail w t e) in
    ap (λ (l : List ℕ). same l (s ++ t)) split
    ∙ same_append u s t t refl
    ∙ ap (λ (q : Bool). same u s && q) (same_refl t)
    ∙ and-true (same u s)

ends-append : (s t : List ℕ) → ends_with (s ++ t) t ≡ true
ends-append s t =
    let n : length (s ++ t) - length t ≡ length s = omega (arith, length-append s t) in
    rw (le-leb (length t) (length (s ++ t)) (omega (arith, length-append s t)), n, drop_at s t (length s) refl) (same_refl t)

pub ends-not : (w s t : List ℕ) → ends_with w t ≡ false → same w (s ++ t) ≡ false
ends-not w s t e = same_differ w (s ++ t) (λ q. clash (ends_with w t) (rw q (ends-append s t)) e)

pub ends-length : (w t : List ℕ) → ends_with w t ≡ true → length t ≤ length w
ends-length w t e = leb-true (length t) (length w) (left (leb (length t) (length w)) (same (drop (length w - length t) w) t) e)

-- a text that ends in a dot and then a name, test by test
module _ (w t : List ℕ) where
  ends_at : (k : ℕ) → length w - suc (length t) ≡ k → length w - length t ≡ suc k → length t < length w
      → ends_with w (46 ∷ t) ≡ eqb (get_or w k 0) 46 && same (drop (length w - length t) w) t
  unfolding same
  ends_at k n m h = rw (le-leb (suc (length t)) (length w) (omega arith), n, m, drop-cons w k 0 (omega arith))

  pub ends-dot : length t < length w
      → ends_with w (46 ∷ t) ≡ eqb (get_or w (length w - length t - 1) 0) 46 && same (drop (length w - length t) w) t
  ends-dot h = ends_at (length w - length t - 1) (omega arith) (omega arith) h

-- ---- a text that does not end as a name does is no path of what has that name

-- test by test
pub may_nameless : (w t : List ℕ) → length t ≡ 0 → may_end_in w t ≡ true
unfolding may_end_in is_empty
may_nameless w [] h = refl
may_nameless w (b ∷ t) h = absurd (omega arith)

module _ (w t : List ℕ) (some : length t ≡ 0 → ⊥) where
  pub may_byte : length t ≤ length w → may_end_in w t ≡ eqb (last_byte w) (last_byte t)
  unfolding may_end_in
  may_byte h = simp (empty_some t some, le-leb (length t) (length w) h)

ends_bytes : (w t : List ℕ) → ends_with w t ≡ true → 0 < length t → last_byte w ≡ last_byte t
ends_bytes w t e h =
    let l = ends-length w t e in
    let n : length w - 1 ≡ length w - length t + (length t - 1) = omega arith in
    ap (λ (k : ℕ). get_or w k 0) n
    ∙ sym (get_or-drop (length w - length t) w (length t - 1) 0)
    ∙ ap (λ (l : List ℕ). get_or l (length t - 1) 0) (ends_tail w t e)

joined-ends : (s t : List ℕ) → ends_with (concat_paths s t) t ≡ true
unfolding concat_paths
joined-ends [] t = ends-append [] t
joined-ends (a ∷ s) [] = ends-append [] []
joined-ends (a ∷ s) (b ∷ t) =
    sym (ap (λ (l : List ℕ). ends_with l (b ∷ t)) (append_assoc (a ∷ s) (46 ∷ []) (b ∷ t))) ∙ ends-append ((a ∷ s) ++ 46 ∷ []) (b ∷ t)

joined_may : (s t : List ℕ) → may_end_in (concat_paths s t) t ≡ true
joined_may s [] = may_nameless (concat_paths s []) [] refl
joined_may s (b ∷ t) =
    let w = concat_paths s (b ∷ t) in
    let e = joined-ends s (b ∷ t) in
    may_byte w (b ∷ t) (λ z. omega arith) (ends-length w (b ∷ t) e) ∙ eq-eqb (last_byte w) (last_byte (b ∷ t)) (ends_bytes w (b ∷ t) e (omega arith))

pub may_not : (w s t : List ℕ) → may_end_in w t ≡ false → same w (concat_paths s t) ≡ false
may_not w s t e = same_differ w (concat_paths s t) (λ q. clash (may_end_in w t) (rw q (joined_may s t)) e)
