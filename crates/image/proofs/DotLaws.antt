-- Joined texts whose last segment has no dot: the same exactly if the last segments are, and what stands in front. Assumes nothing.
use mathlib.Core.Path.{◌≡◌, refl, sym, ap, ◌∙◌}
use mathlib.Core.Bool.{Bool, true, false, cond, not, ◌&&◌}
use mathlib.Core.List.{List, [], ◌∷◌, ◌++◌}
use Prim.Native.Nat.{ℕ, ◌<◌}
use native.Mathlib.Omega.{arith}
use lib.Dec.{eqb}
use lib.ListN.{length, length-append}
use borrow.Author.Tests.{eqb-true}
use Rattle.lists.specs.Lists.{all, same}
use Rattle.lists.proofs.Cases.{by, clash, left, right, and-true, both}
use Rattle.lists.proofs.ListLaws.{same_refl, same_is, same_differ, same_lengths, same_append, same_prefix, all_weaker}
use Rattle.names.specs.Bytes.{starts_identifier, continues_identifier, is_identifier}
use Rattle.names.specs.Package.{concat_paths}
use Rattle.image.specs.Chained.{dotless}

-- what follows the last dot: t, as long as none has come
after : List ℕ → List ℕ → List ℕ
after t [] = t
after t (b ∷ s) = cond (eqb b 46) (after s s) (after t s)

after_dotless : (u t : List ℕ) → dotless t ≡ true → after u t ≡ u
unfolding dotless after
after_dotless u [] h = refl
after_dotless u (b ∷ t) h =
    by (eqb b 46) (λ e. clash false (simp e at h) refl) (λ e. simp e (after_dotless u t (simp e at h)))

after_dot : (u s t : List ℕ) → dotless t ≡ true → after u (s ++ 46 ∷ t) ≡ t
unfolding after
after_dot u [] t h = after_dotless t t h
after_dot u (b ∷ s) t h = by (eqb b 46) (λ e. simp e (after_dot (s ++ 46 ∷ t) s t h)) (λ e. simp e (after_dot u s t h))

after_concat : (s t : List ℕ) → 0 < length t → dotless t ≡ true → after (concat_paths s t) (concat_paths s t) ≡ t
unfolding concat_paths
after_concat [] t h d = after_dotless t t d
after_concat (a ∷ s) [] h d = absurd (omega arith)
after_concat (a ∷ s) (b ∷ t) h d = after_dot ((a ∷ s) ++ 46 ∷ b ∷ t) (a ∷ s) (b ∷ t) d

-- texts with one last segment
same_fronts : (s s' t : List ℕ) → 0 < length t → same (concat_paths s t) (concat_paths s' t) ≡ same s s'
unfolding concat_paths same
same_fronts s s' [] h = absurd (omega arith)
same_fronts [] [] (b ∷ t) h = same_refl (b ∷ t)
same_fronts [] (y ∷ s') (b ∷ t) h = same_lengths (b ∷ t) ((y ∷ s') ++ 46 ∷ b ∷ t) (λ q. absurd (omega (arith, q, length-append s' (46 ∷ b ∷ t))))
same_fronts (x ∷ s) [] (b ∷ t) h = same_lengths ((x ∷ s) ++ 46 ∷ b ∷ t) (b ∷ t) (λ q. absurd (omega (arith, q, length-append s (46 ∷ b ∷ t))))
same_fronts (x ∷ s) (y ∷ s') (b ∷ t) h =
    same_append (x ∷ s) (y ∷ s') (46 ∷ b ∷ t) (46 ∷ b ∷ t) refl
    ∙ ap (λ (q : Bool). same (x ∷ s) (y ∷ s') && q) (same_refl (46 ∷ b ∷ t)) ∙ and-true (same (x ∷ s) (y ∷ s'))

pub same_concat : (s t s' t' : List ℕ) → 0 < length t → 0 < length t' → dotless t ≡ true → dotless t' ≡ true
    → same (concat_paths s t) (concat_paths s' t') ≡ same t t' && same s s'
same_concat s t s' t' h h' d d' =
    by (same t t')
    (λ e. simp e (rw (← same_is t t' e) (same_fronts s s' t h)))
    (λ e. simp e (same_differ (concat_paths s t) (concat_paths s' t')
    (λ q. let p : t ≡ t' = sym (after_concat s t h d) ∙ ap (λ (l : List ℕ). after l l) q ∙ after_concat s' t' h' d' in
    clash (same t t') (rw (← p) (same_refl t)) e)))

-- one package in front of both changes nothing
pub same_beneath : (k s t : List ℕ) → 0 < length s → 0 < length t → same (concat_paths k s) (concat_paths k t) ≡ same s t
unfolding concat_paths same
same_beneath [] s t h m = refl
same_beneath (a ∷ k) [] t h m = absurd (omega arith)
same_beneath (a ∷ k) (b ∷ s) [] h m = absurd (omega arith)
same_beneath (a ∷ k) (b ∷ s) (d ∷ t) h m = same_prefix (a ∷ k) (46 ∷ b ∷ s) (46 ∷ d ∷ t)

-- ---- identifiers

continues_dotless : (b : ℕ) → continues_identifier b ≡ true → not (eqb b 46) ≡ true
unfolding continues_identifier
continues_dotless b h = by (eqb b 46) (λ e. clash (continues_identifier b) h (rw (eqb-true b 46 e))) (λ e. rw e)

pub identifier_given : (t : List ℕ) → is_identifier t ≡ true → 0 < length t
unfolding is_identifier
identifier_given [] h = clash false h refl
identifier_given (b ∷ t) h = omega arith

pub identifier_dotless : (t : List ℕ) → is_identifier t ≡ true → dotless t ≡ true
unfolding is_identifier dotless
identifier_dotless [] h = refl
identifier_dotless (b ∷ t) h =
    both (not (eqb b 46)) (all (λ x. not (eqb x 46)) t)
    (continues_dotless b (rw (left (starts_identifier b) (all continues_identifier t) h)))
    (all_weaker continues_identifier (λ x. not (eqb x 46)) t continues_dotless (right (starts_identifier b) (all continues_identifier t) h))
