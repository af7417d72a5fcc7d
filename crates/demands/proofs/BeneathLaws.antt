-- A full name behind a dot lies beneath its package, and what is left of it there is the path. Assumes nothing.
use mathlib.Core.Path.{◌≡◌, refl, sym, ap, ◌∙◌}
use mathlib.Core.Bool.{true, false}
use mathlib.Core.List.{List, [], ◌∷◌, ◌++◌, append_assoc}
use Prim.Native.Nat.{ℕ, ◌<◌}
use native.Mathlib.Omega.{arith}
use lib.Dec.{eqb}
use lib.ListN.{length, drop}
use lib.Seq.{drop_at}
use borrow.Author.Tests.{eq-eqb, eqb-true}
use Rattle.lists.specs.Lists.{is_prefix_of}
use Rattle.lists.proofs.Cases.{clash, left, right}
use Rattle.names.specs.Bytes.{dot}
use Rattle.names.specs.Package.{concat_paths, lead_of, lies_beneath, rest_beneath}
use Rattle.names.proofs.PackageLaws.{rest_some}

prefix_joined : (p t : List ℕ) → is_prefix_of p (p ++ t) ≡ true
unfolding is_prefix_of
prefix_joined [] t = refl
prefix_joined (a ∷ p) t = rw (eq-eqb a a refl) (prefix_joined p t)

prefix_splits : (p s : List ℕ) → is_prefix_of p s ≡ true → s ≡ p ++ drop (length p) s
unfolding is_prefix_of
prefix_splits [] s h = refl
prefix_splits (a ∷ p) [] h = clash false h refl
prefix_splits (a ∷ p) (b ∷ s) h =
    ap (λ (x : ℕ). x ∷ s) (sym (eqb-true a b (left (eqb a b) (is_prefix_of p s) h)))
    ∙ ap (λ (l : List ℕ). a ∷ l) (prefix_splits p s (right (eqb a b) (is_prefix_of p s) h))

-- a package and a path, joined behind a dot
lead-joined : (p t : List ℕ) → 0 < length t → dot ∷ concat_paths p t ≡ lead_of p ++ t
unfolding concat_paths lead_of
lead-joined p [] h = absurd (omega arith)
lead-joined [] (b ∷ t) h = refl
lead-joined (a ∷ p) (b ∷ t) h = simp append_assoc

module _ (p t : List ℕ) (given : 0 < length t) where
  pub full_lies : lies_beneath (dot ∷ concat_paths p t) p ≡ true
  unfolding lies_beneath
  full_lies = ap (is_prefix_of (lead_of p)) (lead-joined p t given) ∙ prefix_joined (lead_of p) t

  pub full_rest : rest_beneath (dot ∷ concat_paths p t) p ≡ t
  full_rest =
      rest_some (dot ∷ concat_paths p t) p full_lies
      ∙ ap (drop (length (lead_of p))) (lead-joined p t given)
      ∙ drop_at (lead_of p) t (length (lead_of p)) refl

-- and nothing else has that path beneath that package
pub full_only : (name p t : List ℕ) → lies_beneath name p ≡ true → rest_beneath name p ≡ t → 0 < length t → name ≡ dot ∷ concat_paths p t
unfolding lies_beneath
full_only name p t l r h =
    prefix_splits (lead_of p) name l
    ∙ ap (λ (x : List ℕ). lead_of p ++ x) (sym (rest_some name p l) ∙ r)
    ∙ sym (lead-joined p t h)
