-- The files of the search list are exactly those that are reached: the direct imports, and the public imports of files that are reached. Each
-- is in it once. Assumes nothing.
use mathlib.Core.Path.{◌≡◌, refl, sym, ◌∙◌}
use mathlib.Core.Bool.{true, false, ◌||◌}
use mathlib.Core.List.{List, [], ◌∷◌, ◌++◌}
use mathlib.Core.Logic.{◌⊎◌, inl, inr}
use Prim.Native.Nat.{ℕ, zero, suc, ◌<◌}
use native.Mathlib.Omega.{arith}
use lib.Dec.{eqb}
use borrow.Author.Tests.{eq-eqb, eqb-true}
use Rattle.lists.proofs.Cases.{by, either, clash}
use Rattle.link.specs.Search.{has, first_to_last, last_to_first, visit, search_list, Below}
use Rattle.link.proofs.SearchLaws.{search_keeps}
use Rattle.link.proofs.VisitLaws.{Earlier, has_more, has_last}

pub data Reached (publics : ℕ → List ℕ) (direct : List ℕ) : ℕ → Type 0 where
  imported : {f : ℕ} → has f direct ≡ true → Reached publics direct f
  onward : {f g : ℕ} → Reached publics direct f → has g (publics f) ≡ true → Reached publics direct g

-- no file is in a list twice
abbrev pub Once : List ℕ → Type 0
Once [] = Unit
Once (f ∷ fs) = (has f fs ≡ false) × Once fs

once_more : (l : List ℕ) (f : ℕ) → has f l ≡ false → Once l → Once (l ++ (f ∷ []))
unfolding has
once_more [] f h o = (refl, tt)
once_more (g ∷ l) f h o =
    by (eqb g f)
    (λ t. clash (eqb f g || has f l) (simp (eq-eqb f g (sym (eqb-true g f t)))) h)
    (λ t. by (has f l)
    (λ u. clash (eqb f g || has f l) (by (eqb f g) (λ v. simp v) (λ v. simp (v, u))) h)
    (λ u. (has_more g f l ∙ simp (o.0, t), once_more l f u o.1)))

-- ---- files of lists, by cases

has_cons : (g f : ℕ) (fs : List ℕ) → has g (f ∷ fs) ≡ true → (g ≡ f) ⊎ (has g fs ≡ true)
unfolding has
has_cons g f fs h = by (eqb g f) (λ t. inl (eqb-true g f t)) (λ t. inr (simp t at h))

has_before : (g f : ℕ) (l : List ℕ) → has g l ≡ true → has g (l ++ (f ∷ [])) ≡ true
has_before g f l h = has_more g f l ∙ simp h

-- in the list with one file more: in the list, or that file
has_after : (g f : ℕ) (l : List ℕ) → has g (l ++ (f ∷ [])) ≡ true → (has g l ≡ true) ⊎ (g ≡ f)
has_after g f l h = by (has g l) (λ t. inl t) (λ t. inr (eqb-true g f (simp t at (sym (has_more g f l) ∙ h))))

has_here : (f : ℕ) (fs : List ℕ) → has f (f ∷ fs) ≡ true
unfolding has
has_here f fs = rw (eq-eqb f f refl)

has_there : (g f : ℕ) (fs : List ℕ) → has g fs ≡ true → has g (f ∷ fs) ≡ true
unfolding has
has_there g f fs h = by (eqb g f) (λ t. simp t) (λ t. simp t h)

-- ---- nothing else is in the list: what holds of the direct imports, and goes over from a file to its public imports, holds of all

abbrev All : (ℕ → Type 0) → List ℕ → Type 0
All R l = (g : ℕ) → has g l ≡ true → R g

module _ (publics : ℕ → List ℕ) (R : ℕ → Type 0) (next : (f g : ℕ) → R f → has g (publics f) ≡ true → R g) where
  last_all : (step : List ℕ → ℕ → List ℕ) → ((l : List ℕ) (f : ℕ) → R f → All R l → All R (step l f)) → (l fs : List ℕ) → All R fs → All R l → All R (last_to_first step l fs)
  unfolding last_to_first
  last_all step k l [] a p = p
  last_all step k l (f ∷ fs) a p =
      k (last_to_first step l fs) f (a f (has_here f fs)) (last_all step k l fs (λ g h. a g (has_there g f fs h)) p)

  first_all : (step : List ℕ → ℕ → List ℕ) → ((l : List ℕ) (f : ℕ) → R f → All R l → All R (step l f)) → (l fs : List ℕ) → All R fs → All R l → All R (first_to_last step l fs)
  unfolding first_to_last
  first_all step k l [] a p = p
  first_all step k l (f ∷ fs) a p =
      first_all step k (step l f) fs (λ g h. a g (has_there g f fs h)) (k l f (a f (has_here f fs)) p)

  visit_all : (depth : ℕ) (l : List ℕ) (f : ℕ) → R f → All R l → All R (visit publics depth l f)
  unfolding visit
  visit_all zero l f r p = p
  visit_all (suc depth) l f r p =
      by (has f l) (λ t. simp t p)
      (λ t. simp t (last_all (visit publics depth) (visit_all depth) (l ++ (f ∷ [])) (publics f) (λ g h. next f g r h)
      (λ g h. either (has_after g f l h) (λ a. p g a) (λ e. rw e r))))

-- ---- all of them are: from l to l' nothing is lost, the files of A are in l', and so are the public imports of each file that came

record Grown (publics : ℕ → List ℕ) (l : List ℕ) (A : ℕ → Type 0) (l' : List ℕ) : Type 0 where
  kept : (g : ℕ) → has g l ≡ true → has g l' ≡ true
  got : (g : ℕ) → A g → has g l' ≡ true
  whole : (f g : ℕ) → has f l' ≡ true → has f l ≡ false → has g (publics f) ≡ true → has g l' ≡ true

module _ (publics : ℕ → List ℕ) where
  grown_then : {l l₁ l' : List ℕ} {A B C : ℕ → Type 0} → Grown publics l A l₁ → Grown publics l₁ B l' → ((g : ℕ) → C g → A g ⊎ B g) → Grown publics l C l'
  grown_then {l} {l₁} {l'} a b c =
      record {
        kept = λ g h. b.kept g (a.kept g h);
        got = λ g h. either (c g h) (λ x. b.kept g (a.got g x)) (λ x. b.got g x);
        whole = λ f g h m p. by (has f l₁) (λ t. b.kept g (a.whole f g t m p)) (λ t. b.whole f g h t p);
      }

  grown_none : (l : List ℕ) → Grown publics l (λ g. has g [] ≡ true) l
  unfolding has
  grown_none l = record { kept = λ g h. h; got = λ g h. clash false h refl; whole = λ f g h m p. clash (has f l) h m }

  -- a step lets the list grow by a file, for files below a bound
  abbrev Grows : ℕ → (List ℕ → ℕ → List ℕ) → Type 0
  Grows bound step = (l : List ℕ) (f : ℕ) → f < bound → Grown publics l (λ g. g ≡ f) (step l f)

  last_grown : (step : List ℕ → ℕ → List ℕ) (bound : ℕ) → Grows bound step → (l fs : List ℕ) → Below bound fs → Grown publics l (λ g. has g fs ≡ true) (last_to_first step l fs)
  unfolding last_to_first
  last_grown step bound k l [] b = grown_none l
  last_grown step bound k l (f ∷ fs) b =
      grown_then (last_grown step bound k l fs b.1) (k (last_to_first step l fs) f b.0)
      (λ g h. either (has_cons g f fs h) (λ e. inr e) (λ t. inl t))

  first_grown : (step : List ℕ → ℕ → List ℕ) (bound : ℕ) → Grows bound step → (l fs : List ℕ) → Below bound fs → Grown publics l (λ g. has g fs ≡ true) (first_to_last step l fs)
  unfolding first_to_last
  first_grown step bound k l [] b = grown_none l
  first_grown step bound k l (f ∷ fs) b =
      grown_then (k l f b.0) (first_grown step bound k (step l f) fs b.1) (λ g h. has_cons g f fs h)

  module _ (n : ℕ) (earlier : Earlier publics n) where
    visit-grown : (depth : ℕ) (l : List ℕ) (f : ℕ) → f < n → f < depth → Grown publics l (λ g. g ≡ f) (visit publics depth l f)
    unfolding visit
    visit-grown zero l f h d = absurd (omega arith)
    visit-grown (suc depth) l f h d =
        by (has f l)
        (λ t. simp t (record { kept = λ g a. a; got = λ g e. rw e t; whole = λ x g a b p. clash (has x l) a b }))
        (λ t. let r = last_grown (visit publics depth) f (λ m g k. visit-grown depth m g (omega arith) (omega arith)) (l ++ (f ∷ [])) (publics f) (earlier f h) in
        simp t (record {
          kept = λ g a. r.kept g (has_before g f l a);
          got = λ g e. rw e (r.kept f (has_last f l));
          whole = λ x g a b p. by (has x (l ++ (f ∷ [])))
              (λ u. either (has_after x f l u) (λ v. clash (has x l) v b) (λ e. r.got g (rw e at p)))
              (λ u. r.whole x g a u p);
        }))

    -- ---- a file is in the search list exactly if it is reached

    module _ (direct : List ℕ) (inside : Below n direct) where
      pub search_sound : (g : ℕ) → has g (search_list publics n direct) ≡ true → Reached publics direct g
      unfolding search_list has
      search_sound =
          first_all publics (Reached publics direct) (λ f g r h. onward {f = f} r h) (visit publics n) (visit_all publics (Reached publics direct) (λ f g r h. onward {f = f} r h) n)
          [] direct (λ g h. imported h) (λ g h. clash false h refl)

      search_grown : Grown publics [] (λ g. has g direct ≡ true) (search_list publics n direct)
      unfolding search_list
      search_grown = first_grown (visit publics n) n (λ l f h. visit-grown n l f h h) [] direct inside

      pub search_complete : (g : ℕ) → Reached publics direct g → has g (search_list publics n direct) ≡ true
      unfolding has
      search_complete g (imported h) = search_grown.got g h
      search_complete g (onward {f} r h) = search_grown.whole f g (search_complete f r) refl h

      pub search_once : Once (search_list publics n direct)
      search_once = search_keeps (λ l. Once l) n publics earlier (λ l f h t p. once_more l f t p) direct inside tt
