-- Laws of paths, by what is known of the names on the way up. Assumes nothing.
use mathlib.Core.Path.{◌≡◌, refl, sym, ap, ◌∙◌}
use mathlib.Core.Bool.{true, false}
use mathlib.Core.List.{List, [], ◌∷◌}
use Prim.Native.Nat.{ℕ, zero, suc, ◌+◌, ◌*◌, ◌-◌, ◌≤◌, ◌<◌}
use native.Mathlib.Numerals.{sub-one}
use native.Mathlib.Omega.{arith}
use lib.Dec.{eqb}
use lib.ListN.{length, take}
use Rattle.lists.specs.Lists.{same, is_empty}
use Rattle.lists.proofs.Cases.{by, equal}
use Rattle.names.specs.Package.{concat_paths}
use Rattle.image.specs.FullName.{inside, path}
use Rattle.image.specs.Climb.{path_above, named_up}
use Rattle.image.specs.MapEntry.{ends_with}
use Rattle.image.proofs.TextLaws.{empty_some}
use Rattle.image.proofs.PathTexts.{concat_none, concat_nil, concat_both, concat_some, empty_is, joined_le, same_nil, ends_same, ends-not}

pub inside_none : (f : ℕ → List ℕ) (a : ℕ) → a ≡ 0 → inside f a ≡ []
unfolding inside
inside_none f zero h = refl
inside_none f (suc p) h = absurd (omega arith)

pub inside_of : (f : ℕ → List ℕ) (a : ℕ) → (a ≡ 0 → ⊥) → inside f a ≡ f (a - 1)
unfolding inside
inside_of f zero h = absurd (h refl)
inside_of f (suc p) h = ap f (sym (sub-one (suc p)))

module _ (name : ℕ → List ℕ) (up : ℕ → ℕ) where
  pub path_above_lem : (d m : ℕ) → path name up d m ≡ concat_paths (path_above name up d (up m)) (name m)
  unfolding path_above
  path_above_lem zero m = refl
  path_above_lem (suc d) m = refl

  -- a path is empty exactly if the own name is
  path_none : (d m : ℕ) → length (name m) ≡ 0 → path name up d m ≡ []
  path_none d m e = path_above_lem d m ∙ concat_nil (path_above name up d (up m)) (name m) e

  pub path_some : (d m : ℕ) → 0 < length (name m) → 0 < length (path name up d m)
  path_some d m h = rw (path_above_lem d m) (concat_some (path_above name up d (up m)) (name m) h)

  -- ---- what stands in front of a name, and its enclosing word, 0 where nothing does

  above_top : (d a : ℕ) → a ≡ 0 → path_above name up d a ≡ []
  unfolding path_above
  above_top zero a e = refl
  above_top (suc d) a e = inside_none (path name up d) a e

  above_flat : (d a : ℕ) → d ≡ 0 → path_above name up d a ≡ []
  unfolding path_above
  above_flat zero a e = refl
  above_flat (suc d) a e = absurd (omega arith)

  above_of : (d a : ℕ) → (d ≡ 0 → ⊥) → (a ≡ 0 → ⊥) → path_above name up d a ≡ path name up (d - 1) (a - 1)
  unfolding path_above
  above_of zero a l h = absurd (l refl)
  above_of (suc d) a l h = rw (sub-one (suc d)) (inside_of (path name up d) a h)

  pub named_flat : (d a : ℕ) → d ≡ 0 → named_up name up d a ≡ 0
  unfolding named_up
  named_flat d a e = rw (above_flat d a e)

  pub named_top : (d a : ℕ) → a ≡ 0 → named_up name up d a ≡ 0
  unfolding named_up
  named_top d a e = rw (above_top d a e)

  pub named_none : (d a : ℕ) → (d ≡ 0 → ⊥) → (a ≡ 0 → ⊥) → length (name (a - 1)) ≡ 0 → named_up name up d a ≡ 0
  unfolding named_up
  named_none d a l h e = rw (above_of d a l h, path_none (d - 1) (a - 1) e)

  pub named_some : (d a : ℕ) → (d ≡ 0 → ⊥) → (a ≡ 0 → ⊥) → (length (name (a - 1)) ≡ 0 → ⊥) → named_up name up d a ≡ a
  unfolding named_up
  named_some d a l h n =
      let z : length (path name up (d - 1) (a - 1)) ≡ 0 → ⊥ = λ q. omega (arith, q, path_some (d - 1) (a - 1) (omega (arith, n))) in
      rw (above_of d a l h, empty_some (path name up (d - 1) (a - 1)) z)

  above_none : (d a : ℕ) → named_up name up d a ≡ 0 → path_above name up d a ≡ []
  unfolding named_up
  above_none d a e =
      by (is_empty (path_above name up d a))
      (λ t. empty_is (path_above name up d a) t)
      (λ t. above_top d a (simp t at e))

  pub no_step : (d a : ℕ) {w : ℕ} → w ≡ named_up name up d a → w ≡ 0 → path_above name up d a ≡ []
  no_step d a e z = above_none d a (sym e ∙ z)

  -- there is a message that encloses, and it has a name: what stands in front is its path. The word w has been read
  pub record Step (d a w : ℕ) : Type 0 where
    pub levels : d ≡ 0 → ⊥
    pub named : 0 < length (name (w - 1))
    pub is : path_above name up d a ≡ concat_paths (path_above name up (d - 1) (up (w - 1))) (name (w - 1))
    pub given : 0 < length (path_above name up d a)

  step_at : (d a : ℕ) → (d ≡ 0 → ⊥) → (a ≡ 0 → ⊥) → (length (name (a - 1)) ≡ 0 → ⊥) → Step d a a
  step_at d a l h n =
      record {
        levels = l;
        named = omega (arith, n);
        is = above_of d a l h ∙ path_above_lem (d - 1) (a - 1);
        given = rw (above_of d a l h) (path_some (d - 1) (a - 1) (omega (arith, n)));
      }

  pub step : (d a : ℕ) {w : ℕ} → w ≡ named_up name up d a → (w ≡ 0 → ⊥) → Step d a w
  step d a {w} e h =
      let l : d ≡ 0 → ⊥ = λ z. h (e ∙ named_flat d a z) in
      let i : a ≡ 0 → ⊥ = λ z. h (e ∙ named_top d a z) in
      let n : length (name (a - 1)) ≡ 0 → ⊥ = λ z. h (e ∙ named_none d a l i z) in
      rw (e ∙ named_some d a l i n) (step_at d a l i n)

  -- ---- lengths, where no name has 2^32 bytes

  module _ (short : (m : ℕ) → length (name m) < 4294967296) where
    -- a level has a name and a dot
    path_short : (d m : ℕ) → length (path name up d m) < 4294967296 * (d + 1)
    unfolding path
    path_short zero m = omega (arith, short m)
    path_short (suc d) m = omega (arith, joined_le (inside (path name up d) (up m)) (name m), inside_short d (path_short d) (up m), short m)
      where
        inside_short : (d : ℕ) → ((m : ℕ) → length (path name up d m) < 4294967296 * (d + 1)) → (a : ℕ) → length (inside (path name up d) a) < 4294967296 * (d + 1)
        inside_short d ih a = equal a 0 (λ z. rw (inside_none (path name up d) a z) (omega arith)) (λ h. rw (inside_of (path name up d) a h) (ih (a - 1)))

    pub above_short : (d a : ℕ) → length (path_above name up d a) ≤ 4294967296 * d
    above_short d a =
        equal d 0
        (λ z. rw (above_flat d a z) (omega arith))
        (λ l. equal a 0
        (λ z. rw (above_top d a z) (omega arith))
        (λ h. rw (above_of d a l h) (omega (arith, l, path_short (d - 1) (a - 1)))))

-- ---- whether w is what stands in front, x, joined with the name t

module _ (w x t : List ℕ) where
  pub joined_nameless : length t ≡ 0 → eqb (length w) 0 ≡ same w (concat_paths x t)
  joined_nameless e = rw (concat_nil x t e) (sym (same_nil w))

  pub joined_alone : x ≡ [] → same w t ≡ same w (concat_paths x t)
  joined_alone e = rw (e, concat_none t)

  module _ (h : 0 < length x) (n : length t ≡ 0 → ⊥) where
    pub joined-not : ends_with w (46 ∷ t) ≡ false → false ≡ same w (concat_paths x t)
    joined-not e = rw (concat_both x t h (omega (arith, n))) (sym (ends-not w x (46 ∷ t) e))

    pub joined-front : {y : List ℕ} → x ≡ y → ends_with w (46 ∷ t) ≡ true → same (take (length w - length t - 1) w) y ≡ same w (concat_paths x t)
    joined-front q e =
        let k : length w - length t - 1 ≡ length w - suc (length t) = omega arith in
        rw (concat_both x t h (omega (arith, n)), k, ← q) (sym (ends_same w x (46 ∷ t) e))
