-- Laws of lookups by path: what a search has found when it stops, and that where rule 8 is kept each message and enum is found by its own
-- path. Assumes nothing.
use mathlib.Core.Path.{◌≡◌}
use mathlib.Core.Bool.{Bool, true, false}
use mathlib.Core.List.{List}
use Prim.Native.Nat.{ℕ, ◌+◌, ◌<◌}
use native.Mathlib.Omega.{arith}
use borrow.Author.Tests.{lt-ltb}
use Rattle.lists.specs.Below.{any_below}
use Rattle.lists.specs.Lists.{same}
use Rattle.lists.proofs.BelowLaws.{any_below_false, any_below_none, first_is}
use Rattle.lists.proofs.ListLaws.{same_refl}
use Rattle.image.specs.Schema.{Schema}
use Rattle.image.specs.FullName.{message_path, enum_path, items, item_path, shares_name}
use Rattle.image.specs.Lookup.{first_flat, message_by_path, enum_by_path}
use Rattle.image.specs.Chained.{Named}
use Rattle.std.specs.Prelude.{Some}
use Rattle.image.proofs.ItemLaws.{message_path_as, enum_path_as}
use Rattle.image.proofs.SiblingLaws.{shares_paths}

pub flat_hit : (n : ℕ) (p : ℕ → Bool) (k : ℕ) → k < n → any_below k p ≡ false → p k ≡ true → first_flat n p ≡ Some (record { 0 = k })
unfolding first_flat
flat_hit n p k l h e = rw (first_is n p n k l e (any_below_false k p h), lt-ltb k n l)

-- ---- where rule 8 is kept

module _ {g : Schema} {links : List ℕ} (named : Named g links) (kept : shares_name g links ≡ false) where
  -- two items have two paths
  pub paths_differ : (i j : ℕ) → i < items g → j < i → same (item_path g links i) (item_path g links j) ≡ false
  paths_differ i j h l =
      any_below_false i (λ k. same (item_path g links i) (item_path g links k))
      (any_below_false (items g) (λ x. any_below x (λ k. same (item_path g links x) (item_path g links k))) (rw (← shares_paths named) kept) i h) j l

  -- and each message, and each enum, is found by its own
  pub found_by_path : (m : ℕ) → m < g.messages → message_by_path g links (message_path g links 16 m) ≡ Some (record { 0 = m })
  unfolding message_by_path
  found_by_path m h =
      let p : ℕ → Bool = λ x. same (message_path g links 16 m) (message_path g links 16 x) in
      flat_hit g.messages p m h
      (any_below_none m p (λ x l. rw (← message_path_as g links m h, ← message_path_as g links x (omega arith)) (paths_differ m x (omega arith) l)))
      (same_refl (message_path g links 16 m))

  pub enum_by_path_lem : (e : ℕ) → e < g.enums → enum_by_path g links (enum_path g links e) ≡ Some (record { 0 = e })
  unfolding enum_by_path
  enum_by_path_lem e h =
      let p : ℕ → Bool = λ x. same (enum_path g links e) (enum_path g links x) in
      flat_hit g.enums p e h
      (any_below_none e p (λ x l. rw (← enum_path_as g links e, ← enum_path_as g links x) (paths_differ (g.messages + e) (g.messages + x) (omega arith) (omega arith))))
      (same_refl (enum_path g links e))
