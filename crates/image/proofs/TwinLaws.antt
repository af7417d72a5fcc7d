-- Laws of the marks by which messages and enums are told apart. Assumes nothing.
use Prim.Native.Nat.{ℕ, ◌+◌}
use mathlib.Core.Path.{◌≡◌}
use mathlib.Core.List.{List}
use mathlib.Core.Bool.{true, false}
use lib.Dec.{eqb}
use borrow.Author.Tests.{eqb-true}
use Rattle.lists.specs.Below.{any_below}
use Rattle.lists.specs.Lists.{same}
use Rattle.lists.proofs.BelowLaws.{any_below_none}
use Rattle.lists.proofs.Cases.{by, clash, left, right}
use Rattle.lists.proofs.ListLaws.{same_is}
use Rattle.image.specs.Chained.{siblings}
use Rattle.image.specs.FullName.{item_name, item_up}
use Rattle.image.specs.Schema.{Schema}
use Rattle.image.specs.Seen.{is_seen, item_key, see}
use Rattle.image.proofs.SeenLaws.{Marked, length-see, marked_more, marked_some, see_keeps, see_marks}

module _ (g : Schema) (links : List ℕ) where
  key_siblings : (i j : ℕ) → siblings g links i j ≡ true → item_key g links i ≡ item_key g links j
  unfolding siblings item_key
  key_siblings i j e =
      let up = eqb-true (item_up g links i) (item_up g links j) (left (eqb (item_up g links i) (item_up g links j)) (same (item_name g links i) (item_name g links j)) e) in
      let name = same_is (item_name g links i) (item_name g links j) (right (eqb (item_up g links i) (item_up g links j)) (same (item_name g links i) (item_name g links j)) e) in
      rw (up, name)

  -- item i has left its mark
  abbrev pub ItemSeen : List ℕ → ℕ → Type 0
  ItemSeen seen i = is_seen seen (item_key g links i) ≡ true

  module _ {size : ℕ} {seen : List ℕ} {i : ℕ} (h : Marked ItemSeen size seen i) (k : ℕ) (is : k ≡ item_key g links i) where
    pub twins_more : (later : List ℕ) → later ≡ see seen k → Marked ItemSeen size later (i + 1)
    twins_more later e =
        let l = marked_some h in
        rw e (marked_more h (length-see seen k) (rw (← is) (see_marks seen k l)) (λ j. see_keeps seen k l (item_key g links j)))

    -- an item whose key is not seen has no twin before it
    pub twins_clear : is_seen seen k ≡ false → any_below i (siblings g links i) ≡ false
    twins_clear e =
        any_below_none i (siblings g links i)
        (λ j l. by (siblings g links i j)
        (λ t. absurd (clash (is_seen seen k) (rw (is, key_siblings i j t) (h.marks j l)) e))
        (λ t. t))
