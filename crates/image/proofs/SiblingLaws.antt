-- Rule 8 by siblings: where two items share a full name, two that stand in the same place share their own name. Assumes nothing.
use mathlib.Core.Path.{◌≡◌, refl, sym, ap, ◌∙◌}
use mathlib.Core.Bool.{Bool, true, false, ◌&&◌}
use mathlib.Core.List.{List}
use Prim.Native.Nat.{ℕ, zero, suc, ◌+◌, ◌-◌, ◌<◌, ◌≤◌}
use native.Mathlib.Numerals.{sub-one}
use native.Mathlib.Omega.{arith}
use lib.Dec.{eqb}
use lib.ListN.{length}
use borrow.Author.Tests.{eq-eqb, eqb-true}
use Rattle.lists.specs.Below.{any_below}
use Rattle.lists.specs.Lists.{same}
use Rattle.lists.proofs.Cases.{order, equal, both, left, right}
use Rattle.lists.proofs.BelowLaws.{any_below_hit, any_below_elim, any_below_agree}
use Rattle.lists.proofs.ListLaws.{same_refl, same_is}
use Rattle.image.specs.Schema.{Schema}
use Rattle.image.specs.Links.{message_up}
use Rattle.image.specs.FullName.{inside, path, message_path, items, item_name, item_up, item_path, full_name, shares_name}
use Rattle.image.specs.Climb.{name_of}
use Rattle.image.specs.Chained.{Chained, Named, dotless, outside, stands_in, siblings, siblings_share}
use Rattle.image.proofs.PathTexts.{concat_some}
use Rattle.image.proofs.DotLaws.{same_concat, same_beneath}
use Rattle.image.proofs.PathLaws.{inside_none, inside_of, path_some}
use Rattle.image.proofs.ItemLaws.{message_name_as, message_up_as, enum_up_as}

outside_of : (fine : ℕ → Bool) (a : ℕ) → (a ≡ 0 → ⊥) → outside fine a ≡ fine (a - 1)
unfolding outside
outside_of fine zero h = absurd (h refl)
outside_of fine (suc p) h = ap fine (sym (sub-one (suc p)))

pred_apart : (a b : ℕ) → (a ≡ 0 → ⊥) → (b ≡ 0 → ⊥) → (a ≡ b → ⊥) → a - 1 ≡ b - 1 → ⊥
pred_apart zero b p q n e = p refl
pred_apart (suc a) zero p q n e = q refl
pred_apart (suc a) (suc b) p q n e = n (ap (λ (k : ℕ). suc k) (sym (sub-one (suc a)) ∙ e ∙ sub-one (suc b)))

-- two Bools, each true where the other is
equals : (a b : Bool) → (a ≡ true → b ≡ true) → (b ≡ true → a ≡ true) → a ≡ b
equals true b f g = sym (f refl)
equals false true f g = g refl
equals false false f g = refl

module _ {g : Schema} {links : List ℕ} (named : Named g links) where
  given : (m : ℕ) → m < g.messages → 0 < length (name_of g links m)
  given m h = rw (← message_name_as g links m h) (named.given m (omega arith))

  no_dot : (m : ℕ) → m < g.messages → dotless (name_of g links m) ≡ true
  no_dot m h = rw (← message_name_as g links m h) (named.no_dot m (omega arith))

  -- two messages: their names, and then what is above them
  paths_up : (d x y : ℕ) → x < g.messages → y < g.messages
      → same (message_path g links (suc d) x) (message_path g links (suc d) y)
      ≡ same (name_of g links x) (name_of g links y)
      && same (inside (message_path g links d) (message_up links x)) (inside (message_path g links d) (message_up links y))
  unfolding path
  paths_up d x y h k =
      same_concat (inside (message_path g links d) (message_up links x)) (name_of g links x)
      (inside (message_path g links d) (message_up links y)) (name_of g links y)
      (given x h) (given y k) (no_dot x h) (no_dot y k)

  -- what stands at top level has nothing above it, and anything else has
  above_apart : (d a b : ℕ) → a ≡ 0 → (b ≡ 0 → ⊥) → b ≤ g.messages → length (inside (message_path g links d) a) ≡ length (inside (message_path g links d) b) → ⊥
  above_apart d a b top inner few q =
      let h = path_some (name_of g links) (message_up links) d (b - 1) (given (b - 1) (omega (arith, inner))) in
      omega (arith, h, rw (inside_none (message_path g links d) a top, inside_of (message_path g links d) b inner) at q)

  item_given : (i : ℕ) → i < items g → 0 < length (item_path g links i)
  item_given i h = concat_some (inside (message_path g links 15) (item_up g links i)) (item_name g links i) (named.given i h)

  -- two items: their names, and then what is above them
  items_same : (i j : ℕ) → i < items g → j < items g
      → same (item_path g links i) (item_path g links j)
      ≡ same (item_name g links i) (item_name g links j)
      && same (inside (message_path g links 15) (item_up g links i)) (inside (message_path g links 15) (item_up g links j))
  items_same i j h k =
      same_concat (inside (message_path g links 15) (item_up g links i)) (item_name g links i)
      (inside (message_path g links 15) (item_up g links j)) (item_name g links j)
      (named.given i h) (named.given j k) (named.no_dot i h) (named.no_dot j k)

  -- the package does not matter
  pub shares_paths : shares_name g links ≡ any_below (items g) (λ i. any_below i (λ j. same (item_path g links i) (item_path g links j)))
  unfolding shares_name full_name
  shares_paths =
      any_below_agree (items g) _ _
      (λ i l. any_below_agree i _ _ (λ j k. same_beneath g.«package» (item_path g links i) (item_path g links j) (item_given i l) (item_given j (omega arith))))

  module _ (chained : Chained g links) where
    -- two messages that stand in the same place and have the same name
    record Twins : Type 0 where
      one : ℕ
      two : ℕ
      one_in : one < g.messages
      two_in : two < g.messages
      apart : one ≡ two → ⊥
      place : message_up links one ≡ message_up links two
      name : same (name_of g links one) (name_of g links two) ≡ true

    -- two messages apart, with one path: there is such a pair, these or two that enclose them
    abbrev Paired : ℕ → Type 0
    Paired d = (x y : ℕ) → x < g.messages → y < g.messages → (x ≡ y → ⊥) → stands_in (message_up links) d x ≡ true → stands_in (message_up links) d y ≡ true → same (message_path g links d x) (message_path g links d y) ≡ true → Twins

    -- from two enclosing words to the messages that they stand for
    rise : (d : ℕ) → Paired d → (a b : ℕ) → a ≤ g.messages → b ≤ g.messages → (a ≡ b → ⊥) → outside (stands_in (message_up links) d) a ≡ true → outside (stands_in (message_up links) d) b ≡ true
        → same (inside (message_path g links d) a) (inside (message_path g links d) b) ≡ true → Twins
    rise d pair a b k l n s t e =
        let q = ap length (same_is (inside (message_path g links d) a) (inside (message_path g links d) b) e) in
        equal a 0
        (λ z. absurd (above_apart d a b z (λ w. n (z ∙ sym w)) l q))
        (λ za. equal b 0
        (λ z. absurd (above_apart d b a z za k (sym q)))
        (λ zb. pair (a - 1) (b - 1) (omega (arith, za)) (omega (arith, zb)) (pred_apart a b za zb n)
        (sym (outside_of (stands_in (message_up links) d) a za) ∙ s) (sym (outside_of (stands_in (message_up links) d) b zb) ∙ t)
        (rw (inside_of (message_path g links d) a za, inside_of (message_path g links d) b zb) at e)))

    twins : (d : ℕ) → Paired d
    unfolding path stands_in
    twins zero x y h k n s t e =
        record { one = x; two = y; one_in = h; two_in = k; apart = n; place = eqb-true (message_up links x) 0 s ∙ sym (eqb-true (message_up links y) 0 t); name = e }
    twins (suc d) x y h k n s t e =
        let parts = sym (paths_up d x y h k) ∙ e in
        let names = left (same (name_of g links x) (name_of g links y)) (same (inside (message_path g links d) (message_up links x)) (inside (message_path g links d) (message_up links y))) parts in
        let fronts = right (same (name_of g links x) (name_of g links y)) (same (inside (message_path g links d) (message_up links x)) (inside (message_path g links d) (message_up links y))) parts in
        equal (message_up links x) (message_up links y)
        (λ z. record { one = x; two = y; one_in = h; two_in = k; apart = n; place = z; name = names })
        (λ z. rise d (twins d) (message_up links x) (message_up links y) (omega (arith, chained.message_up_lem x h)) (omega (arith, chained.message_up_lem y k)) z s t fronts)

    item_up_le : (i : ℕ) → i < items g → item_up g links i ≤ g.messages
    item_up_le i h =
        order i g.messages
        (λ l. rw (message_up_as g links i l) (omega (arith, chained.message_up_lem i l)))
        (λ l. let e : i ≡ g.messages + (i - g.messages) = omega arith in rw (e, enum_up_as g links (i - g.messages)) (chained.enum_up_lem (i - g.messages) (omega arith)))

    alike_found : (i j : ℕ) → i < items g → j < i → siblings g links i j ≡ true → siblings_share g links ≡ true
    unfolding siblings_share
    alike_found i j h l e =
        any_below_hit (items g) (λ x. any_below x (siblings g links x)) i h (any_below_hit i (siblings g links i) j l e)

    -- messages as items
    alike : (i j : ℕ) → i < g.messages → j < g.messages → message_up links i ≡ message_up links j → name_of g links i ≡ name_of g links j → siblings g links i j ≡ true
    unfolding siblings
    alike i j h k p e =
        rw (message_up_as g links i h, message_up_as g links j k, message_name_as g links i h, message_name_as g links j k, eq-eqb (message_up links i) (message_up links j) p, e)
        (same_refl (name_of g links j))

    twins_found : Twins → siblings_share g links ≡ true
    twins_found w =
        let e = same_is (name_of g links w.one) (name_of g links w.two) w.name in
        order w.two w.one
        (λ l. alike_found w.one w.two (omega (arith, w.one_in)) l (alike w.one w.two w.one_in w.two_in w.place e))
        (λ l. alike_found w.two w.one (omega (arith, w.two_in)) (omega (arith, w.apart)) (alike w.two w.one w.two_in w.one_in (sym w.place) (sym e)))

    deep_above : (a : ℕ) → a ≤ g.messages → outside (stands_in (message_up links) 15) a ≡ true
    unfolding outside
    deep_above zero h = refl
    deep_above (suc p) h = chained.deep p (omega arith)

    pair_down : (i j : ℕ) → i < items g → j < i → same (item_path g links i) (item_path g links j) ≡ true → siblings_share g links ≡ true
    unfolding siblings
    pair_down i j h l e =
        let k : j < items g = omega arith in
        let parts = sym (items_same i j h k) ∙ e in
        let names = left (same (item_name g links i) (item_name g links j)) (same (inside (message_path g links 15) (item_up g links i)) (inside (message_path g links 15) (item_up g links j))) parts in
        let fronts = right (same (item_name g links i) (item_name g links j)) (same (inside (message_path g links 15) (item_up g links i)) (inside (message_path g links 15) (item_up g links j))) parts in
        equal (item_up g links i) (item_up g links j)
        (λ z. alike_found i j h l (both (eqb (item_up g links i) (item_up g links j)) (same (item_name g links i) (item_name g links j)) (eq-eqb (item_up g links i) (item_up g links j) z) names))
        (λ z. twins_found (rise 15 (twins 15) (item_up g links i) (item_up g links j) (item_up_le i h) (item_up_le j k) z (deep_above (item_up g links i) (item_up_le i h)) (deep_above (item_up g links j) (item_up_le j k)) fronts))

    pair_back : (i j : ℕ) → i < items g → j < i → siblings g links i j ≡ true → same (item_path g links i) (item_path g links j) ≡ true
    unfolding siblings
    pair_back i j h l e =
        let p : item_up g links i ≡ item_up g links j = eqb-true (item_up g links i) (item_up g links j) (left (eqb (item_up g links i) (item_up g links j)) (same (item_name g links i) (item_name g links j)) e) in
        let q : same (item_name g links i) (item_name g links j) ≡ true = right (eqb (item_up g links i) (item_up g links j)) (same (item_name g links i) (item_name g links j)) e in
        items_same i j h (omega arith) ∙ rw (q, p) (same_refl (inside (message_path g links 15) (item_up g links j)))

    -- rule 8 is: two siblings share their own name
    pub shares_siblings : shares_name g links ≡ siblings_share g links
    unfolding siblings_share
    shares_siblings =
        shares_paths
        ∙ equals (any_below (items g) (λ i. any_below i (λ j. same (item_path g links i) (item_path g links j)))) (siblings_share g links)
        (λ t. let a = any_below_elim (items g) (λ i. any_below i (λ j. same (item_path g links i) (item_path g links j))) t in
        let b = any_below_elim a.0 (λ j. same (item_path g links a.0) (item_path g links j)) a.2 in
        pair_down a.0 b.0 a.1 b.1 b.2)
        (λ t. let a = any_below_elim (items g) (λ i. any_below i (siblings g links i)) t in
        let b = any_below_elim a.0 (siblings g links a.0) a.2 in
        any_below_hit (items g) (λ x. any_below x (λ y. same (item_path g links x) (item_path g links y))) a.0 a.1
        (any_below_hit a.0 (λ y. same (item_path g links a.0) (item_path g links y)) b.0 b.1 (pair_back a.0 b.0 a.1 b.1 b.2)))
