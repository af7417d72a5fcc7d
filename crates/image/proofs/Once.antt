-- Each message row occurs exactly once in the flat order. Assumes nothing.
use mathlib.Core.Path.{◌≡◌, refl, sym, ap, ◌∙◌}
use mathlib.Core.List.{List, [], ◌∷◌}
use mathlib.Core.Bool.{Bool, true, false}
use Prim.Native.Nat.{ℕ, zero, suc, ◌+◌, ◌<◌, ◌≤◌}
use native.Mathlib.Nat.{zero-add, suc-add}
use native.Mathlib.Omega.{arith}
use lib.Dec.{eqb, ltb}
use borrow.Author.Tests.{ltb-true, eqb-true, eqb-false, eq-eqb, lt-ltb}
use Rattle.lists.specs.Below.{bit}
use Rattle.lists.specs.Lists.{span, concat_map, all, occurs}
use Rattle.lists.proofs.Cases.{by, order, clash, left, right}
use Rattle.lists.proofs.ListLaws.{all_weaker}
use Rattle.lists.proofs.BelowLaws.{None, Only, count_zero, count_one, first_only}
use Rattle.lists.proofs.SpanLaws.{range_in, range_high, all_span_intro, concat-append, concat_none, concat_agree, all_concat, occurs-append, occurs-span}
use Rattle.image.specs.Schema.{Schema}
use Rattle.image.specs.Flat.{top_rows, nested_rows, owns, owner, within, max_depth, preorder, walked, flat_messages}
use Rattle.image.specs.Laid.{LaidOut, Sound}

-- a range that ends at most at n has rows below n
pub span_below : (n i k : ℕ) → i + k ≤ n → all (λ x. ltb x n) (span i k) ≡ true
span_below n i k h = all_span_intro (λ x. ltb x n) i k (λ j l. lt-ltb (i + j) n (omega arith))

-- ---- depth: more levels than there are change nothing

module _ (g : Schema) where
  pub within_more : (d r : ℕ) → within d g r ≡ true → within (suc d) g r ≡ true
  unfolding within
  within_more zero r h = clash false h refl
  within_more (suc d) r h = all_weaker (within d g) (within (suc d) g) (nested_rows g r) (λ x e. within_more d x e) h

  pub preorder_more : (d r : ℕ) → within d g r ≡ true → preorder (suc d) g r ≡ preorder d g r
  unfolding within preorder
  preorder_more zero r h = clash false h refl
  preorder_more (suc d) r h =
      ap (λ (l : List ℕ). r ∷ l) (concat_agree (within d g) (preorder (suc d) g) (preorder d g) (nested_rows g r) h (λ x e. preorder_more d x e))

  pub within_add : (k d r : ℕ) → within d g r ≡ true → within (k + d) g r ≡ true
  within_add zero d r h = rw zero-add h
  within_add (suc k) d r h = rw suc-add (within_more (k + d) r (within_add k d r h))

  -- under the depth fact, the preorder with any larger depth is the same
  pub preorder_add : (k d r : ℕ) → within d g r ≡ true → preorder (k + d) g r ≡ preorder d g r
  preorder_add zero d r h = rw zero-add
  preorder_add (suc k) d r h = rw suc-add (preorder_more (k + d) r (within_add k d r h) ∙ preorder_add k d r h)

  -- ---- the step at the other end: one level more adds what is nested in the rows so far

  -- the rows nested in the rows of a list
  abbrev pub kids : List ℕ → List ℕ
  kids l = concat_map (nested_rows g) l

  step_list : (d r : ℕ) → ((x : ℕ) → occurs r (walked d g (nested_rows g x)) ≡ occurs r (kids (preorder d g x)))
      → (l : List ℕ) → occurs r (walked (suc d) g l) ≡ occurs r l + occurs r (kids (walked d g l))
  unfolding concat_map occurs preorder
  step_list d r h [] = refl
  step_list d r h (x ∷ l) =
      let ih = step_list d r h l in
      let hx = h x in
      let a = occurs-append r (walked d g (nested_rows g x)) (walked (suc d) g l) in
      let b = ap (occurs r) (concat-append (nested_rows g) (preorder d g x) (walked d g l)) ∙ occurs-append r (kids (preorder d g x)) (kids (walked d g l)) in
      omega arith

  step_one : (d r x : ℕ) → occurs r (walked d g (nested_rows g x)) ≡ occurs r (kids (preorder d g x))
  unfolding preorder concat_map
  step_one zero r x = ap (occurs r) (concat_none (preorder 0 g) (nested_rows g x) (λ y. refl))
  step_one (suc d) r x =
      step_list d r (step_one d r) (nested_rows g x) ∙ sym (occurs-append r (nested_rows g x) (kids (walked d g (nested_rows g x))))

  pub step : (d r : ℕ) (l : List ℕ) → occurs r (walked (suc d) g l) ≡ occurs r l + occurs r (kids (walked d g l))
  step d r l = step_list d r (step_one d r) l

  -- ---- what the layout says of a row: at top level, or nested in one row

  pub record Nested (r : ℕ) : Type 0 where
    pub not_top : g.top_messages ≤ r
    pub parent : Only g.messages (λ p. owns g p r)
    pub is_owner : owner g r ≡ parent.at

  module _ (lay : LaidOut g) where
    pub placed : {C : Type 0} (r : ℕ) → r < g.messages → (r < g.top_messages → None g.messages (λ p. owns g p r) → C) → (Nested r → C) → C
    placed r l f h =
        let one = lay.message_owner r l in
        order r g.top_messages
        (λ t.
        let top = ap bit (range_in 0 g.top_messages r (omega arith) (omega arith)) in
        f t (count_zero g.messages (λ p. owns g p r) (omega arith)))
        (λ t.
        let top = ap bit (range_high 0 g.top_messages r (omega arith)) in
        let o = count_one g.messages (λ p. owns g p r) (omega arith) in
        h (record { not_top = t; parent = o; is_owner = first_only g.messages (λ p. owns g p r) g.messages o }))

    -- the only row that row r is nested in is its owner
    pub owner_in : (p r : ℕ) → p < g.messages → r < g.messages → owns g p r ≡ true → (g.top_messages ≤ r) × (owner g r ≡ p)
    owner_in p r lp lr h =
        placed r lr
        (λ at none. clash (owns g p r) h (none p lp))
        (λ w. (w.not_top, w.is_owner ∙ sym (w.parent.only p lp h)))

    -- the walk stays inside the section
    abbrev pub inside : List ℕ → Bool
    inside l = all (λ x. ltb x g.messages) l

    pub preorder-inside : (d r : ℕ) → ltb r g.messages ≡ true → inside (preorder d g r) ≡ true
    unfolding preorder all
    preorder-inside zero r h = refl
    preorder-inside (suc d) r h =
        simp h
        (all_concat (λ x. ltb x g.messages) (λ x. ltb x g.messages) (preorder d g) (nested_rows g r)
        (span_below g.messages (g.nested r).first (g.nested r).count (lay.nested-inside r (ltb-true r g.messages h))) (preorder-inside d))

    pub walked-inside : (d : ℕ) (l : List ℕ) → inside l ≡ true → inside (walked d g l) ≡ true
    walked-inside d l h = all_concat (λ x. ltb x g.messages) (λ x. ltb x g.messages) (preorder d g) l h (preorder-inside d)

    -- a row that none owns is nested in none; one that p alone owns is there as often as p is in the list
    kids_none : (r : ℕ) → None g.messages (λ p. owns g p r) → (l : List ℕ) → inside l ≡ true → occurs r (kids l) ≡ 0
    unfolding concat_map occurs all
    kids_none r h [] a = refl
    kids_none r h (x ∷ l) a =
        let lt = ltb-true x g.messages (left (ltb x g.messages) (inside l) a) in
        let o : occurs r (nested_rows g x) ≡ 0 = occurs-span r (g.nested x).first (g.nested x).count ∙ ap bit (h x lt) in
        let ih = kids_none r h l (right (ltb x g.messages) (inside l) a) in
        let e = occurs-append r (nested_rows g x) (kids l) in
        omega arith

    kids_one : (r : ℕ) (o : Only g.messages (λ p. owns g p r)) (l : List ℕ) → inside l ≡ true → occurs r (kids l) ≡ occurs o.at l
    unfolding concat_map occurs all
    kids_one r o [] a = refl
    kids_one r o (x ∷ l) a =
        let lt = ltb-true x g.messages (left (ltb x g.messages) (inside l) a) in
        let here : owns g x r ≡ eqb x o.at =
        by (eqb x o.at)
        (λ t. rw (eqb-true x o.at t) (o.has ∙ sym (eq-eqb o.at o.at refl)))
        (λ t. by (owns g x r) (λ u. absurd (eqb-false x o.at t (o.only x lt u))) (λ u. u ∙ sym t)) in
        let h : occurs r (nested_rows g x) ≡ bit (eqb x o.at) = occurs-span r (g.nested x).first (g.nested x).count ∙ ap bit here in
        let ih = kids_one r o l (right (ltb x g.messages) (inside l) a) in
        let e = occurs-append r (nested_rows g x) (kids l) in
        omega arith

  -- ---- once

  module _ (ok : Sound g) where
    pub flat_inside : inside ok.layout (flat_messages g) ≡ true
    unfolding flat_messages
    flat_inside = walked-inside ok.layout max_depth (top_rows g) (span_below g.messages 0 g.top_messages (omega (arith, ok.layout.top_inside)))

    -- the flat order is the top level, and what is nested in the flat order
    flat_step : (r : ℕ) → occurs r (flat_messages g) ≡ occurs r (top_rows g) + occurs r (kids (flat_messages g))
    unfolding flat_messages
    flat_step r =
        ap (occurs r) (sym (concat_agree (within max_depth g) (preorder (suc max_depth) g) (preorder max_depth g) (top_rows g) ok.depth (λ x e. preorder_more max_depth x e)))
        ∙ step max_depth r (top_rows g)

    once_below : (b r : ℕ) → r < b → r < g.messages → occurs r (flat_messages g) ≡ 1
    once_below zero r h l = absurd (omega arith)
    once_below (suc b) r h l =
        let s = flat_step r in
        let t = occurs-span r 0 g.top_messages in
        placed ok.layout r l
        (λ at none.
        let k = kids_none ok.layout r none (flat_messages g) flat_inside in
        let u : occurs r (top_rows g) ≡ 1 = t ∙ ap bit (range_in 0 g.top_messages r (omega arith) (omega arith)) in
        omega arith)
        (λ w.
        let o = w.parent in
        let k = kids_one ok.layout r o (flat_messages g) flat_inside in
        let u : occurs r (top_rows g) ≡ 0 = t ∙ ap bit (range_high 0 g.top_messages r (omega (arith, w.not_top))) in
        let lower = ok.layout.higher o.at r o.below o.has in
        let ih = once_below b o.at (omega arith) o.below in
        omega arith)

    -- each row of the section occurs exactly once
    pub flat_once : (r : ℕ) → r < g.messages → occurs r (flat_messages g) ≡ 1
    flat_once r l = once_below (suc r) r (omega arith) l
