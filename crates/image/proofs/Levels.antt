-- Depth seen from below: a chain up the owners, or up the enclosing words, has at most 16 messages. Assumes nothing.
use mathlib.Core.Path.{◌≡◌, refl, sym, ap, ◌∙◌}
use mathlib.Core.Bool.{Bool, true, false, ◌||◌, ◌&&◌}
use Prim.Native.Nat.{ℕ, zero, suc, ◌+◌, ◌-◌, ◌<◌}
use native.Mathlib.Nat.{zero-add, suc-add}
use native.Mathlib.Omega.{arith}
use lib.Dec.{ltb}
use borrow.Author.Tests.{ltb-true, ltb-false, lt-ltb, le-ltb}
use Rattle.lists.specs.Lists.{all}
use Rattle.lists.proofs.Cases.{by, clash, both, left, right}
use Rattle.lists.proofs.ListLaws.{all_elim}
use Rattle.lists.proofs.SpanLaws.{range_in, all_span_intro, all_concat, concat_agree}
use Rattle.image.specs.Schema.{Schema}
use Rattle.image.specs.Flat.{top_rows, nested_rows, owner, within, max_depth, shallow, preorder, walked, flat_messages, row_of, flat_of, enclosing}
use Rattle.image.specs.Laid.{LaidOut, Sound}
use Rattle.image.specs.Level.{level}
use Rattle.image.proofs.Once.{preorder_add, owner_in}
use Rattle.image.proofs.Numbers.{flat_length, flat_in, row_of_flat, enclosing_top, enclosing-nested}

or_true_left : (a b : Bool) → a ≡ true → (a || b) ≡ true
or_true_left a b e = rw e

or_true_right : (a b : Bool) → b ≡ true → (a || b) ≡ true
or_true_right true b e = refl
or_true_right false b e = e

module _ (g : Schema) where
  -- with the depth fact, the flat order is the preorder of any larger depth
  pub flat_deeper : Sound g → (k : ℕ) → walked (k + max_depth) g (top_rows g) ≡ flat_messages g
  unfolding flat_messages
  flat_deeper ok k = concat_agree (within max_depth g) (preorder (k + max_depth) g) (preorder max_depth g) (top_rows g) ok.depth (λ r h. preorder_add g k max_depth r h)

  level_more : (d r : ℕ) → level d g r ≡ true → level (suc d) g r ≡ true
  unfolding level
  level_more zero r h = clash false h refl
  level_more (suc d) r h =
      by (ltb r g.top_messages)
      (λ t. rw t)
      (λ t. let z : level d g (owner g r) ≡ true = simp t at h in or_true_right (ltb r g.top_messages) (level (suc d) g (owner g r)) (level_more d (owner g r) z))

  level_add : (k d r : ℕ) → level d g r ≡ true → level (k + d) g r ≡ true
  level_add zero d r h = rw zero-add h
  level_add (suc k) d r h = rw suc-add (level_more (k + d) r (level_add k d r h))

  module _ (ok : Sound g) where
    -- one level further down
    level_down : (d x j : ℕ) → x < g.messages → level d g x ≡ true → j < (g.nested x).count → level (suc d) g ((g.nested x).first + j) ≡ true
    unfolding level
    level_down d x j lx h lj =
        let c = (g.nested x).first + j in
        let inside = ok.layout.nested-inside x lx in
        let own = owner_in g ok.layout x c lx (omega arith) (range_in (g.nested x).first (g.nested x).count c (omega arith) (omega arith)) in
        or_true_right (ltb c g.top_messages) (level d g (owner g c)) (rw own.1 h)

    preorder-levels : (d k x : ℕ) → x < g.messages → level (suc k) g x ≡ true → all (level (d + k) g) (preorder d g x) ≡ true
    unfolding preorder all
    preorder-levels zero k x lx h = refl
    preorder-levels (suc d) k x lx h =
        let e : d + suc k ≡ suc d + k = omega arith in
        let inside = ok.layout.nested-inside x lx in
        both (level (suc d + k) g x) (all (level (suc d + k) g) (walked d g (nested_rows g x)))
        (rw (sym e) (level_add d (suc k) x h))
        (all_concat (level (suc d + k) g) (λ y. ltb y g.messages && level (suc (suc k)) g y) (preorder d g) (nested_rows g x)
        (all_span_intro (λ y. ltb y g.messages && level (suc (suc k)) g y) (g.nested x).first (g.nested x).count
        (λ j lj. both (ltb ((g.nested x).first + j) g.messages) (level (suc (suc k)) g ((g.nested x).first + j)) (lt-ltb ((g.nested x).first + j) g.messages (omega arith)) (level_down (suc k) x j lx h lj)))
        (λ y hy. rw (sym e) (preorder-levels d (suc k) y (ltb-true y g.messages (left (ltb y g.messages) (level (suc (suc k)) g y) hy)) (right (ltb y g.messages) (level (suc (suc k)) g y) hy))))

    flat_levels : all (level max_depth g) (flat_messages g) ≡ true
    unfolding flat_messages level
    flat_levels =
        all_concat (level max_depth g) (λ y. ltb y g.top_messages) (preorder max_depth g) (top_rows g)
        (all_span_intro (λ y. ltb y g.top_messages) 0 g.top_messages (λ j lj. lt-ltb (0 + j) g.top_messages (omega arith)))
        (λ y hy. preorder-levels max_depth 0 y (omega (arith, ltb-true y g.top_messages hy, ok.layout.top_inside)) (or_true_left (ltb y g.top_messages) false hy))

    -- every row is at most 16 levels down
    pub levels : (r : ℕ) → r < g.messages → level max_depth g r ≡ true
    levels r l =
        let f = flat_of g r in
        let z : level max_depth g (row_of g f) ≡ true = all_elim (level max_depth g) (flat_messages g) 0 flat_levels f (omega (arith, flat_length g ok, flat_in g ok r l)) in
        rw (row_of_flat g ok r l) at z

    -- a step up the enclosing words: a smaller flat number, one level less
    pub climb : (d i j : ℕ) → i < g.messages → level d g (row_of g i) ≡ true → enclosing g i ≡ j + 1 → (j < i) × (row_of g j ≡ owner g (row_of g i)) × (level (d - 1) g (row_of g j) ≡ true)
    unfolding level
    climb zero i j l h e = clash false h refl
    climb (suc d) i j l h e =
        by (ltb (row_of g i) g.top_messages)
        (λ t. let z = sym (enclosing_top g ok i (ltb-true (row_of g i) g.top_messages t)) ∙ e in absurd (omega arith))
        (λ t.
        let top = ltb-false (row_of g i) g.top_messages t in
        let o = enclosing-nested g ok i l top in
        let p = sym o.word ∙ e in
        let fj : flat_of g (owner g (row_of g i)) ≡ j = omega arith in
        let row : row_of g j ≡ owner g (row_of g i) = ap (row_of g) (sym fj) ∙ row_of_flat g ok (owner g (row_of g i)) o.owner_below in
        let n : suc d - 1 ≡ d = omega arith in
        (omega (arith, o.owner-before), row, rw (row, n) (simp t at h)))

  -- ---- and the other way: if every row is at most 16 levels down, the image is shallow. So the two ways to count depth agree

  module _ (lay : LaidOut g) where
    -- row x is more than k levels down, no row is more than k + d: so x has at most d levels
    few_below : (d k x : ℕ) → x < g.messages → level k g x ≡ false → ((r : ℕ) → r < g.messages → level (d + k) g r ≡ true) → within d g x ≡ true
    unfolding within level
    few_below zero k x lx h a = clash (level k g x) (rw zero-add at (a x lx)) h
    few_below (suc d) k x lx h a =
        let e : d + suc k ≡ suc d + k = omega arith in
        all_span_intro (within d g) (g.nested x).first (g.nested x).count
        (λ j lj.
        let c = (g.nested x).first + j in
        let inside = lay.nested-inside x lx in
        let own = owner_in g lay x c lx (omega arith) (range_in (g.nested x).first (g.nested x).count c (omega arith) (omega arith)) in
        few_below d (suc k) c (omega arith) (simp (le-ltb c g.top_messages own.0, own.1) h) (λ r l. rw e (a r l)))

    pub shallow_by : ((r : ℕ) → r < g.messages → level max_depth g r ≡ true) → shallow g ≡ true
    unfolding level
    shallow_by a =
        all_span_intro (within max_depth g) 0 g.top_messages
        (λ j lj. few_below max_depth 0 (0 + j) (omega (arith, lay.top_inside)) refl a)
