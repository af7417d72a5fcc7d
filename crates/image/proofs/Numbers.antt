-- Message rows and flat numbers are one to one, and a message stands behind the one that it is nested in. Assumes nothing.
use mathlib.Core.Path.{◌≡◌, refl, sym, ap, ◌∙◌}
use mathlib.Core.Logic.{◌⊎◌, inl, inr}
use mathlib.Core.List.{List, [], ◌∷◌, ◌++◌}
use mathlib.Core.Bool.{true}
use Prim.Native.Nat.{ℕ, zero, suc, ◌+◌, ◌-◌, ◌<◌, ◌≤◌}
use native.Mathlib.Omega.{arith}
use lib.ListN.{length, get_or, length-append, get_or-append}
use lib.Seq.{get_or-append-add}
use lib.Dec.{ltb, eqb}
use borrow.Author.Tests.{ltb-true, eq-eqb, lt-ltb, le-ltb}
use Rattle.lists.specs.Below.{bit, sum_below}
use Rattle.lists.specs.Lists.{concat_map, all, total, occurs}
use Rattle.lists.proofs.Cases.{by, either, order}
use Rattle.lists.proofs.ListLaws.{all_elim}
use Rattle.lists.proofs.SpanLaws.{range_high, occurs-span, occurs-concat, concat_none, index_below, get_or_index, index_get_or}
use Rattle.lists.proofs.SumLaws.{sum_ones, sum-occurs, sum-total}
use Rattle.image.specs.Schema.{Schema}
use Rattle.image.specs.Flat.{top_rows, nested_rows, owns, owner, max_depth, preorder, walked, flat_messages, row_of, flat_of, enclosing}
use Rattle.image.specs.Laid.{Sound}
use Rattle.image.specs.OneToOne.{EachOnce, Enclosed}
use Rattle.image.proofs.Once.{Nested, placed, owner_in, flat_inside, flat_once}

-- a list of numbers below n in which each occurs once
pub each-once : (l : List ℕ) (n : ℕ) → all (λ x. ltb x n) l ≡ true → ((r : ℕ) → r < n → occurs r l ≡ 1) → EachOnce l n
each-once l n inside once =
    let len : length l ≡ n = sym (sum-occurs n l inside) ∙ sum_ones n (λ r. occurs r l) once in
    let below : (i : ℕ) → i < n → get_or l i 0 < n = λ i h. ltb-true (get_or l i 0) n (all_elim (λ x. ltb x n) l 0 inside i (omega arith)) in
    record {
      size = len;
      once = once;
      row_below = below;
      flat_below = λ r h. omega (arith, index_below r l (omega (arith, once r h)));
      flat_row = λ i h. index_get_or l i (omega arith) (once (get_or l i 0) (below i h));
      row_flat = λ r h. get_or_index r l (omega (arith, once r h));
    }

-- ---- in a walk each row stands behind the one that it is nested in

module _ (g : Schema) where
  -- an earlier element owns element i
  pub record Behind (l : List ℕ) (i : ℕ) : Type 0 where
    pub at : ℕ
    pub before : at < i
    pub has : owns g (get_or l at 0) (get_or l i 0) ≡ true

  abbrev Placed : List ℕ → List ℕ → ℕ → Type 0
  Placed l w i = (0 < occurs (get_or w i 0) l) ⊎ Behind w i

  shift : (a w : List ℕ) (i : ℕ) → Behind w i → Behind (a ++ w) (length a + i)
  shift a w i b =
      record { at = length a + b.at; before = omega (arith, b.before); has = rw (get_or-append-add a w i 0, get_or-append-add a w b.at 0) b.has }

  extend : (a w : List ℕ) (i : ℕ) → i < length a → Behind a i → Behind (a ++ w) i
  extend a w i l b =
      record { at = b.at; before = b.before; has = rw (get_or-append a w 0 i l, get_or-append a w 0 b.at (omega (arith, b.before))) b.has }

  -- the rows of one row and what is nested in it
  root : (d x : ℕ) → ((i : ℕ) → i < length (walked d g (nested_rows g x)) → Placed (nested_rows g x) (walked d g (nested_rows g x)) i)
      → (i : ℕ) → i < length (walked d g (nested_rows g x)) → Behind (x ∷ walked d g (nested_rows g x)) (suc i)
  root d x h i l =
      let w = walked d g (nested_rows g x) in
      either (h i l)
      (λ o. by (owns g x (get_or w i 0))
      (λ t. record { at = 0; before = omega arith; has = t })
      (λ t. let z = occurs-span (get_or w i 0) (g.nested x).first (g.nested x).count ∙ ap bit t in absurd (omega arith)))
      (λ b. record { at = suc b.at; before = omega (arith, b.before); has = b.has })

  occurs_cons : (r x : ℕ) (l : List ℕ) → occurs r (x ∷ l) ≡ bit (eqb x r) + occurs r l
  unfolding occurs
  occurs_cons r x l = refl

  -- what occurs in a list occurs in a longer one
  occurs_more : (r s x : ℕ) (l : List ℕ) → r ≡ s → 1 ≤ occurs s l → 1 ≤ occurs r (x ∷ l)
  occurs_more r s x l e o = rw (e, occurs_cons) (omega arith)

  precede_list : (d : ℕ) → ((x i : ℕ) → i < length (walked d g (nested_rows g x)) → Placed (nested_rows g x) (walked d g (nested_rows g x)) i)
      → (l : List ℕ) (i : ℕ) → i < length (walked (suc d) g l) → Placed l (walked (suc d) g l) i
  unfolding concat_map occurs preorder
  precede_list d h [] i lt = absurd (omega arith)
  precede_list d h (x ∷ l) zero lt = inl (simp (eq-eqb x x refl) (omega arith))
  precede_list d h (x ∷ l) (suc i) lt =
      let a = walked d g (nested_rows g x) in
      let w = walked (suc d) g l in
      let len = length-append a w in
      order i (length a)
      (λ m. inr (extend (x ∷ a) w (suc i) (omega arith) (root d x (h x) i m)))
      (λ m.
      let k = i - length a in
      let e : suc i ≡ length (x ∷ a) + k = omega arith in
      let at : get_or ((x ∷ a) ++ w) (suc i) 0 ≡ get_or w k 0 = rw (e, get_or-append-add (x ∷ a) w k 0) in
      either (precede_list d h l k (omega arith))
      (λ o. inl (occurs_more _ _ x l at o))
      (λ b. inr (rw e (shift (x ∷ a) w k b))))

  pub precede : (d : ℕ) (l : List ℕ) (i : ℕ) → i < length (walked d g l) → Placed l (walked d g l) i
  unfolding preorder
  precede zero l i h = let e = ap length (concat_none (preorder 0 g) l (λ x. refl)) in absurd (omega arith)
  precede (suc d) l i h = precede_list d (λ x j m. precede d (nested_rows g x) j m) l i h

  -- ---- one to one

  module _ (ok : Sound g) where
    abbrev f : List ℕ
    f = flat_messages g

    pub flat_each : EachOnce f g.messages
    flat_each = each-once f g.messages (flat_inside g ok) (flat_once g ok)

    pub flat_length : length f ≡ g.messages
    flat_length = flat_each.size

    -- a sum over the flat order is the sum over the rows: the order changes no total
    pub flat_total : (h : ℕ → ℕ) → total h f ≡ sum_below g.messages h
    flat_total h = sum-total g.messages h f (flat_inside g ok) (flat_once g ok)

    -- so what each message owns, listed in flat order, has r as often as the rows own it
    pub flat_owned : (own : ℕ → List ℕ) (r : ℕ) → occurs r (concat_map own f) ≡ sum_below g.messages (λ p. occurs r (own p))
    flat_owned own r = occurs-concat r own f ∙ flat_total (λ p. occurs r (own p))

    pub row_in : (m : ℕ) → m < g.messages → row_of g m < g.messages
    row_in = flat_each.row_below

    pub flat_in : (r : ℕ) → r < g.messages → flat_of g r < g.messages
    flat_in = flat_each.flat_below

    pub flat_of_row : (m : ℕ) → m < g.messages → flat_of g (row_of g m) ≡ m
    flat_of_row = flat_each.flat_row

    pub row_of_flat : (r : ℕ) → r < g.messages → row_of g (flat_of g r) ≡ r
    row_of_flat = flat_each.row_flat

    -- ---- what encloses a message

    before : (m : ℕ) → m < g.messages → g.top_messages ≤ row_of g m → flat_of g (owner g (row_of g m)) < m
    unfolding flat_messages
    before m l top =
        let len = flat_length in
        either (precede max_depth (top_rows g) m (omega arith))
        (λ o.
        let z = occurs-span (row_of g m) 0 g.top_messages ∙ ap bit (range_high 0 g.top_messages (row_of g m) (omega arith)) in
        absurd (omega arith))
        (λ b.
        let lt : b.at < g.messages = omega (arith, b.before) in
        let e = (owner_in g ok.layout (row_of g b.at) (row_of g m) (row_in b.at lt) (row_in m l) b.has).1 in
        let n : flat_of g (owner g (row_of g m)) ≡ b.at = ap (flat_of g) e ∙ flat_of_row b.at lt in
        omega (arith, b.before))

    nested_in : (m : ℕ) → m < g.messages → g.top_messages ≤ row_of g m → Nested g (row_of g m)
    nested_in m l top = placed g ok.layout (row_of g m) (row_in m l) (λ at none. absurd (omega arith)) (λ w. w)

    pub enclosing_top : (m : ℕ) → row_of g m < g.top_messages → enclosing g m ≡ 0
    enclosing_top m t = simp (lt-ltb (row_of g m) g.top_messages t)

    pub enclosing-nested : (m : ℕ) → m < g.messages → g.top_messages ≤ row_of g m → Enclosed g m
    enclosing-nested m l t =
        let w = nested_in m l t in
        record {
          word = simp (le-ltb (row_of g m) g.top_messages t);
          owner_below = rw w.is_owner w.parent.below;
          owner_owns = rw w.is_owner w.parent.has;
          owner-before = before m l t;
        }

    pub enclosing_le : (m : ℕ) → m < g.messages → enclosing g m ≤ m
    enclosing_le m l =
        order (row_of g m) g.top_messages
        (λ t. omega (arith, enclosing_top m t))
        (λ t. let e = enclosing-nested m l t in omega (arith, e.word, e.owner-before))
