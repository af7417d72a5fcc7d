-- What a turn of the walk over nested messages finds and leaves. The walk goes on with the link rows that the definitions give: a turn
-- is a step from a flat number to that of the next row of the range. Assumes nothing.
use mathlib.Core.Path.{◌≡◌, refl, sym, ap, ◌∙◌, subst}
use mathlib.Core.List.{List, [], ◌∷◌, ◌++◌, append_assoc, append-nil}
use mathlib.Core.Bool.{true, false}
use Prim.Native.Nat.{ℕ, zero, suc, ◌+◌, ◌-◌, ◌*◌, ◌<◌, ◌≤◌}
use native.Mathlib.Nat.{add-zero}
use native.Mathlib.Omega.{arith}
use lib.ListN.{length, get_or, length-append}
use lib.Seq.{get_or-append-add}
use borrow.Author.Tests.{lt-ltb, le-ltb}
use Rattle.lists.specs.Lists.{span, concat_map, all, total}
use Rattle.lists.specs.Splice.{splice}
use Rattle.lists.proofs.Cases.{clash}
use Rattle.lists.proofs.SpanLaws.{range_in, span_add, all_span_elim, concat-append}
use Rattle.lists.proofs.SpliceLaws.{splice_nil, splice-splice}
use Rattle.image.specs.Schema.{Schema}
use Rattle.image.specs.Flat.{rows_of, nested_rows, owns, within, max_depth, preorder, walked, flat_messages, row_of, flat_of, outer, first_enum, first_oneof, first_field, tally_at}
use Rattle.image.specs.Laid.{Sound}
use Rattle.image.specs.Links.{message_link, message_links}
use Rattle.image.specs.Walk.{tallied, link_at, InWords, Stands, Entering}
use Rattle.image.specs.declared.flat.Tally.{Tally}
use Rattle.image.specs.declared.rows.Range.{Range}
use Rattle.image.proofs.Once.{owner_in}
use Rattle.image.proofs.Numbers.{flat_length, flat_of_row}
use Rattle.image.proofs.Owned.{enums_end_lem, enums_next, enums_mono, oneofs_end, oneofs_next, oneofs_mono, fields_end_lem, fields_next, fields_mono}
use Rattle.image.proofs.LinkLaws.{run_first, run_add, message_links-length}

-- ---- a list that stands in another

module _ (l : List ℕ) (m : ℕ) where
  stands_left : (a b : List ℕ) → Stands l m (a ++ b) → Stands l m a
  stands_left a b s =
      record {
        before = s.before;
        behind = b ++ s.behind;
        whole = s.whole ∙ ap (λ (t : List ℕ). s.before ++ t) (append_assoc a b s.behind);
        at = s.at;
      }

  stands_right : (a b : List ℕ) → Stands l m (a ++ b) → Stands l (m + length a) b
  stands_right a b s =
      record {
        before = s.before ++ a;
        behind = s.behind;
        whole =
            s.whole
            ∙ ap (λ (t : List ℕ). s.before ++ t) (append_assoc a b s.behind)
            ∙ sym (append_assoc s.before a (b ++ s.behind));
        at = length-append s.before a ∙ ap (λ (k : ℕ). k + length a) s.at;
      }

  stands-head : (x : ℕ) (w : List ℕ) → Stands l m (x ∷ w) → get_or l m 0 ≡ x
  stands-head x w s =
      let e : m ≡ length s.before + 0 = omega (arith, s.at) in
      ap (λ (t : List ℕ). get_or t m 0) s.whole
      ∙ ap (λ (k : ℕ). get_or (s.before ++ (x ∷ (w ++ s.behind))) k 0) e
      ∙ get_or-append-add s.before (x ∷ (w ++ s.behind)) 0 0

  stands_tail : (x : ℕ) (w : List ℕ) → Stands l m (x ∷ w) → Stands l (m + 1) w
  stands_tail x w s = stands_right (x ∷ []) w s

  stands_fits : (w : List ℕ) → Stands l m w → m + length w ≤ length l
  stands_fits w s =
      let e = ap length s.whole ∙ length-append s.before (w ++ s.behind) in
      let f = length-append w s.behind in
      omega (arith, s.at)

-- ---- one level down

module _ (g : Schema) where
  within_pos : (d r : ℕ) → within d g r ≡ true → 0 < d
  unfolding within
  within_pos zero r h = clash false h refl
  within_pos (suc d) r h = omega arith

  within_in : (d r : ℕ) → within d g r ≡ true → all (within (d - 1) g) (nested_rows g r) ≡ true
  unfolding within
  within_in zero r h = clash false h refl
  within_in (suc d) r h = let e : suc d - 1 ≡ d = omega arith in rw e h

  preorder_in : (d r : ℕ) → within d g r ≡ true → preorder d g r ≡ r ∷ walked (d - 1) g (nested_rows g r)
  unfolding within preorder
  preorder_in zero r h = clash false h refl
  preorder_in (suc d) r h = let e : suc d - 1 ≡ d = omega arith in rw e

  -- the first k rows of a range, and one more
  walked_more : (d first k : ℕ) → walked d g (span first (k + 1)) ≡ walked d g (span first k) ++ preorder d g (first + k)
  unfolding span concat_map
  walked_more d first k =
      ap (concat_map (preorder d g)) (span_add first k 1)
      ∙ concat-append (preorder d g) (span first k) ((first + k) ∷ [])
      ∙ ap (λ (t : List ℕ). walked d g (span first k) ++ t) (append-nil (preorder d g (first + k)))

  walked_at : (d first k count : ℕ) → k < count
      → walked d g (span first count) ≡ walked d g (span first k) ++ (preorder d g (first + k) ++ walked d g (span (first + k + 1) (count - k - 1)))
  unfolding span concat_map
  walked_at d first k count l =
      let e : count ≡ k + suc (count - k - 1) = omega arith in
      ap (λ (n : ℕ). walked d g (span first n)) e
      ∙ ap (concat_map (preorder d g)) (span_add first k (suc (count - k - 1)))
      ∙ concat-append (preorder d g) (span first k) (span (first + k) (suc (count - k - 1)))

  -- ---- the words of a run of messages

  links_next : (i a b : ℕ) → (message_links g i a ++ message_link g (i + a)) ++ message_links g (i + a + 1) b ≡ message_links g i (a + suc b)
  links_next i a b =
      append_assoc (message_links g i a) (message_link g (i + a)) (message_links g (i + a + 1) b)
      ∙ ap (λ (l : List ℕ). message_links g i a ++ l) (sym (run_first (message_link g) (i + a) b))
      ∙ sym (run_add (message_link g) i a (suc b))

  -- a row is written behind a run of them, and then another run
  links-written : (o₀ o o₁ o₂ : List ℕ) (i a b : ℕ) → (i + (a + suc b)) * 10 ≤ length o₀
      → o ≡ splice o₀ (i * 10) (message_links g i a) → o₁ ≡ splice o ((i + a) * 10) (message_link g (i + a)) → o₂ ≡ splice o₁ ((i + a + 1) * 10) (message_links g (i + a + 1) b)
      → o₂ ≡ splice o₀ (i * 10) (message_links g i (a + suc b))
  links-written o₀ o o₁ o₂ i a b fit p q r =
      let x = message_links g i a in
      let y = message_link g (i + a) in
      let z = message_links g (i + a + 1) b in
      let lx = message_links-length g i a in
      let lz = message_links-length g (i + a + 1) b in
      let lxy : length (x ++ y) ≡ a * 10 + 10 = length-append x y ∙ ap (λ (k : ℕ). k + 10) lx in
      let e : (i + a) * 10 ≡ i * 10 + a * 10 = omega arith in
      let e' : (i + a + 1) * 10 ≡ i * 10 + (a * 10 + 10) = omega arith in
      let one : o₁ ≡ splice o₀ (i * 10) (x ++ y) =
      q
      ∙ ap (λ (t : List ℕ). splice t ((i + a) * 10) y) p
      ∙ ap (λ (k : ℕ). splice (splice o₀ (i * 10) x) k y) e
      ∙ splice-splice o₀ (i * 10) x y (a * 10) lx (omega arith) in
      r
      ∙ ap (λ (t : List ℕ). splice t ((i + a + 1) * 10) z) one
      ∙ ap (λ (k : ℕ). splice (splice o₀ (i * 10) (x ++ y)) k z) e'
      ∙ splice-splice o₀ (i * 10) (x ++ y) z (a * 10 + 10) lxy (omega arith)
      ∙ ap (splice o₀ (i * 10)) (links_next i a b)

  -- ---- the loop over a range

  -- how many messages the first k rows of a range have, themselves and all below them
  abbrev pub done : ℕ → ℕ → ℕ → ℕ
  done depth first k = length (walked depth g (span first k))

  -- after k rows of the range
  pub record Going (first count depth : ℕ) (t : Tally) (o₀ : List ℕ) (k : ℕ) (u : Tally) (o : List ℕ) : Type 0 where
    pub at : k ≤ count
    pub len : length o ≡ length o₀
    pub tally : u ≡ tally_at g (t.messages + done depth first k)
    pub words : o ≡ splice o₀ (t.messages * 10) (message_links g t.messages (done depth first k))

  pub going_start : (first count outside depth : ℕ) (t : Tally) (o₀ : List ℕ) → Entering g first count outside depth t → Going first count depth t o₀ 0 t o₀
  unfolding span concat_map
  going_start first count outside depth t o₀ e =
      record {
        at = omega arith;
        len = refl;
        tally = e.tally ∙ ap (tally_at g) (sym (add-zero t.messages));
        words = sym (splice_nil o₀ (t.messages * 10));
      }

  -- what a turn of the loop has: row first + k is next
  pub record Turn (first count outside depth : ℕ) (t : Tally) (o₀ : List ℕ) (k : ℕ) (u : Tally) (o : List ℕ) : Type 0 where
    pub entering : Entering g first count outside depth t
    pub room : g.messages * 10 ≤ length o₀
    pub going : Going first count depth t o₀ k u o
    pub less : k < count

  module _ {first count outside depth k : ℕ} {t u : Tally} {o₀ o : List ℕ} (turn : Turn first count outside depth t o₀ k u o) where
    abbrev e : Entering g first count outside depth t
    e = turn.entering

    abbrev room : g.messages * 10 ≤ length o₀
    room = turn.room

    abbrev w : Going first count depth t o₀ k u o
    w = turn.going

    abbrev l : k < count
    l = turn.less

    abbrev r : ℕ
    r = first + k

    abbrev m : ℕ
    m = t.messages + done depth first k

    messages : u.messages ≡ m
    messages = ap (λ (v : Tally). v.messages) w.tally

    pub turn_row : r < g.messages
    turn_row = omega (arith, e.inside)

    turn_within : within depth g r ≡ true
    turn_within = all_span_elim (within depth g) first count e.levels k l

    pub turn_depth : 0 < depth
    turn_depth = within_pos depth r turn_within

    turn_stands : Stands (flat_messages g) m (r ∷ walked (depth - 1) g (nested_rows g r))
    turn_stands =
        let a = walked depth g (span first k) in
        let b = walked depth g (span (first + k + 1) (count - k - 1)) in
        subst (Stands (flat_messages g) m) (preorder_in depth r turn_within)
        (stands_left (flat_messages g) m (preorder depth g r) b
        (stands_right (flat_messages g) t.messages a (preorder depth g r ++ b)
        (subst (Stands (flat_messages g) t.messages) (walked_at depth first k count l) e.stands)))

    turn_fits : m + suc (length (walked (depth - 1) g (nested_rows g r))) ≤ g.messages
    turn_fits = omega (arith, flat_length g e.sound, stands_fits (flat_messages g) m (r ∷ walked (depth - 1) g (nested_rows g r)) turn_stands)

    pub turn_here : u.messages < g.messages
    turn_here = omega (arith, messages, turn_fits)

    row_here : row_of g m ≡ r
    row_here = stands-head (flat_messages g) m r (walked (depth - 1) g (nested_rows g r)) turn_stands

    turn_words : link_at g r outside u ≡ message_link g m
    turn_words =
        ap (link_at g r outside) w.tally
        ∙ ap (λ (x : ℕ). link_at g r x (tally_at g m)) (sym (e.enclosed k l))
        ∙ ap (λ (x : ℕ). link_at g x (outer g x) (tally_at g m)) (sym row_here)

    enums-here : first_enum g m + (g.enums_in r).count ≡ first_enum g (m + 1)
    enums-here = let q = ap (λ (x : ℕ). (g.enums_in x).count) row_here in omega (arith, enums_next g e.sound m (omega (arith, turn_fits)))

    oneofs-here : first_oneof g m + (g.oneofs_in r).count ≡ first_oneof g (m + 1)
    oneofs-here = let q = ap (λ (x : ℕ). (g.oneofs_in x).count) row_here in omega (arith, oneofs_next g e.sound m (omega (arith, turn_fits)))

    fields_here : first_field g m + (g.fields_in r).count + (g.extensions_in r).count ≡ first_field g (m + 1)
    fields_here =
        let q = ap (λ (x : ℕ). (g.fields_in x).count + (g.extensions_in x).count) row_here in
        omega (arith, fields_next g e.sound m (omega (arith, turn_fits)))

    turn_tally : tallied g u r ≡ tally_at g (m + 1)
    turn_tally =
        ap (λ (v : Tally). tallied g v r) w.tally
        ∙ (λ i. record { messages = m + 1; enums = enums-here i; oneofs = oneofs-here i; fields = fields_here i })

    pub turn_in_words : InWords (tallied g u r)
    turn_in_words =
        let ok = e.sound in
        let h : m + 1 ≤ g.messages = omega (arith, turn_fits) in
        subst InWords (sym turn_tally)
        (record {
          messages = omega (arith, ok.few-messages);
          enums = omega (arith, enums_mono g ok (m + 1) g.messages h, enums_end_lem g ok, ok.few-enums);
          oneofs = omega (arith, oneofs_mono g ok (m + 1) g.messages h, oneofs_end g ok, ok.few-oneofs);
          fields = omega (arith, fields_mono g ok (m + 1) g.messages h, fields_end_lem g ok, ok.few_fields);
        })

    -- the nested rows may be entered: this message encloses them
    module _ {v : Tally} {inner : Range} (pv : v ≡ tallied g u r) (pr : inner ≡ g.nested r) where
      inner_messages : v.messages ≡ m + 1
      inner_messages = ap (λ (x : Tally). x.messages) (pv ∙ turn_tally)

      inner_rows : rows_of inner ≡ nested_rows g r
      inner_rows = ap rows_of pr

      inner_enclosed : (j : ℕ) → j < inner.count → outer g (inner.first + j) ≡ u.messages + 1
      inner_enclosed j lj =
          let c = inner.first + j in
          let pf = ap (λ (x : Range). x.first) pr in
          let pc = ap (λ (x : Range). x.count) pr in
          let inside = e.sound.layout.nested-inside r turn_row in
          let has : owns g r c ≡ true = range_in (g.nested r).first (g.nested r).count c (omega arith) (omega arith) in
          let own = owner_in g e.sound.layout r c turn_row (omega arith) has in
          let n : flat_of g r ≡ m = ap (flat_of g) (sym row_here) ∙ flat_of_row g e.sound m (omega (arith, turn_fits)) in
          simp (le-ltb c g.top_messages own.0) (ap (λ (x : ℕ). flat_of g x + 1) own.1 ∙ ap (λ (x : ℕ). x + 1) (n ∙ sym messages))

      pub turn_entering : Entering g inner.first inner.count (u.messages + 1) (depth - 1) v
      turn_entering =
          record {
            sound = e.sound;
            stands =
                rw (inner_messages, inner_rows) (stands_tail (flat_messages g) m r (walked (depth - 1) g (nested_rows g r)) turn_stands);
            levels = rw inner_rows (within_in depth r turn_within);
            inside = rw pr (e.sound.layout.nested-inside r turn_row);
            enclosed = inner_enclosed;
            tally = pv ∙ turn_tally ∙ ap (tally_at g) (sym inner_messages);
          }

      -- what the call leaves is what the range leaves after one row more
      module _ {x : Tally} {o₁ o₂ : List ℕ}
          (p₁ : o₁ ≡ splice o (u.messages * 10) (link_at g r outside u))
          (px : x ≡ tally_at g (v.messages + length (walked (depth - 1) g (rows_of inner))))
          (p₂ : o₂ ≡ splice o₁ (v.messages * 10) (message_links g v.messages (length (walked (depth - 1) g (rows_of inner)))))
          (len : length o₂ ≡ length o) where
        abbrev b : ℕ
        b = length (walked (depth - 1) g (nested_rows g r))

        done_next : done depth first (k + 1) ≡ done depth first k + suc b
        done_next =
            ap length (walked_more depth first k)
            ∙ length-append (walked depth g (span first k)) (preorder depth g r)
            ∙ ap (λ (y : List ℕ). done depth first k + length y) (preorder_in depth r turn_within)

        pub going_next : Going first count depth t o₀ (k + 1) x o₂
        going_next =
            let q₁ : o₁ ≡ splice o (m * 10) (message_link g m) = rw (messages, turn_words) at p₁ in
            let q₂ : o₂ ≡ splice o₁ ((m + 1) * 10) (message_links g (m + 1) b) = rw (inner_messages, inner_rows) at p₂ in
            let qx : x ≡ tally_at g (m + 1 + b) = rw (inner_messages, inner_rows) at px in
            let n : m + 1 + b ≡ t.messages + done depth first (k + 1) = omega (arith, done_next) in
            record {
              at = omega arith;
              len = len ∙ w.len;
              tally = qx ∙ ap (tally_at g) n;
              words =
                  links-written o₀ o o₁ o₂ t.messages (done depth first k) b (omega (arith, turn_fits, room)) w.words q₁ q₂
                  ∙ ap (λ (y : ℕ). splice o₀ (t.messages * 10) (message_links g t.messages y)) (sym done_next);
            }

  -- the end of the range
  pub going_end : {first count depth k : ℕ} {t u : Tally} {o₀ o : List ℕ} → Going first count depth t o₀ k u o → count ≤ k
      → (u ≡ tally_at g (t.messages + done depth first count)) × (o ≡ splice o₀ (t.messages * 10) (message_links g t.messages (done depth first count)))
  going_end {first} {count} {depth} {k} {t} {u} {o₀} {o} w l = let e : count ≡ k = omega (arith, w.at) in rw e (w.tally, w.words)

  -- the whole: the top level is entered at number 0
  pub entering_top : Sound g → (t : Tally) → t ≡ record { messages = 0; enums = g.top_enums; oneofs = 0; fields = 0 } → Entering g 0 g.top_messages 0 max_depth t
  unfolding flat_messages total
  entering_top ok t p =
      let z : t.messages ≡ 0 = ap (λ (x : Tally). x.messages) p in
      record {
        sound = ok;
        stands = record { before = []; behind = []; whole = sym (append-nil (flat_messages g)); at = sym z };
        levels = ok.depth;
        inside = omega (arith, ok.layout.top_inside);
        enclosed = λ k l. simp (lt-ltb (0 + k) g.top_messages (omega arith));
        tally = p ∙ (λ i. record { messages = 0; enums = sym (add-zero g.top_enums) i; oneofs = 0; fields = 0 }) ∙ ap (tally_at g) (sym z);
      }

  top_done : Sound g → done max_depth 0 g.top_messages ≡ g.messages
  unfolding flat_messages
  top_done ok = flat_length g ok

  -- what the call at the top level leaves: `o` from words `o₀`
  pub top_end : Sound g → (o₀ : List ℕ) {o : List ℕ} → o ≡ splice o₀ 0 (message_links g 0 (done max_depth 0 g.top_messages))
      → o ≡ splice o₀ 0 (message_links g 0 g.messages)
  top_end ok o₀ q = rw (top_done ok) at q
