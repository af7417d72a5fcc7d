-- References put behind each other: nothing put, one put, and what comes of rows and of messages. Assumes nothing.
use mathlib.Core.Path.{◌≡◌, refl, sym, ap, ◌∙◌, subst}
use mathlib.Core.Bool.{Bool, true, false, ◌&&◌, ◌||◌}
use mathlib.Core.List.{List}
use Prim.Native.Nat.{ℕ, ◌+◌, ◌*◌, ◌<◌, ◌≤◌}
use native.Mathlib.Numerals.{add-one}
use native.Mathlib.Omega.{arith}
use lib.Dec.{eqb}
use lib.ListN.{length, get_or, set, length-set}
use lib.Seq.{get_or-set_same, get_or-set_other}
use borrow.Author.Tests.{eq-eqb}
use Rattle.lists.specs.Below.{any_below}
use Rattle.lists.proofs.Cases.{order, and-false, or_assoc}
use Rattle.lists.proofs.BelowLaws.{any_below_start, any_below_agree}
use Rattle.image.specs.Schema.{Schema}
use Rattle.image.specs.Record.{field_link_of, link_row}
use Rattle.link.specs.Resolve.{is_message_type}
use Rattle.link.specs.Marks.{refers_to, message_refers}
use Rattle.link.specs.Edges.{from, to, has_edge, rows_refer, is_in, refers_below, Pushed}

-- ---- conditions

-- a reference of message `home`, where b holds or a did
spread : (h a b : Bool) → (h && (b || a)) ≡ ((h && b) || (h && a))
spread true a b = refl
spread false a b = refl

none : (h b : Bool) → b ≡ false → (h && b) ≡ false
none h b e = ap (λ (x : Bool). h && x) e ∙ and-false h

any_next : (n : ℕ) (p : ℕ → Bool) → any_below (n + 1) p ≡ (p n || any_below n p)
unfolding any_below
any_next n p = ap (λ (k : ℕ). any_below k p) (add-one n)

-- ---- steps

-- nothing is put
pushed_not : (es : List ℕ) (m n most : ℕ) (new : ℕ → ℕ → Bool) → ((i j : ℕ) → j < n → new i j ≡ false) → Pushed es m es m n most new
pushed_not es m n most new h =
    record {
      few = omega arith;
      inside = λ x. x;
      has = λ i j l. sym (ap (λ (b : Bool). b || has_edge es m i j) (h i j l));
    }

-- one step behind another
pushed_then : {a b c : List ℕ} {m k l n x y : ℕ} {p q : ℕ → ℕ → Bool} (most : ℕ) (new : ℕ → ℕ → Bool) → Pushed a m b k n x p → Pushed b k c l n y q → x + y ≤ most
    → ((i j : ℕ) → j < n → new i j ≡ (q i j || p i j)) → Pushed a m c l n most new
pushed_then {a} {b} {c} {m} {k} {l} {n} {x} {y} {p} {q} most new f s h e =
    record {
      few = omega (arith, f.few, s.few);
      inside = λ z. s.inside (f.inside z);
      has = λ i j z.
          s.has i j z
          ∙ ap (λ (t : Bool). q i j || t) (f.has i j z)
          ∙ sym (or_assoc (q i j) (p i j) (has_edge a m i j))
          ∙ ap (λ (t : Bool). t || has_edge a m i j) (sym (e i j z));
    }

-- the same, said otherwise
pub pushed_as : {a b : List ℕ} {m k n x : ℕ} {p : ℕ → ℕ → Bool} (most : ℕ) (new : ℕ → ℕ → Bool) → Pushed a m b k n x p → x ≤ most
    → ((i j : ℕ) → j < n → new i j ≡ p i j) → Pushed a m b k n most new
pushed_as {a} {b} {m} most new f h e =
    record {
      few = omega (arith, f.few);
      inside = f.inside;
      has = λ i j z. f.has i j z ∙ ap (λ (t : Bool). t || has_edge a m i j) (sym (e i j z));
    }

-- ---- one reference

module _ (es : List ℕ) (m home index : ℕ) (room : 2 * m + 2 ≤ length es) {es' : List ℕ} (put : es' ≡ set (set es (2 * m) home) (2 * m + 1) index) where
  put_from : from es' m ≡ home
  put_from =
      ap (λ (l : List ℕ). get_or l (2 * m) 0) put
      ∙ get_or-set_other (set es (2 * m) home) (2 * m + 1) (2 * m) index 0 (λ e. absurd (omega arith))
      ∙ get_or-set_same es (2 * m) home 0 (omega arith)

  put_to : to es' m ≡ index
  put_to =
      ap (λ (l : List ℕ). get_or l (2 * m + 1) 0) put
      ∙ get_or-set_same (set es (2 * m) home) (2 * m + 1) index 0 (omega (arith, length-set es (2 * m) home))

  -- other words stay
  put_other : (k : ℕ) → k < 2 * m → get_or es' k 0 ≡ get_or es k 0
  put_other k l =
      ap (λ (x : List ℕ). get_or x k 0) put
      ∙ get_or-set_other (set es (2 * m) home) (2 * m + 1) k index 0 (λ e. absurd (omega arith))
      ∙ get_or-set_other es (2 * m) k home 0 (λ e. absurd (omega arith))

  put_old : (i j : ℕ) → has_edge es' m i j ≡ has_edge es m i j
  put_old i j =
      any_below_agree m (λ x. eqb (from es' x) i && eqb (to es' x) j) (λ x. eqb (from es x) i && eqb (to es x) j)
      (λ x l.
      ap (λ (k : ℕ). eqb k i && eqb (to es' x) j) (put_other (2 * x) (omega arith))
      ∙ ap (λ (k : ℕ). eqb (from es x) i && eqb k j) (put_other (2 * x + 1) (omega arith)))

  pushed_put : (n : ℕ) (new : ℕ → ℕ → Bool) → home < n → index < n → ((i j : ℕ) → j < n → new i j ≡ (eqb home i && eqb index j)) → Pushed es m es' (m + 1) n 1 new
  pushed_put n new hl il e =
      record {
        few = omega arith;
        inside = λ h. record {
          ends = λ x l. order x m
              (λ y. (
                rw (put_other (2 * x) (omega arith)) (h.ends x y).0,
                rw (put_other (2 * x + 1) (omega arith)) (h.ends x y).1,
              ))
              (λ y. let q : x ≡ m = omega arith in rw q (rw put_from hl, rw put_to il));
        };
        has = λ i j l.
            any_next m (λ x. eqb (from es' x) i && eqb (to es' x) j)
            ∙ ap (λ (k : ℕ). (eqb k i && eqb (to es' m) j) || has_edge es' m i j) put_from
            ∙ ap (λ (k : ℕ). (eqb home i && eqb k j) || has_edge es' m i j) put_to
            ∙ ap (λ (b : Bool). b || has_edge es' m i j) (sym (e i j l))
            ∙ ap (λ (b : Bool). new i j || b) (put_old i j);
      }

-- a type, which is a message of the file with word `own`, or is not
abbrev pub type_new : ℕ → ℕ → ℕ → ℕ → ℕ → ℕ → ℕ → Bool
type_new home own t word index i j = eqb home i && (is_message_type t && is_in own j word index)

module _ (es : List ℕ) (m home n own t word index : ℕ) where
  pub put_one : {es' : List ℕ} → is_message_type t ≡ true → word ≡ own → index < n → home < n → 2 * m + 2 ≤ length es
      → es' ≡ set (set es (2 * m) home) (2 * m + 1) index → Pushed es m es' (m + 1) n 1 (type_new home own t word index)
  put_one {es'} et ew il hl room put =
      pushed_put es m home index room put n (type_new home own t word index) hl il
      (λ i j l.
      ap (λ (b : Bool). eqb home i && (b && is_in own j word index)) et
      ∙ ap (λ (b : Bool). eqb home i && (b && eqb index j)) (eq-eqb word own ew))

-- ---- the rows of a message

abbrev pub row_new : ℕ → ℕ → List ℕ → ℕ → ℕ → Bool
row_new home own row i j = eqb home i && refers_to (field_link_of row) (is_in own j)

abbrev pub rows_new : ℕ → ℕ → List ℕ → ℕ → ℕ → ℕ → ℕ → Bool
rows_new home own rows first count i j = eqb home i && rows_refer rows first count (is_in own j)

module _ (home own : ℕ) (rows : List ℕ) (first : ℕ) where
  pub rows_none : (es : List ℕ) (m n : ℕ) → Pushed es m es m n (2 * 0) (rows_new home own rows first 0)
  rows_none es m n =
      pushed_not es m n (2 * 0) (rows_new home own rows first 0)
      (λ i j l. none (eqb home i) (rows_refer rows first 0 (is_in own j)) (any_below_start (λ k. refers_to (field_link_of (link_row rows ((first + k) * 16) 16)) (is_in own j))))

  pub rows_next : {a b c : List ℕ} {m x y n : ℕ} (k : ℕ) {row : List ℕ} → Pushed a m b x n (2 * k) (rows_new home own rows first k)
      → row ≡ link_row rows ((first + k) * 16) 16 → Pushed b x c y n 2 (row_new home own row)
      → Pushed a m c y n (2 * (k + 1)) (rows_new home own rows first (k + 1))
  rows_next k {row} f e s =
      pushed_then (2 * (k + 1)) (rows_new home own rows first (k + 1)) f s (omega arith)
      (λ i j l.
      let p : ℕ → Bool = λ k. refers_to (field_link_of (link_row rows ((first + k) * 16) 16)) (is_in own j) in
      ap (λ (b : Bool). eqb home i && b) (any_next k p)
      ∙ spread (eqb home i) (any_below k p) (p k)
      ∙ ap (λ (r : List ℕ). row_new home own r i j || (eqb home i && any_below k p)) (sym e))

-- ---- the messages of a file

module _ (g : Schema) (rows : List ℕ) (own : ℕ) where
  pub messages_none : (es : List ℕ) (n most : ℕ) → Pushed es 0 es 0 n most (refers_below g rows own 0)
  messages_none es n most =
      pushed_not es 0 n most (refers_below g rows own 0) (λ i j l. any_below_start (λ x. eqb x i && message_refers g rows x (is_in own j)))

  pub messages_next : {a b c : List ℕ} {x y n more : ℕ} (m first count most : ℕ) → Pushed a 0 b x n more (refers_below g rows own m)
      → Pushed b x c y n (2 * count) (rows_new m own rows first count) → ((p : ℕ → ℕ → Bool) → message_refers g rows m p ≡ rows_refer rows first count p)
      → more + 2 * count ≤ most → Pushed a 0 c y n most (refers_below g rows own (m + 1))
  messages_next m first count most f s e h =
      pushed_then most (refers_below g rows own (m + 1)) f s h
      (λ i j l.
      any_next m (λ x. eqb x i && message_refers g rows x (is_in own j))
      ∙ ap (λ (b : Bool). (eqb m i && b) || refers_below g rows own m i j) (e (is_in own j)))

  -- all messages are done
  pub messages_all : {a b : List ℕ} {x more : ℕ} (n m most : ℕ) → g.messages ≡ n → m ≡ n → more ≤ most → Pushed a 0 b x n more (refers_below g rows own m)
      → Pushed a 0 b x g.messages most (refers_below g rows own g.messages)
  messages_all {a} {b} {x} n m most size e h f =
      subst (λ (k : ℕ). Pushed a 0 b x k most (refers_below g rows own k)) (sym size)
      (pushed_as most (refers_below g rows own n) f h (λ i j l. ap (λ (k : ℕ). refers_below g rows own k i j) (sym e)))
