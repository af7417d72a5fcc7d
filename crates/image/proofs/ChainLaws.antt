-- The link rows of a sound image, read back: image rows and enclosing words of messages and enums, and that these words lead upwards
-- to the top level. Assumes nothing.
use mathlib.Core.Path.{◌≡◌, refl, sym, ap, ◌∙◌}
use mathlib.Core.List.{List, ◌++◌}
use mathlib.Core.Bool.{true, false}
use Prim.Native.Nat.{ℕ, zero, suc, ◌+◌, ◌*◌, ◌-◌, ◌<◌, ◌≤◌}
use native.Mathlib.Nat.{add-zero, zero-add}
use native.Mathlib.Numerals.{add-one}
use native.Mathlib.Omega.{arith}
use lib.ListN.{length, get_or, length-append, get_or-append}
use lib.Seq.{take_at, get_or-append-add}
use Rattle.lists.specs.Lists.{total}
use Rattle.lists.proofs.Cases.{order, clash}
use Rattle.image.specs.Schema.{Schema}
use Rattle.image.specs.Flat.{flat_enums, row_of, flat_of, owner, enclosing, first_enum}
use Rattle.image.specs.Level.{level}
use Rattle.image.specs.Laid.{Sound}
use Rattle.image.specs.Links.{message_links, enum_link, enum_links, oneof_links, links_of, message_row, message_up, enum_row, enum_up}
use Rattle.image.specs.Walk.{Indexed, enum_part, enum_links_at}
use Rattle.image.specs.Chained.{outside, stands_in, Chained}
use Rattle.image.proofs.Numbers.{row_in, enclosing_top, enclosing-nested}
use Rattle.image.proofs.Levels.{levels, climb}
use Rattle.image.proofs.Owned.{enums_end_lem, enums_next, enums_mono, one_to_one}
use Rattle.image.proofs.LinkLaws.{run, run_first, run_add, run_length, run_word, message_links-length, parts_length}
use Rattle.image.proofs.IndexLaws.{indexed_row, indexed_up, enum_parts, enum_words_start, links-length}

-- word k of the part of m, in a run of n parts
part_word : (part : ℕ → List ℕ) (n m k : ℕ) → m < n → k < length (part m) → get_or (run part 0 n) (length (run part 0 m) + k) 0 ≡ get_or (part m) k 0
part_word part n m k l h =
    let rest = n - m - 1 in
    let e : n ≡ m + suc rest = omega arith in
    ap (λ (x : ℕ). get_or (run part 0 x) (length (run part 0 m) + k) 0) e
    ∙ ap (λ (x : List ℕ). get_or x (length (run part 0 m) + k) 0) (run_add part 0 m (suc rest))
    ∙ get_or-append-add (run part 0 m) (run part (0 + m) (suc rest)) k 0
    ∙ ap (λ (x : ℕ). get_or (run part x (suc rest)) k 0) (zero-add m)
    ∙ ap (λ (x : List ℕ). get_or x k 0) (run_first part m rest)
    ∙ get_or-append (part m) (run part (m + 1) rest) 0 k h

-- enum e stands in a message, at a place among those that the message owns
pub record EnumIn (g : Schema) (e : ℕ) : Type 0 where
  pub message : ℕ
  pub place : ℕ
  pub message_below : message < g.messages
  pub place_below : place < (g.enums_in (row_of g message)).count
  pub is : e ≡ first_enum g message + place

module _ (g : Schema) (ok : Sound g) where
  -- ---- messages

  pub links_indexed : Indexed g (links_of g)
  unfolding links_of
  links_indexed =
      record {
        room = omega (arith, links-length g ok);
        front = take_at (message_links g 0 g.messages) (enum_links g g.messages ++ oneof_links g g.messages) (g.messages * 10) (message_links-length g 0 g.messages);
      }

  pub message_row_is : (m : ℕ) → m < g.messages → message_row (links_of g) m ≡ row_of g m
  message_row_is = indexed_row g links_indexed

  pub message_row_below : (m : ℕ) → m < g.messages → message_row (links_of g) m < g.messages
  message_row_below m l = rw (message_row_is m l) (row_in g ok m l)

  pub message_up_is : (m : ℕ) → m < g.messages → message_up (links_of g) m ≡ enclosing g m
  message_up_is = indexed_up g links_indexed

  -- ---- enums

  -- an enum behind those of the file stands in a message: here one before the first enum of message n, by going down from n
  enum_among : (n e : ℕ) → n ≤ g.messages → g.top_enums ≤ e → e < first_enum g n → EnumIn g e
  unfolding total
  enum_among zero e h top l = absurd (omega arith)
  enum_among (suc n) e h top l =
      order e (first_enum g n)
      (λ b. enum_among n e (omega arith) top b)
      (λ b.
      let next : first_enum g (suc n) ≡ first_enum g n + (g.enums_in (row_of g n)).count = rw add-one at (enums_next g ok n (omega arith)) in
      record { message = n; place = e - first_enum g n; message_below = omega arith; place_below = omega arith; is = omega arith })

  pub enum_in : (e : ℕ) → g.top_enums ≤ e → e < g.enums → EnumIn g e
  enum_in e top l = enum_among g.messages e (omega arith) top (omega (arith, enums_end_lem g ok))

  abbrev file_enums : List ℕ
  file_enums = run (enum_link 0) 0 g.top_enums

  abbrev own_enums : List ℕ
  own_enums = run (enum_part g) 0 g.messages

  -- the words of enums stand behind those of messages
  enum_front : (i : ℕ) → i < length (enum_links g g.messages) → get_or (links_of g) (g.messages * 10 + i) 0 ≡ get_or (enum_links g g.messages) i 0
  unfolding links_of
  enum_front i h =
      ap (λ (x : ℕ). get_or (links_of g) (x + i) 0) (sym (message_links-length g 0 g.messages))
      ∙ get_or-append-add (message_links g 0 g.messages) (enum_links g g.messages ++ oneof_links g g.messages) i 0
      ∙ get_or-append (enum_links g g.messages) (oneof_links g g.messages) 0 i h

  file_length : length file_enums ≡ g.top_enums * 2
  file_length = run_length (enum_link 0) 2 (λ x. refl) 0 g.top_enums

  -- word k of enum e of the file
  top_word : (e k : ℕ) → e < g.top_enums → k < 2 → get_or (links_of g) (g.messages * 10 + (e * 2 + k)) 0 ≡ get_or (enum_link 0 e) k 0
  top_word e k l h =
      enum_front (e * 2 + k) (omega (arith, length-append file_enums own_enums, file_length))
      ∙ get_or-append file_enums own_enums 0 (e * 2 + k) (omega (arith, file_length))
      ∙ run_word (enum_link 0) 2 (λ x. refl) 0 g.top_enums e k l h
      ∙ ap (λ (x : ℕ). get_or (enum_link 0 x) k 0) (zero-add e)

  -- word k of enum j of message m
  own-word : (m j k : ℕ) → m < g.messages → j < (g.enums_in (row_of g m)).count → k < 2
      → get_or (links_of g) (g.messages * 10 + ((first_enum g m + j) * 2 + k)) 0 ≡ get_or (enum_link (m + 1) ((g.enums_in (row_of g m)).first + j)) k 0
  own-word m j k l lj h =
      let r = g.enums_in (row_of g m) in
      let size = run_length (enum_link (m + 1)) 2 (λ x. refl) r.first r.count in
      let here = parts_length (enum_part g) (enum_links_at g) g.messages (enum_parts g ok) m (omega arith) in
      let whole = parts_length (enum_part g) (enum_links_at g) g.messages (enum_parts g ok) g.messages (omega arith) in
      let start = enum_words_start g ok in
      let e : (first_enum g m + j) * 2 + k ≡ length file_enums + (length (run (enum_part g) 0 m) + (j * 2 + k)) = omega (arith, file_length) in
      enum_front ((first_enum g m + j) * 2 + k)
      (omega (arith, length-append file_enums own_enums, file_length, enums_next g ok m l, enums_mono g ok (m + 1) g.messages (omega arith)))
      ∙ ap (λ (x : ℕ). get_or (enum_links g g.messages) x 0) e
      ∙ get_or-append-add file_enums own_enums (length (run (enum_part g) 0 m) + (j * 2 + k)) 0
      ∙ part_word (enum_part g) g.messages m (j * 2 + k) l (omega arith)
      ∙ run_word (enum_link (m + 1)) 2 (λ x. refl) r.first r.count j k lj h

  -- the places where the two words of an enum are read, in the form of the laws above
  row_place : (e : ℕ) → enum_row g (links_of g) e ≡ get_or (links_of g) (g.messages * 10 + (e * 2 + 0)) 0
  row_place e = ap (λ (x : ℕ). get_or (links_of g) (g.messages * 10 + x) 0) (sym (add-zero (e * 2)))

  up_place : (e : ℕ) → enum_up g (links_of g) e ≡ get_or (links_of g) (g.messages * 10 + (e * 2 + 1)) 0
  up_place e = let p : g.messages * 10 + e * 2 + 1 ≡ g.messages * 10 + (e * 2 + 1) = omega arith in ap (λ (x : ℕ). get_or (links_of g) x 0) p

  pub enum_row_is : (e : ℕ) → e < g.enums → enum_row g (links_of g) e ≡ get_or (flat_enums g) e 0
  enum_row_is e l =
      order e g.top_enums
      (λ t. row_place e ∙ top_word e 0 t (omega arith) ∙ sym ((one_to_one g ok).top_enum e t))
      (λ t.
      let o = enum_in e t l in
      ap (enum_row g (links_of g)) o.is
      ∙ row_place (first_enum g o.message + o.place)
      ∙ own-word o.message o.place 0 o.message_below o.place_below (omega arith)
      ∙ sym ((one_to_one g ok).own_enum o.message o.place o.message_below o.place_below)
      ∙ ap (λ (x : ℕ). get_or (flat_enums g) x 0) (sym o.is))

  pub enum_row_below : (e : ℕ) → e < g.enums → enum_row g (links_of g) e < g.enums
  enum_row_below e l = rw (enum_row_is e l) ((one_to_one g ok).enums.row_below e l)

  pub top_enum_up : (k : ℕ) → k < g.top_enums → enum_up g (links_of g) k ≡ 0
  top_enum_up k l = up_place k ∙ top_word k 1 l (omega arith)

  pub own-enum_up : (m k : ℕ) → m < g.messages → k < (g.enums_in (row_of g m)).count → enum_up g (links_of g) (first_enum g m + k) ≡ m + 1
  own-enum_up m k l lk = up_place (first_enum g m + k) ∙ own-word m k 1 l lk (omega arith)

  pub enum_up_le : (e : ℕ) → e < g.enums → enum_up g (links_of g) e ≤ g.messages
  enum_up_le e l =
      order e g.top_enums
      (λ t. omega (arith, top_enum_up e t))
      (λ t.
      let o = enum_in e t l in
      let p = ap (enum_up g (links_of g)) o.is ∙ own-enum_up o.message o.place o.message_below o.place_below in
      omega (arith, o.message_below))

  -- ---- the chain

  -- a message that is at most so many levels down, itself being one, stands in at most one fewer
  stands_in_lem : (d m : ℕ) → m < g.messages → level (suc d) g (row_of g m) ≡ true → stands_in (message_up (links_of g)) d m ≡ true
  unfolding stands_in outside level
  stands_in_lem zero m l h =
      order (row_of g m) g.top_messages
      (λ t. let e = message_up_is m l ∙ enclosing_top g ok m t in rw e)
      (λ t. clash false (climb g ok 1 m (flat_of g (owner g (row_of g m))) l h (enclosing-nested g ok m l t).word).2 refl)
  stands_in_lem (suc d) m l h =
      order (row_of g m) g.top_messages
      (λ t. let e = message_up_is m l ∙ enclosing_top g ok m t in rw e)
      (λ t.
      let o = enclosing-nested g ok m l t in
      let j = flat_of g (owner g (row_of g m)) in
      let s = climb g ok (suc (suc d)) m j l h o.word in
      let n : suc (suc d) - 1 ≡ suc d = omega arith in
      let e : message_up (links_of g) m ≡ suc j = message_up_is m l ∙ o.word ∙ add-one j in
      rw e (stands_in_lem d j (omega (arith, s.0)) (rw n at s.2)))

  pub links-chained : Chained g (links_of g)
  links-chained =
      record {
        few = omega (arith, ok.few-messages, ok.few-enums);
        message_up_lem = λ m l. rw (message_up_is m l) ((one_to_one g ok).enclosing-before m l);
        enum_up_lem = enum_up_le;
        deep = λ m l. stands_in_lem 15 m l (levels g ok (row_of g m) (row_in g ok m l));
      }
