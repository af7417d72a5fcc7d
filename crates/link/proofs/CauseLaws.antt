-- Causes: marked messages of shelved files, required fields, and what the link row of a message says of its fields. Assumes nothing.
use mathlib.Core.Path.{◌≡◌, refl, sym, ap, ◌∙◌}
use mathlib.Core.Bool.{Bool, true, false, ◌&&◌, ◌||◌}
use mathlib.Core.List.{List}
use Prim.Native.Nat.{ℕ, ◌+◌, ◌-◌, ◌*◌, ◌<◌, ◌≤◌}
use native.Mathlib.Nat.{zero-add}
use native.Mathlib.Omega.{arith}
use lib.Dec.{eqb, ltb, leb}
use lib.ListN.{length, get_or, replicate, length-replicate, get_or-replicate}
use lib.Seq.{get_or-take}
use borrow.Author.Tests.{eq-eqb, ne_eqb, lt-ltb, le-ltb, le-leb, lt-leb}
use Rattle.lists.specs.Below.{bit, any_below}
use Rattle.lists.specs.Lists.{table}
use Rattle.lists.proofs.TableLaws.{length_table, get_or_table}
use Rattle.image.specs.Words.{word_at, fields_of, extension_ranges_at, row_at, trailer_word}
use Rattle.image.specs.Schema.{Schema, schema_in}
use Rattle.image.specs.Flat.{row_of, first_field}
use Rattle.image.specs.Members.{regular}
use Rattle.image.specs.Laid.{Sound}
use Rattle.image.specs.Links.{message_link}
use Rattle.image.specs.Walk.{Indexed}
use Rattle.image.specs.Record.{File, link_row}
use Rattle.image.specs.LinkTests.{file_by}
use Rattle.image.specs.declared.rows.Range.{Range}
use Rattle.image.specs.declared.rows.Sections.{Sections}
use Rattle.image.specs.declared.rows.Kind.TheVariants.{Message}
use Rattle.image.proofs.FileLaws.{by_word}
use Rattle.image.proofs.FieldLaws.{says}
use Rattle.image.proofs.LinkLaws.{run_word}
use Rattle.image.proofs.FieldListLaws.{field_count_lem, field_parts}
use Rattle.link.specs.Marks.{is_marked, message_refers, own_cause}
use Rattle.link.specs.Edges.{rows_refer, has_cause}
use Rattle.link.proofs.TurnLaws.{All}

-- ---- marked messages of n files

module _ (file : ℕ → File) (n word index : ℕ) where
  pub marked_none : word ≡ 0 → false ≡ is_marked (table n file) word index
  marked_none e =
      sym (ap (λ (b : Bool). b && (leb word (length (table n file)) && eqb (word_at (file_by (table n file) word).links (index * 10 + 8)) 0)) (le-ltb 0 word (omega arith)))

  pub marked_past : n < word → false ≡ is_marked (table n file) word index
  marked_past h =
      sym
      (ap (λ (b : Bool). b && (leb word (length (table n file)) && eqb (word_at (file_by (table n file) word).links (index * 10 + 8)) 0)) (lt-ltb 0 word (omega arith))
      ∙ ap (λ (b : Bool). b && eqb (word_at (file_by (table n file) word).links (index * 10 + 8)) 0) (lt-leb word (length (table n file)) (omega (arith, length_table n file))))

  pub marked_by : {links : List ℕ} {w : ℕ} → (word ≡ 0 → ⊥) → word ≤ n → links ≡ (file (word - 1)).links → w ≡ word_at links (index * 10 + 8)
      → eqb w 0 ≡ is_marked (table n file) word index
  marked_by {links} {w} z h e r =
      let some : 0 < word = omega arith in
      ap (λ (x : ℕ). eqb x 0) (r ∙ ap (λ (l : List ℕ). word_at l (index * 10 + 8)) (e ∙ ap (λ (f : File). f.links) (sym (by_word file n word some h))))
      ∙ sym
      (ap (λ (b : Bool). b && (leb word (length (table n file)) && eqb (word_at (file_by (table n file) word).links (index * 10 + 8)) 0)) (lt-ltb 0 word some)
      ∙ ap (λ (b : Bool). b && eqb (word_at (file_by (table n file) word).links (index * 10 + 8)) 0) (le-leb word (length (table n file)) (omega (arith, length_table n file))))

-- ---- a message's own causes

-- field k of a range is required
abbrev pub is_required : List ℕ → Sections → List ℕ → Range → ℕ → Bool
is_required image s pool g k = eqb (says image s pool g k).label 2

abbrev pub some_required : Schema → ℕ → Bool
some_required g r = any_below (g.fields_in r).count (λ k. eqb (regular g r k).label 2)

module _ (image : List ℕ) (s : Sections) (pool : List ℕ) (r : ℕ) where
  pub required_in : (g : Range) → g ≡ fields_of image s r → some_required (schema_in image s pool) r ≡ any_below g.count (is_required image s pool g)
  unfolding schema_in
  required_in g at = rw at

  pub syntax_in : trailer_word image 5 ≡ (schema_in image s pool).syntax
  unfolding schema_in trailer_word
  syntax_in = refl

  pub ranges_in : word_at image (extension_ranges_at (row_at s Message r)) ≡ (schema_in image s pool).extension_ranges r
  unfolding schema_in
  ranges_in = refl

module _ (g : Schema) (r : ℕ) where
  -- proto3 has none
  pub own_none : g.syntax ≡ 3 → false ≡ own_cause g r
  unfolding own_cause
  own_none e = rw (eq-eqb g.syntax 3 e)

  pub own_ranges : (g.syntax ≡ 3 → ⊥) → (g.extension_ranges r ≡ 0 → ⊥) → true ≡ own_cause g r
  unfolding own_cause
  own_ranges e h = rw (ne_eqb g.syntax 3 e, ne_eqb (g.extension_ranges r) 0 h)

  pub own-required : (g.syntax ≡ 3 → ⊥) → g.extension_ranges r ≡ 0 → some_required g r ≡ own_cause g r
  unfolding own_cause
  own-required e h = rw (ne_eqb g.syntax 3 e, eq-eqb (g.extension_ranges r) 0 h)

-- ---- the link row of a message

module _ (g : Schema) {l : List ℕ} (h : Indexed g l) (m : ℕ) (lm : m < g.messages) where
  -- word k of the link row that was read
  link_word : {row : List ℕ} (k : ℕ) → k < 10 → row ≡ link_row l (m * 10) 10 → get_or row k 0 ≡ get_or (message_link g m) k 0
  link_word k lk e =
      ap (λ (x : List ℕ). get_or x k 0) e
      ∙ get_or_table 10 (λ j. word_at l (m * 10 + j)) k 0 lk
      ∙ sym (get_or-take (g.messages * 10) l (m * 10 + k) 0 (omega arith))
      ∙ ap (λ (x : List ℕ). get_or x (m * 10 + k) 0) h.front
      ∙ run_word (message_link g) 10 (λ x. refl) 0 g.messages m k lm lk
      ∙ ap (λ (x : ℕ). get_or (message_link g x) k 0) (zero-add m)

  module _ {row : List ℕ} (e : row ≡ link_row l (m * 10) 10) where
    pub link_home : get_or row 0 0 ≡ row_of g m
    link_home = link_word 0 (omega arith) e

    pub link_first : get_or row 4 0 ≡ first_field g m
    link_first = link_word 4 (omega arith) e

    pub link_count : get_or row 5 0 ≡ (g.fields_in (row_of g m)).count
    link_count = link_word 5 (omega arith) e

    pub link_refers : (rows : List ℕ) (p : ℕ → ℕ → Bool) → message_refers g rows m p ≡ rows_refer rows (get_or row 4 0) (get_or row 5 0) p
    unfolding message_refers
    link_refers rows p =
        ap (λ (x : ℕ). rows_refer rows x (g.fields_in (row_of g m)).count p) (sym link_first)
        ∙ ap (λ (x : ℕ). rows_refer rows (get_or row 4 0) x p) (sym link_count)

    -- its own cause, and those of its fields
    pub own-here : {b : Bool} (files : List File) (rows : List ℕ) → b ≡ own_cause g (get_or row 0 0) → b ≡ true → true ≡ has_cause g files rows m
    own-here files rows p t =
        sym (ap (λ (x : Bool). x || message_refers g rows m (is_marked files)) (ap (own_cause g) (sym link_home) ∙ sym p ∙ t))

    pub fields_here : {a b : Bool} (files : List File) (rows : List ℕ) → a ≡ own_cause g (get_or row 0 0) → a ≡ false
        → b ≡ rows_refer rows (get_or row 4 0) (get_or row 5 0) (is_marked files) → b ≡ has_cause g files rows m
    fields_here files rows p t q =
        q
        ∙ sym (link_refers rows (is_marked files))
        ∙ sym (ap (λ (x : Bool). x || message_refers g rows m (is_marked files)) (ap (own_cause g) (sym link_home) ∙ sym p ∙ t))

-- ---- a word for each message, of which the first m are set

abbrev pub marked : (ℕ → Bool) → ℕ → ℕ → ℕ
marked f m i = bit (ltb i m && f i)

pub record Marking (f : ℕ → Bool) (n m : ℕ) (d : List ℕ) : Type 0 where
  pub at : m ≤ n
  pub len : length d ≡ 256
  pub words : All d (marked f m)

module _ {f : ℕ → Bool} where
  pub marking_start : (n : ℕ) → Marking f n 0 (replicate 256 0)
  marking_start n =
      record {
        at = omega arith;
        len = length-replicate {A = ℕ} 256 0;
        words = λ j l. get_or-replicate {A = ℕ} 256 j 0 0 l ∙ sym (ap (λ (b : Bool). bit (b && f j)) (le-ltb j 0 (omega arith)));
      }

  pub marking_end : {n m : ℕ} {d : List ℕ} → n ≤ 256 → Marking f n m d → n ≤ m → (i : ℕ) → i < n → get_or d i 0 ≡ bit (f i)
  marking_end {n} {m} few t l i h =
      t.words i (omega arith) ∙ ap (λ (b : Bool). bit (b && f i)) (lt-ltb i m (omega arith))

-- ---- how many fields there are

module _ (g : Schema) (ok : Sound g) (m : ℕ) (l : m < g.messages) where
  pub fields_behind : first_field g m + (g.fields_in (row_of g m)).count ≤ first_field g (m + 1)
  fields_behind = omega (arith, field_parts g ok m l, field_count_lem g ok m)
