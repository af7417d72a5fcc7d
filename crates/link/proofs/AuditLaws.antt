-- The audit listing: what its readers answer, in the words of what the file says. Assumes nothing.
use mathlib.Core.Path.{◌≡◌, refl, ap, ◌∙◌}
use mathlib.Core.List.{List}
use Prim.Native.Nat.{ℕ, ◌+◌, ◌*◌, ◌<◌}
use native.Mathlib.Omega.{arith}
use lib.ListN.{get_or}
use borrow.Author.Tests.{eq-eqb, ne_eqb}
use Rattle.std.specs.Prelude.{Some}
use Rattle.lists.proofs.TableLaws.{get_or_table}
use Rattle.image.specs.Words.{word_at, sections_of, trailer_word}
use Rattle.image.specs.Schema.{FieldSays, schema_in, schema_of, field_of}
use Rattle.image.specs.Record.{File, link_row, message_link_at}
use Rattle.image.specs.declared.rows.Sections.{Sections}
use Rattle.link.specs.Field.{field_in}
use Rattle.link.specs.Audit.{says_alone, mark_by, read_mark, by_label, shape_at, carried_at}
use Rattle.link.specs.declared.audit.Mark.TheVariants.{AlwaysInitialised, MayBeIncomplete}

-- ---- an image without its pool

pub syntax_alone : (image : List ℕ) → trailer_word image 5 ≡ (says_alone image).syntax
unfolding schema_of schema_in trailer_word
syntax_alone image = refl

pub messages_alone : (image : List ℕ) {s : Sections} → s ≡ sections_of image → s.messages.count ≡ (says_alone image).messages
unfolding schema_of schema_in
messages_alone image q = ap (λ (x : Sections). x.messages.count) q

-- ---- the link row of a message, which is read at once

module _ (links : List ℕ) (m : ℕ) {row : List ℕ} (e : row ≡ link_row links (message_link_at m) 10) where
  pub row_word : (k : ℕ) → k < 10 → get_or row k 0 ≡ word_at links (m * 10 + k)
  row_word k h = ap (λ (x : List ℕ). get_or x k 0) e ∙ get_or_table 10 (λ j. word_at links (m * 10 + j)) k 0 h

  marked : mark_by (get_or row 8 0) (get_or row 9 0) ≡ read_mark links m
  unfolding read_mark
  marked = rw (row_word 8 (omega arith), row_word 9 (omega arith))

  pub mark_open : get_or row 8 0 ≡ 0 → MayBeIncomplete (get_or row 9 0) ≡ read_mark links m
  mark_open z = rw (eq-eqb (get_or row 8 0) 0 z) at marked

  pub mark_shut : (get_or row 8 0 ≡ 0 → ⊥) → AlwaysInitialised ≡ read_mark links m
  mark_shut z = rw (ne_eqb (get_or row 8 0) 0 z) at marked

-- the field at place j of message m
pub at_field : (file : File) (m j : ℕ) (words : List ℕ) {row : List ℕ} {shape : ℕ} → row ≡ link_row file.links (message_link_at m) 10
    → shape ≡ shape_at file (get_or row 4 0 + j) → field_of words file.pool ≡ field_in file m j
    → Some (by_label (get_or words 3 0) shape (get_or words 2 0)) ≡ carried_at file m (Some j)
at_field file m j words {row} {shape} e t f =
    ap (λ (x : FieldSays). Some (by_label x.label shape x.number)) f
    ∙ ap (λ (x : ℕ). Some (by_label (field_in file m j).label x (field_in file m j).number)) (t ∙ ap (λ (x : ℕ). shape_at file (x + j)) (row_word file.links m e 4 (omega arith)))
