-- The file that a file word names, among files at given places. Assumes nothing.
use mathlib.Core.Path.{◌≡◌, sym, ap, ◌∙◌}
use mathlib.Core.List.{List}
use Prim.Native.Nat.{ℕ, zero, suc, ◌-◌, ◌<◌, ◌≤◌}
use native.Mathlib.Numerals.{sub-one}
use native.Mathlib.Omega.{arith}
use lib.ListN.{get_or-eq_default}
use Rattle.lists.specs.Lists.{table}
use Rattle.lists.proofs.TableLaws.{get_or_table, length_table}
use Rattle.image.specs.Words.{trailer_word, sections_of, values_of}
use Rattle.image.specs.Schema.{Schema, schema, schema_in, schema_of}
use Rattle.image.specs.Links.{enum_row}
use Rattle.image.specs.Record.{File, no_file, says, link_row, field_link_at, value_count}
use Rattle.image.specs.LinkTests.{file_by}
use Rattle.image.specs.Places.{file_of}
use Rattle.image.specs.declared.schema.Image.{Image}
use Rattle.image.specs.declared.shelf.File as lent
use denote.Ref.{Bor}
use Rattle.image.specs.declared.rows.Range.{Range}
use Rattle.image.specs.declared.rows.Sections.{Sections}
use Rattle.image.proofs.SchemaLaws.{schema_of_lem, field_count_in, values_in_lem}

module _ (file : ℕ → File) (n : ℕ) where
  pub by_none : (word : ℕ) → word ≡ 0 → file_by (table n file) word ≡ no_file
  unfolding file_by
  by_none word h = rw h

  pub by_past : (word : ℕ) → n < word → file_by (table n file) word ≡ no_file
  unfolding file_by
  by_past zero h = absurd (omega arith)
  by_past (suc f) h = get_or-eq_default (table n file) no_file (omega (arith, length_table n file))

  pub by_word : (word : ℕ) → 0 < word → word ≤ n → file_by (table n file) word ≡ file (word - 1)
  unfolding file_by
  by_word zero h l = absurd (omega arith)
  by_word (suc f) h l = rw (sub-one (suc f)) (get_or_table n file f no_file (omega arith))

-- ---- what is read of a file

module _ (file : File) {image : List ℕ} (i : image ≡ file.image) where
  pub messages_by : {n : ℕ} → n ≡ trailer_word image 9 → n ≡ (says file).messages
  unfolding schema_of
  messages_by p = p ∙ ap (λ (x : List ℕ). trailer_word x 9) i

  pub enums_by : {n : ℕ} → n ≡ trailer_word image 11 → n ≡ (says file).enums
  unfolding schema_of
  enums_by p = p ∙ ap (λ (x : List ℕ). trailer_word x 11) i

  module _ {s : Sections} {pool : List ℕ} (q : s ≡ sections_of image) (p : pool ≡ file.pool) where
    pub says_by : schema_in image s pool ≡ says file
    says_by =
        ap (λ (x : Sections). schema_in image x pool) q
        ∙ sym (schema_of_lem image pool)
        ∙ ap (λ (x : List ℕ). schema_of x pool) i
        ∙ ap (schema_of file.image) p

    pub fields_by : s.fields.count ≡ (says file).fields
    fields_by = sym (field_count_in image s pool) ∙ ap (λ (g : Schema). g.fields) says_by

    module _ {links : List ℕ} (l : links ≡ file.links) where
      pub values_by : {row : ℕ} {g : Range} (e : ℕ) → row ≡ enum_row (schema_in image s pool) links e → g ≡ values_of image s row
          → g.count ≡ value_count file e
      values_by {row} e r h =
          ap (λ (x : Range). x.count) (h ∙ values_in_lem image s pool row)
          ∙ ap (λ (y : Schema). (y.values_in row).count) says_by
          ∙ ap (λ (x : ℕ). ((says file).values_in x).count) (r ∙ ap (λ (y : Schema). enum_row y links e) says_by ∙ ap (λ (x : List ℕ). enum_row (says file) x e) l)

      pub field_link_by : {row : List ℕ} (k : ℕ) → row ≡ link_row links (field_link_at (schema_in image s pool) k) 16
          → row ≡ link_row file.links (field_link_at (says file) k) 16
      field_link_by k r =
          r
          ∙ ap (λ (y : Schema). link_row links (field_link_at y k) 16) says_by
          ∙ ap (λ (x : List ℕ). link_row x (field_link_at (says file) k) 16) l

-- ---- an image that was read of a file's words and pool

pub record Reads (image : Image) (file : File) : Type 0 where
  pub words : image.rows.words.now ≡ file.image
  pub sections : image.rows.sections ≡ sections_of image.rows.words.now
  pub pool : image.pool.now ≡ file.pool

pub reads : (file : File) {image : Image} {w p : Bor (List ℕ)} → image ≡ record { rows = record { words = w; sections = sections_of w.now }; pool = p }
    → w.now ≡ file.image → p.now ≡ file.pool → Reads image file
reads file {image} {w} {p} r i q =
    record {
      words = ap (λ (x : Image). x.rows.words.now) r ∙ i;
      sections = ap (λ (x : Image). x.rows.sections) r ∙ ap sections_of (sym (ap (λ (x : Image). x.rows.words.now) r));
      pool = ap (λ (x : Image). x.pool.now) r ∙ q;
    }

-- as the program hands on the file
pub reads_file : (file : File) (f : lent.File) {image : Image} → image ≡ record { rows = record { words = f.image; sections = sections_of f.image.now }; pool = f.pool }
    → file_of f ≡ file → Reads image file
reads_file file f r e = reads file r (ap (λ (x : File). x.image) e) (ap (λ (x : File). x.pool) e)

-- what it says
pub schema_read : (file : File) {image : Image} → Reads image file → schema image ≡ says file
schema_read file h = says_by file h.words h.sections h.pool
