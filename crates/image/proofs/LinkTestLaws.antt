-- The tests of link words, over the counts that the code reads. Assumes nothing.
use mathlib.Core.Path.{◌≡◌, sym, ap, ◌∙◌}
use mathlib.Core.List.{List}
use mathlib.Core.Bool.{Bool, ◌&&◌}
use Prim.Native.Nat.{ℕ, ◌+◌, ◌*◌, ◌<◌}
use native.Mathlib.Nat.{zero-add}
use native.Mathlib.Omega.{arith}
use lib.ListN.{length, get_or, length-append}
use Rattle.lists.specs.Below.{all_below}
use Rattle.lists.specs.Lists.{same, part}
use Rattle.lists.specs.Splice.{splice}
use Rattle.lists.proofs.Cases.{and-true}
use Rattle.lists.proofs.SpliceLaws.{get_or-splice_in}
use Rattle.lists.proofs.TableLaws.{length_table}
use Rattle.image.specs.Words.{word_at}
use Rattle.image.specs.Schema.{Schema, schema_in}
use Rattle.image.specs.Flat.{flat_fields, first_field}
use Rattle.image.specs.Laid.{Sound}
use Rattle.image.specs.Links.{links_of}
use Rattle.image.specs.Record.{File, says, link_row, field_link_at, field_link_of, repeated, containers_in, containers}
use Rattle.image.specs.LinkTests.{field_link_fits, field_links_fit, mark_fits, marks_fit, messages_given, others_given, links_fit}
use Rattle.image.specs.declared.rows.Sections.{Sections}
use Rattle.image.proofs.SchemaLaws.{messages_in, enum_count_in, oneof_count_in}
use Rattle.image.proofs.Owned.{fields_each, fields_end_lem}
use Rattle.image.proofs.LinkLaws.{run, parts_length}
use Rattle.image.proofs.FieldListLaws.{container_parts, fields_start}

-- the mark of message m, in a file of n messages
abbrev pub mark_of : List ℕ → ℕ → ℕ → Bool
mark_of links n m = mark_fits n (word_at links (m * 10 + 8)) (word_at links (m * 10 + 9))

-- n words from word k on are the same in both; so are the words of message m in front of its mark
abbrev pub parts_agree : List ℕ → List ℕ → ℕ → ℕ → Bool
parts_agree a b k n = same (part k n a) (part k n b)

abbrev pub fronts_agree : List ℕ → List ℕ → ℕ → Bool
fronts_agree a b m = parts_agree a b (m * 10) 8

module _ (image : List ℕ) (s : Sections) (pool links : List ℕ) where
  pub marks_in : marks_fit (schema_in image s pool) links ≡ all_below s.messages.count (mark_of links s.messages.count)
  unfolding marks_fit
  marks_in = ap (λ (n : ℕ). all_below n (mark_of links n)) (messages_in image s pool)

  module _ {own : List ℕ} (e : own ≡ links_of (schema_in image s pool)) where
    pub given_in : messages_given (schema_in image s pool) links ≡ all_below s.messages.count (fronts_agree links own)
    unfolding messages_given
    given_in =
        ap (λ (n : ℕ). all_below n (fronts_agree links (links_of (schema_in image s pool)))) (messages_in image s pool)
        ∙ ap (λ (l : List ℕ). all_below s.messages.count (fronts_agree links l)) (sym e)

    pub others_in : others_given (schema_in image s pool) links ≡ parts_agree links own (s.messages.count * 10) (s.enums.count * 2 + s.oneofs.count * 4)
    unfolding others_given
    others_in = rw (e, messages_in image s pool, enum_count_in image s pool, oneof_count_in image s pool)

-- ---- fields

-- the link row of field k
abbrev pub field_fits : List File → File → ℕ → Bool
field_fits files file k =
    field_link_fits
    files
    (length file.pool)
    (get_or (flat_fields (says file)) k 0)
    (get_or (containers (says file)) k 0)
    (field_link_of (link_row file.links (field_link_at (says file) k) 16))

module _ (files : List File) (file : File) where
  pub all_fields_in : {n : ℕ} → n ≡ (says file).fields → field_links_fit files file ≡ all_below n (field_fits files file)
  unfolding field_links_fit
  all_fields_in e = ap (λ (n : ℕ). all_below n (field_fits files file)) (sym e)

  pub field_tested : {pool row : List ℕ} {home container : ℕ} {b : Bool} (k : ℕ) → b ≡ field_link_fits files (length pool) home container (field_link_of row)
      → pool ≡ file.pool → home ≡ get_or (flat_fields (says file)) k 0 → container ≡ get_or (containers (says file)) k 0
      → row ≡ link_row file.links (field_link_at (says file) k) 16 → b ≡ field_fits files file k
  field_tested {pool} {row} {home} {container} k t p h w r =
      t
      ∙ ap (λ (x : List ℕ). field_link_fits files (length x) home container (field_link_of row)) p
      ∙ ap (λ (x : ℕ). field_link_fits files (length file.pool) x container (field_link_of row)) h
      ∙ ap (λ (x : ℕ). field_link_fits files (length file.pool) (get_or (flat_fields (says file)) k 0) x (field_link_of row)) w
      ∙ ap (λ (x : List ℕ). field_link_fits files (length file.pool) (get_or (flat_fields (says file)) k 0) (get_or (containers (says file)) k 0) (field_link_of x)) r

  -- all tests, of what was read of the file
  pub links_by : {g : Schema} {links : List ℕ} {b : Bool} → g ≡ says file → links ≡ file.links
      → b ≡ (messages_given g links && (others_given g links && (marks_fit g links && field_links_fit files file))) → b ≡ links_fit files file
  unfolding links_fit
  links_by {g} {links} e l p =
      p
      ∙ ap (λ (x : Schema). messages_given x links && (others_given x links && (marks_fit x links && field_links_fit files file))) e
      ∙ ap (λ (x : List ℕ). messages_given (says file) x && (others_given (says file) x && (marks_fit (says file) x && field_links_fit files file))) l
      ∙ ap (λ (x : Bool). messages_given (says file) file.links && (others_given (says file) file.links && (marks_fit (says file) file.links && x))) (sym (and-true _))

-- ---- fields and their containing words, listed in front of arrays

listed : (vs : List ℕ) (n : ℕ) → length vs ≡ n → (l₀ : List ℕ) {l : List ℕ} → l ≡ splice l₀ 0 vs → (k : ℕ) → k < n → get_or l k 0 ≡ get_or vs k 0
listed vs n len l₀ {l} e k h =
    ap (λ (x : List ℕ). get_or x k 0) e
    ∙ ap (λ (i : ℕ). get_or (splice l₀ 0 vs) i 0) (sym (zero-add k))
    ∙ get_or-splice_in l₀ 0 vs k 0 (omega arith) (omega arith)

module _ (g : Schema) (ok : Sound g) where
  containers-length : length (containers g) ≡ g.fields
  unfolding containers
  containers-length =
      let n = parts_length (containers_in g) (first_field g) g.messages (container_parts g ok) g.messages (omega arith) in
      omega (arith, n, fields_start g ok, length-append (run (containers_in g) 0 g.messages) (repeated g.file_extensions.count 0), length_table {A = ℕ} g.file_extensions.count (λ _. 0), fields_end_lem g ok)

  -- g' is g in the words of the code
  module _ {g' : Schema} (e : g' ≡ g) (l₀ : List ℕ) {l : List ℕ} where
    pub homes_listed : l ≡ splice l₀ 0 (flat_fields g') → (k : ℕ) → k < g.fields → get_or l k 0 ≡ get_or (flat_fields g) k 0
    homes_listed p = listed (flat_fields g) g.fields (fields_each g ok).size l₀ (p ∙ ap (λ (x : Schema). splice l₀ 0 (flat_fields x)) e)

    pub holders-listed : l ≡ splice l₀ 0 (containers g') → (k : ℕ) → k < g.fields → get_or l k 0 ≡ get_or (containers g) k 0
    holders-listed p = listed (containers g) g.fields containers-length l₀ (p ∙ ap (λ (x : Schema). splice l₀ 0 (containers x)) e)
