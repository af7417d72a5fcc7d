-- What a default that was read says of its field: a text lies in the bytes that it was read from, and only a field of type 14 has the name of
-- a value. Assumes nothing.
use mathlib.Core.Path.{◌≡◌, refl, subst}
use mathlib.Core.Bool.{true, ◌&&◌}
use mathlib.Core.List.{List}
use Rattle.std.specs.Prelude.{Option, Some, None, Ok, Err}
use Prim.Native.Nat.{ℕ, ◌+◌, ◌-◌, ◌<◌, ◌≤◌, ◌^◌}
use native.Mathlib.Nat.{mod-le}
use native.Mathlib.Omega.{arith}
use lib.IntN.{ℤ}
use lib.ListN.{length}
use borrow.Author.Tests.{leb-true}
use Rattle.lists.specs.Lists.{same, part}
use Rattle.lists.proofs.Cases.{by, left, right, each}
use Rattle.lists.proofs.BelowLaws.{all_below_elim}
use Rattle.lists.proofs.ListLaws.{length_part}
use Rattle.lists.proofs.TableLaws.{get_or_table}
use Rattle.names.specs.Types.{type_number, type_of, runtime_type}
use Rattle.names.specs.Integer.{unsigned, signed, as_integer}
use Rattle.names.specs.Default.{DefaultRead, integer_default, true_text, false_text, bool_default, default_of}
use Rattle.names.specs.declared.runtime_type_box.FieldType.{FieldType}
use Rattle.names.specs.declared.runtime_type_box.FieldType.TheVariants as type
use Rattle.names.specs.declared.runtime_type_box.ReadDefault.TheVariants.{Integer, Text, ValueName}
use Rattle.names.specs.declared.runtime_type_box.Words.{Words}
use Rattle.names.proofs.TypeLaws.{number_of_type}
use Rattle.image.specs.Words.{word_at, sections_of, row_at}
use Rattle.image.specs.Layout.{field_tests, row_fits, rows_fit, rows_tests, frame_fits, all_rows_fit, all_owned, laid_out}
use Rattle.image.specs.Texts.{text_of}
use Rattle.image.specs.Schema.{FieldSays, field_row, schema_in, schema_of}
use Rattle.image.specs.declared.rows.Kind.TheVariants.{Field}
use Rattle.link.specs.Field.{read_as, default_read}

-- of a field whose type has that number, and whose default ends at byte `end` of the pool
abbrev ReadOf : ℕ → ℕ → DefaultRead → Type 0
ReadOf «type» end (Ok (Text w)) = w.low + w.high ≤ end
ReadOf «type» end (Ok ValueName) = «type» ≡ 14
ReadOf «type» end (Ok (Integer w)) = Unit
ReadOf «type» end (Err r) = Unit

module _ («type» end : ℕ) where
  integer_of : (z : Option ℤ) → ReadOf «type» end (integer_default z)
  unfolding integer_default
  integer_of None = tt
  integer_of (Some z) = tt

  bool_of : (text : List ℕ) → ReadOf «type» end (bool_default text)
  unfolding bool_default
  bool_of text = by (same text true_text) (λ t. rw t tt) (λ t. by (same text false_text) (λ u. rw (t, u) tt) (λ u. rw (t, u) tt))

module _ (text : List ℕ) (start : ℕ) where
  abbrev end : ℕ
  end = start + length text

  known_of : (t : FieldType) → ReadOf (type_number t) end (default_of (runtime_type t) text start)
  unfolding default_of
  known_of type.Double = tt
  known_of type.Float = tt
  known_of type.Int64 = integer_of 3 end (signed (2 ^ 63) text)
  known_of type.Uint64 = integer_of 4 end (as_integer (unsigned (2 ^ 64 - 1) text))
  known_of type.Int32 = integer_of 5 end (signed (2 ^ 31) text)
  known_of type.Fixed64 = integer_of 6 end (as_integer (unsigned (2 ^ 64 - 1) text))
  known_of type.Fixed32 = integer_of 7 end (as_integer (unsigned (2 ^ 32 - 1) text))
  known_of type.Bool = bool_of 8 end text
  known_of type.String = omega (arith, mod-le (length text) (2 ^ 32))
  known_of type.Group = tt
  known_of type.Message = tt
  known_of type.Bytes = tt
  known_of type.Uint32 = integer_of 13 end (as_integer (unsigned (2 ^ 32 - 1) text))
  known_of type.Enum = refl
  known_of type.Sfixed32 = integer_of 15 end (signed (2 ^ 31) text)
  known_of type.Sfixed64 = integer_of 16 end (signed (2 ^ 63) text)
  known_of type.Sint32 = integer_of 17 end (signed (2 ^ 31) text)
  known_of type.Sint64 = integer_of 18 end (signed (2 ^ 63) text)

  type_of_lem : (n : ℕ) (t : Option FieldType) → type_of n ≡ t → ReadOf n end (read_as t text start)
  type_of_lem n (Some t) e = rw (number_of_type n t e) (known_of t)
  type_of_lem n None e = tt

module _ (f : FieldSays) where
  read_of : ReadOf f.«type» (f.default_start + length f.default) (default_read f)
  unfolding default_read
  read_of = type_of_lem f.default f.default_start f.«type» (type_of f.«type») refl

  -- a text lies in the default's own bytes
  pub text_inside : (w : Words) → default_read f ≡ Ok (Text w) → w.low + w.high ≤ f.default_start + length f.default
  text_inside w e = subst (ReadOf f.«type» (f.default_start + length f.default)) e read_of

  -- the name of a value is that of an enum's
  pub name_of_enum : default_read f ≡ Ok ValueName → f.«type» ≡ 14
  name_of_enum e = subst (ReadOf f.«type» (f.default_start + length f.default)) e read_of

-- ---- where its text lies

front-within : (pool : List ℕ) (start n : ℕ) → start + n ≤ length pool → start + length (part start n pool) ≤ length pool
front-within pool start n h = omega (arith, h, length_part pool start n h)

-- in the pool, by rule 3
pub default-within : (image pool : List ℕ) → laid_out image (length pool) ≡ true → (r : ℕ) → r < (schema_of image pool).fields
    → ((schema_of image pool).field r).default_start + length ((schema_of image pool).field r).default ≤ length pool
unfolding laid_out all_rows_fit rows_fit row_fits schema_of schema_in text_of
default-within image pool h r l =
    let s = sections_of image in
    let n = length pool in
    let rows = left (all_rows_fit image n s) (all_owned image s) (right (frame_fits image n s) (all_rows_fit image n s && all_owned image s) h) in
    let fields = (each (rows_tests image n s) rows).1.1.1.1.1.0 in
    let k = row_at s Field r in
    let tests = each (field_tests image n k) (all_below_elim s.fields.count (λ i. row_fits image s n Field (row_at s Field i)) fields r l) in
    let fits = leb-true (word_at image (k + 12) + word_at image (k + 12 + 1)) n tests.1.1.1.1.1.1.1.0 in
    let next : k + 12 + 1 ≡ k + 13 = omega arith in
    let word : (j : ℕ) → j < 16 → word_at (field_row image s r) j ≡ word_at image (k + j) = λ j m. get_or_table 16 (λ i. word_at image (k + i)) j 0 m in
    rw (word 12 (omega arith), word 13 (omega arith)) (front-within pool (word_at image (k + 12)) (word_at image (k + 13)) (rw next at fits))
