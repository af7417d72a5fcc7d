-- Rule 4, of one image: its counts, the lengths of its texts, the nesting of its messages, and the lengths of full names. A type name
-- that is not needed and a default that is not given are looked at by rule 3 alone. The depth of 16 stands in Flat (`max_depth`), the limit
-- of full names in FullName (`full_name_limit`). Assumes nothing.
use Rattle.std.specs.Prelude.{List, [], ◌∷◌, Bool, true, cond, ℕ, eqb, leb, length}
use Rattle.lists.specs.Below.{all_below, all_of}
use Rattle.image.specs.Words.{word_at, trailer_at, sections_of, section_of, row_at, type_at, type_name_at, extendee_at, json_name_at, given_at, default_at, file_name_at, package_at}
use Rattle.image.specs.Texts.{text_of, needs_type_name}
use Rattle.image.specs.Schema.{schema_in}
use Rattle.image.specs.Flat.{shallow}
use Rattle.image.specs.Links.{links_of}
use Rattle.image.specs.FullName.{full_names_short}
use Rattle.image.specs.declared.rows.Sections.{Sections}
use Rattle.image.specs.declared.rows.Kind.{Kind}
use Rattle.image.specs.declared.rows.Kind.TheVariants.{Import, Message, Enum, Value, Oneof, Field}

-- ---- counts

-- the most rows of each kind
abbrev pub most_rows : Kind → ℕ
most_rows Import = 32
most_rows Message = 256
most_rows Enum = 256
most_rows Value = 4096
most_rows Oneof = 256
most_rows Field = 2048

abbrev pub rows_few : Sections → Kind → Bool
rows_few s kind = leb (section_of s kind).count (most_rows kind)

abbrev pub count_tests : Sections → List Bool
count_tests s =
    rows_few s Import
    ∷ rows_few s Message
    ∷ rows_few s Enum
    ∷ rows_few s Value
    ∷ rows_few s Oneof
    ∷ rows_few s Field
    ∷ []

unfoldable pub counts_within : Sections → Bool
counts_within s = all_of (count_tests s)

-- ---- lengths of texts

-- the longest texts: identifiers and JSON names; file names and packages; type names and extendees; defaults
abbrev pub identifier_limit : ℕ
identifier_limit = 64

abbrev pub file_name_limit : ℕ
file_name_limit = 128

abbrev pub type_name_limit : ℕ
type_name_limit = 512

abbrev pub default_limit : ℕ
default_limit = 256

-- the text whose start and length stand at word k is at most so long
abbrev pub text_short : List ℕ → List ℕ → ℕ → ℕ → Bool
text_short image pool limit k = leb (length (text_of image pool k)) limit

unfoldable pub type_name_short : List ℕ → List ℕ → ℕ → Bool
type_name_short image pool k = cond (needs_type_name (word_at image (type_at k))) (text_short image pool type_name_limit (type_name_at k)) true

unfoldable pub default_short : List ℕ → List ℕ → ℕ → Bool
default_short image pool k = cond (eqb (word_at image (given_at k)) 0) true (text_short image pool default_limit (default_at k))

abbrev pub field_lengths : List ℕ → List ℕ → ℕ → List Bool
field_lengths image pool k =
    text_short image pool identifier_limit k
    ∷ type_name_short image pool k
    ∷ text_short image pool type_name_limit (extendee_at k)
    ∷ text_short image pool identifier_limit (json_name_at k)
    ∷ default_short image pool k
    ∷ []

-- the texts of a row of each kind that starts at word k
unfoldable pub row_texts_short : List ℕ → List ℕ → Kind → ℕ → Bool
row_texts_short image pool Import k = text_short image pool file_name_limit k
row_texts_short image pool Message k = text_short image pool identifier_limit k
row_texts_short image pool Enum k = text_short image pool identifier_limit k
row_texts_short image pool Value k = text_short image pool identifier_limit k
row_texts_short image pool Oneof k = text_short image pool identifier_limit k
row_texts_short image pool Field k = all_of (field_lengths image pool k)

unfoldable pub kind_texts_short : List ℕ → Sections → List ℕ → Kind → Bool
unfolding all_below
kind_texts_short image s pool kind = all_below (section_of s kind).count (λ r. row_texts_short image pool kind (row_at s kind r))

abbrev pub length_tests : List ℕ → Sections → List ℕ → List Bool
length_tests image s pool =
    text_short image pool file_name_limit (file_name_at (trailer_at image))
    ∷ text_short image pool file_name_limit (package_at (trailer_at image))
    ∷ kind_texts_short image s pool Import
    ∷ kind_texts_short image s pool Message
    ∷ kind_texts_short image s pool Enum
    ∷ kind_texts_short image s pool Value
    ∷ kind_texts_short image s pool Oneof
    ∷ kind_texts_short image s pool Field
    ∷ []

unfoldable pub texts_short : List ℕ → Sections → List ℕ → Bool
texts_short image s pool = all_of (length_tests image s pool)

-- ---- the whole rule

abbrev pub limit_tests : List ℕ → Sections → List ℕ → List Bool
limit_tests image s pool =
    counts_within s
    ∷ shallow (schema_in image s pool)
    ∷ texts_short image s pool
    ∷ full_names_short (schema_in image s pool) (links_of (schema_in image s pool))
    ∷ []

unfoldable pub within_limits : List ℕ → List ℕ → Bool
within_limits image pool = all_of (limit_tests image (sections_of image) pool)
