-- Rule 5: every text of an image by its byte rule (crate names, specs/Bytes). A missing name, or a missing type name on a type that
-- needs one, breaks its rule; a type name that is not needed and a default that is not given are not looked at. Assumes nothing.
use Rattle.std.specs.Prelude.{List, [], ◌∷◌, Bool, true, cond, ◌&&◌, ◌||◌, ℕ, ◌+◌, eqb}
use Rattle.lists.specs.Below.{all_below, all_of}
use Rattle.lists.specs.Lists.{is_empty, part}
use Rattle.names.specs.Bytes.{is_identifier, is_package, is_type_name, is_file_name, is_printable}
use Rattle.image.specs.Words.{word_at, trailer_at, sections_of, section_of, row_at, type_at, type_name_at, extendee_at, json_name_at, given_at, default_at, file_name_at, package_at}
use Rattle.image.specs.declared.rows.Sections.{Sections}
use Rattle.image.specs.declared.rows.Kind.{Kind}
use Rattle.image.specs.declared.rows.Kind.TheVariants.{Import, Message, Enum, Value, Oneof, Field}

-- the text whose start and length stand at word k, as far as the pool goes
unfoldable pub text_of : List ℕ → List ℕ → ℕ → List ℕ
text_of image pool k = part (word_at image k) (word_at image (k + 1)) pool

-- ---- the texts of a field row that starts at word k

-- types 10, 11 and 14: group, message, enum
abbrev pub needs_type_name : ℕ → Bool
needs_type_name t = eqb t 10 || (eqb t 11 || eqb t 14)

unfoldable pub type_name_right : List ℕ → List ℕ → ℕ → Bool
type_name_right image pool k = cond (needs_type_name (word_at image (type_at k))) (is_type_name (text_of image pool (type_name_at k))) true

-- absent, or a type name
unfoldable pub extendee_right : List ℕ → List ℕ → ℕ → Bool
extendee_right image pool k = is_empty (text_of image pool (extendee_at k)) || is_type_name (text_of image pool (extendee_at k))

unfoldable pub default_right : List ℕ → List ℕ → ℕ → Bool
default_right image pool k = cond (eqb (word_at image (given_at k)) 0) true (is_printable (text_of image pool (default_at k)))

abbrev pub field_texts : List ℕ → List ℕ → ℕ → List Bool
field_texts image pool k =
    is_identifier (text_of image pool k)
    ∷ type_name_right image pool k
    ∷ extendee_right image pool k
    ∷ is_printable (text_of image pool (json_name_at k))
    ∷ default_right image pool k
    ∷ []

-- ---- rows, and the whole rule

-- the texts of a row of each kind that starts at word k
unfoldable pub row_texts_right : List ℕ → List ℕ → Kind → ℕ → Bool
row_texts_right image pool Import k = is_file_name (text_of image pool k)
row_texts_right image pool Message k = is_identifier (text_of image pool k)
row_texts_right image pool Enum k = is_identifier (text_of image pool k)
row_texts_right image pool Value k = is_identifier (text_of image pool k)
row_texts_right image pool Oneof k = is_identifier (text_of image pool k)
row_texts_right image pool Field k = all_of (field_texts image pool k)

unfoldable pub kind_texts_right : List ℕ → Sections → List ℕ → Kind → Bool
unfolding all_below
kind_texts_right image s pool kind = all_below (section_of s kind).count (λ r. row_texts_right image pool kind (row_at s kind r))

-- the file name and the package
abbrev pub file_text_tests : List ℕ → List ℕ → List Bool
file_text_tests image pool = is_file_name (text_of image pool (file_name_at (trailer_at image))) ∷ is_package (text_of image pool (package_at (trailer_at image))) ∷ []

abbrev pub rows_text_tests : List ℕ → Sections → List ℕ → List Bool
rows_text_tests image s pool =
    kind_texts_right image s pool Import
    ∷ kind_texts_right image s pool Message
    ∷ kind_texts_right image s pool Enum
    ∷ kind_texts_right image s pool Value
    ∷ kind_texts_right image s pool Oneof
    ∷ kind_texts_right image s pool Field
    ∷ []

unfoldable pub texts_right : List ℕ → List ℕ → Bool
texts_right image pool = all_of (file_text_tests image pool) && all_of (rows_text_tests image (sections_of image) pool)
