-- Rule 3: the layout of an image, as lists of conditions. `pool` is the length of the pool that is lent with it. Any value may stand
-- in a message's number of extension ranges, a value's number, and a field's number and oneof index. Assumes nothing.
use Rattle.std.specs.Prelude.{List, [], ◌∷◌, Bool, not, ◌&&◌, ◌||◌, ℕ, ◌+◌, eqb, leb, ltb, length}
use Rattle.lists.specs.Below.{bit, all_below, count_below, all_of}
use Rattle.lists.specs.Lists.{between, in_range}
use Rattle.image.specs.Words.{public_at, nested_at, enums_at, fields_at, extensions_at, oneofs_at, map_entry_at, values_at, label_at, type_at, type_name_at, extendee_at, json_name_at, given_at, default_at, optional_at, file_name_at, package_at, syntax_at, pool_length_at, own_start_at}
use Rattle.image.specs.Words.{word_at, range_at, trailer_width, trailer_at, top_messages, top_enums, sections_of, section_of, row_at, section_end, nested_messages, enums_of, fields_of, extensions_of, oneofs_of, values_of, top_level, file_extensions}
use Rattle.image.specs.declared.rows.Range.{Range}
use Rattle.image.specs.declared.rows.Sections.{Sections}
use Rattle.image.specs.declared.rows.Kind.{Kind}
use Rattle.image.specs.declared.rows.Kind.TheVariants.{Import, Message, Enum, Value, Oneof, Field}

-- the most words of an image
abbrev pub image_limit : ℕ
image_limit = 65536

-- ---- words

-- 0 or 1
abbrev pub is_flag : ℕ → Bool
is_flag w = between 0 1 w

-- the text whose start and length stand at word k lies in the pool
abbrev pub text_fits : List ℕ → ℕ → ℕ → Bool
text_fits image pool k = leb (word_at image k + word_at image (k + 1)) pool

-- a range lies inside a section of so many rows, and has first row 0 where it is empty
abbrev pub range_fits : ℕ → Range → Bool
range_fits count g = leb (g.first + g.count) count && (not (eqb g.count 0) || eqb g.first 0)

-- ---- the trailer

-- what the trailer that starts at word k must meet: layout; syntax; pool length; its own start; file name; package
abbrev pub trailer_tests : List ℕ → ℕ → ℕ → List Bool
trailer_tests image pool k =
    eqb (word_at image k) 1
    ∷ between 2 3 (word_at image (syntax_at k))
    ∷ eqb (word_at image (pool_length_at k)) pool
    ∷ eqb (word_at image (own_start_at k)) k
    ∷ text_fits image pool (file_name_at k)
    ∷ text_fits image pool (package_at k)
    ∷ []

unfoldable pub trailer_fits : List ℕ → ℕ → ℕ → Bool
trailer_fits image pool k = all_of (trailer_tests image pool k)

-- the section of a kind starts where that of another ends
unfoldable pub follows : Sections → Kind → Kind → Bool
unfolding section_end
follows s before after = eqb (section_of s after).start (section_end s before)

-- sections follow without gap from word 0 up to the trailer
abbrev pub section_tests : List ℕ → Sections → List Bool
section_tests image s =
    eqb s.imports.start 0
    ∷ follows s Import Message
    ∷ follows s Message Enum
    ∷ follows s Enum Value
    ∷ follows s Value Oneof
    ∷ follows s Oneof Field
    ∷ eqb (trailer_at image) (section_end s Field)
    ∷ []

unfoldable pub sections_follow : List ℕ → Sections → Bool
sections_follow image s = all_of (section_tests image s)

-- the rows that the file owns itself: top-level messages and enums, which come first in their sections, and its extensions
abbrev pub file_tests : List ℕ → Sections → List Bool
file_tests image s =
    leb (top_messages image) s.messages.count
    ∷ leb (top_enums image) s.enums.count
    ∷ range_fits s.fields.count (file_extensions image)
    ∷ []

unfoldable pub file_ranges_fit : List ℕ → Sections → Bool
file_ranges_fit image s = all_of (file_tests image s)

abbrev pub frame_tests : List ℕ → ℕ → Sections → List Bool
frame_tests image pool s =
    leb trailer_width (length image)
    ∷ trailer_fits image pool (trailer_at image)
    ∷ sections_follow image s
    ∷ file_ranges_fit image s
    ∷ []

unfoldable pub frame_fits : List ℕ → ℕ → Sections → Bool
frame_fits image pool s = all_of (frame_tests image pool s)

-- ---- rows

-- what a row that starts at word k must meet. An import: file name, public
abbrev pub import_tests : List ℕ → ℕ → ℕ → List Bool
import_tests image pool k = text_fits image pool k ∷ is_flag (word_at image (public_at k)) ∷ []

-- a message: name; nested messages, enums, fields, extensions, oneofs; map-entry option
abbrev pub message_tests : List ℕ → Sections → ℕ → ℕ → List Bool
message_tests image s pool k =
    text_fits image pool k
    ∷ range_fits s.messages.count (range_at image (nested_at k))
    ∷ range_fits s.enums.count (range_at image (enums_at k))
    ∷ range_fits s.fields.count (range_at image (fields_at k))
    ∷ range_fits s.fields.count (range_at image (extensions_at k))
    ∷ range_fits s.oneofs.count (range_at image (oneofs_at k))
    ∷ is_flag (word_at image (map_entry_at k))
    ∷ []

-- an enum: name; values
abbrev pub enum_tests : List ℕ → Sections → ℕ → ℕ → List Bool
enum_tests image s pool k = text_fits image pool k ∷ range_fits s.values.count (range_at image (values_at k)) ∷ []

-- a value or a oneof: name
abbrev pub name_tests : List ℕ → ℕ → ℕ → List Bool
name_tests image pool k = text_fits image pool k ∷ []

-- a field: name; label; type; type name; extendee; JSON name; default given; default text; proto3_optional
abbrev pub field_tests : List ℕ → ℕ → ℕ → List Bool
field_tests image pool k =
    text_fits image pool k
    ∷ between 1 3 (word_at image (label_at k))
    ∷ between 1 18 (word_at image (type_at k))
    ∷ text_fits image pool (type_name_at k)
    ∷ text_fits image pool (extendee_at k)
    ∷ text_fits image pool (json_name_at k)
    ∷ is_flag (word_at image (given_at k))
    ∷ text_fits image pool (default_at k)
    ∷ is_flag (word_at image (optional_at k))
    ∷ []

abbrev pub row_tests : List ℕ → Sections → ℕ → Kind → ℕ → List Bool
row_tests image s pool Import k = import_tests image pool k
row_tests image s pool Message k = message_tests image s pool k
row_tests image s pool Enum k = enum_tests image s pool k
row_tests image s pool Value k = name_tests image pool k
row_tests image s pool Oneof k = name_tests image pool k
row_tests image s pool Field k = field_tests image pool k

unfoldable pub row_fits : List ℕ → Sections → ℕ → Kind → ℕ → Bool
row_fits image s pool kind k = all_of (row_tests image s pool kind k)

-- every row of a kind meets its own
unfoldable pub rows_fit : List ℕ → Sections → ℕ → Kind → Bool
unfolding all_below row_fits
rows_fit image s pool kind = all_below (section_of s kind).count (λ r. row_fits image s pool kind (row_at s kind r))

-- ---- owners

-- row r is one of a range
abbrev pub covers : Range → ℕ → Bool
covers g r = in_range g.first g.count r

-- how many messages have row r among the rows that they own of a kind
abbrev pub holders : Sections → (ℕ → Range) → ℕ → ℕ
holders s owned r = count_below s.messages.count (λ p. covers (owned p) r)

-- how many times row r of a kind is owned: each range that has it counts, so a row that a message owns as a field and as an extension
-- counts twice. Imports are owned by none, and are not asked
abbrev pub owners : List ℕ → Sections → Kind → ℕ → ℕ
owners image s Import r = 0
owners image s Message r = bit (covers (top_level (top_messages image)) r) + holders s (nested_messages image s) r
owners image s Enum r = bit (covers (top_level (top_enums image)) r) + holders s (enums_of image s) r
owners image s Value r = count_below s.enums.count (λ p. covers (values_of image s p) r)
owners image s Oneof r = holders s (oneofs_of image s) r
owners image s Field r = bit (covers (file_extensions image) r) + holders s (fields_of image s) r + holders s (extensions_of image s) r

-- every row has exactly one owner
unfoldable pub owned_once : List ℕ → Sections → Kind → Bool
unfolding all_below count_below
owned_once image s kind = all_below (section_of s kind).count (λ r. eqb (owners image s kind r) 1)

-- nested messages stand on higher rows than their parent
abbrev pub stands_lower : List ℕ → Sections → ℕ → Bool
stands_lower image s r = eqb (nested_messages image s r).count 0 || ltb r (nested_messages image s r).first

unfoldable pub parents_lower : List ℕ → Sections → Bool
unfolding all_below
parents_lower image s = all_below s.messages.count (stands_lower image s)

-- ---- the whole rule

abbrev pub rows_tests : List ℕ → ℕ → Sections → List Bool
rows_tests image pool s =
    rows_fit image s pool Import
    ∷ rows_fit image s pool Message
    ∷ rows_fit image s pool Enum
    ∷ rows_fit image s pool Value
    ∷ rows_fit image s pool Oneof
    ∷ rows_fit image s pool Field
    ∷ []

unfoldable pub all_rows_fit : List ℕ → ℕ → Sections → Bool
all_rows_fit image pool s = all_of (rows_tests image pool s)

abbrev pub owner_tests : List ℕ → Sections → List Bool
owner_tests image s =
    owned_once image s Message
    ∷ owned_once image s Enum
    ∷ owned_once image s Value
    ∷ owned_once image s Oneof
    ∷ owned_once image s Field
    ∷ parents_lower image s
    ∷ []

unfoldable pub all_owned : List ℕ → Sections → Bool
all_owned image s = all_of (owner_tests image s)

unfoldable pub laid_out : List ℕ → ℕ → Bool
laid_out image pool = frame_fits image pool (sections_of image) && (all_rows_fit image pool (sections_of image) && all_owned image (sections_of image))

-- ---- what the code answers for any words: rule 3 together with refusal 1's limit on an image's words. It equals `laid_out` on every
-- image within that limit, and refusal 1 is tried before 3
unfoldable pub laid_out_within_limit : List ℕ → ℕ → Bool
laid_out_within_limit image pool = leb (length image) image_limit && laid_out image pool
