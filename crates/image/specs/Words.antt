-- Where the words of a file image stand: its trailer, its sections, the rows of each, and the ranges of rows that rows own. This file
-- says how wide rows are and which word of a row says what. A word past the end of the image reads 0, so that every reader is total. Assumes nothing.
use Rattle.std.specs.Prelude.{List, ℕ, ◌+◌, ◌-◌, ◌*◌, length, get_or}
use Rattle.image.specs.declared.rows.Range.{Range}
use Rattle.image.specs.declared.rows.Section.{Section}
use Rattle.image.specs.declared.rows.Sections.{Sections}
use Rattle.image.specs.declared.rows.Kind.{Kind}
use Rattle.image.specs.declared.rows.Kind.TheVariants.{Import, Message, Enum, Value, Oneof, Field}

-- word k of the image
abbrev pub word_at : List ℕ → ℕ → ℕ
word_at image k = get_or image k 0

-- two words together: a range's first row and count
abbrev pub range_at : List ℕ → ℕ → Range
range_at image k = record { first = word_at image k; count = word_at image (k + 1) }

-- ---- the trailer: the last 24 words

abbrev pub trailer_width : ℕ
trailer_width = 24

unfoldable pub trailer_at : List ℕ → ℕ
trailer_at image = length image - trailer_width

unfoldable pub trailer_word : List ℕ → ℕ → ℕ
unfolding trailer_at
trailer_word image k = word_at image (trailer_at image + k)

abbrev pub top_messages : List ℕ → ℕ
top_messages image = trailer_word image 18

abbrev pub top_enums : List ℕ → ℕ
top_enums image = trailer_word image 19

-- a section whose start is word k of the trailer
abbrev pub section_at : List ℕ → ℕ → Section
section_at image k = record { start = trailer_word image k; count = trailer_word image (k + 1) }

unfoldable pub sections_of : List ℕ → Sections
unfolding trailer_word
sections_of image =
    record {
      imports = section_at image 6;
      messages = section_at image 8;
      enums = section_at image 10;
      values = section_at image 12;
      oneofs = section_at image 14;
      fields = section_at image 16;
    }

-- ---- rows

-- how many words a row of each kind has
abbrev pub row_width : Kind → ℕ
row_width Import = 3
row_width Message = 14
row_width Enum = 4
row_width Value = 3
row_width Oneof = 2
row_width Field = 16

-- the section of each kind
abbrev pub section_of : Sections → Kind → Section
section_of s Import = s.imports
section_of s Message = s.messages
section_of s Enum = s.enums
section_of s Value = s.values
section_of s Oneof = s.oneofs
section_of s Field = s.fields

-- where row r of a kind starts, and where its section ends
unfoldable pub row_at : Sections → Kind → ℕ → ℕ
row_at s kind r = (section_of s kind).start + r * row_width kind

unfoldable pub section_end : Sections → Kind → ℕ
unfolding row_at
section_end s kind = row_at s kind (section_of s kind).count

-- ---- the words of a row that starts at word k. A row with a name, or an import's file name, starts with it

-- an import: whether it is public
abbrev pub public_at : ℕ → ℕ
public_at k = k + 2

-- a message: its nested messages, enums, fields, extensions and oneofs; its number of extension ranges; its map-entry option
abbrev pub nested_at : ℕ → ℕ
nested_at k = k + 2

abbrev pub enums_at : ℕ → ℕ
enums_at k = k + 4

abbrev pub fields_at : ℕ → ℕ
fields_at k = k + 6

abbrev pub extensions_at : ℕ → ℕ
extensions_at k = k + 8

abbrev pub oneofs_at : ℕ → ℕ
oneofs_at k = k + 10

abbrev pub extension_ranges_at : ℕ → ℕ
extension_ranges_at k = k + 12

abbrev pub map_entry_at : ℕ → ℕ
map_entry_at k = k + 13

-- an enum: its values
abbrev pub values_at : ℕ → ℕ
values_at k = k + 2

-- a value, and a field: its number
abbrev pub number_at : ℕ → ℕ
number_at k = k + 2

-- a field: its label, type, type name, extendee and JSON name; whether a default is given, and its text; its oneof index + 1 or 0;
-- proto3_optional
abbrev pub label_at : ℕ → ℕ
label_at k = k + 3

abbrev pub type_at : ℕ → ℕ
type_at k = k + 4

abbrev pub type_name_at : ℕ → ℕ
type_name_at k = k + 5

abbrev pub extendee_at : ℕ → ℕ
extendee_at k = k + 7

abbrev pub json_name_at : ℕ → ℕ
json_name_at k = k + 9

abbrev pub given_at : ℕ → ℕ
given_at k = k + 11

abbrev pub default_at : ℕ → ℕ
default_at k = k + 12

abbrev pub oneof_at : ℕ → ℕ
oneof_at k = k + 14

abbrev pub optional_at : ℕ → ℕ
optional_at k = k + 15

-- the trailer: file name, package, syntax, pool length, its own start
abbrev pub file_name_at : ℕ → ℕ
file_name_at k = k + 1

abbrev pub package_at : ℕ → ℕ
package_at k = k + 3

abbrev pub syntax_at : ℕ → ℕ
syntax_at k = k + 5

abbrev pub pool_length_at : ℕ → ℕ
pool_length_at k = k + 22

abbrev pub own_start_at : ℕ → ℕ
own_start_at k = k + 23

-- ---- the ranges of rows that message row r, enum row r (its values) or the file owns

abbrev pub nested_messages : List ℕ → Sections → ℕ → Range
nested_messages image s r = range_at image (nested_at (row_at s Message r))

abbrev pub enums_of : List ℕ → Sections → ℕ → Range
enums_of image s r = range_at image (enums_at (row_at s Message r))

abbrev pub fields_of : List ℕ → Sections → ℕ → Range
fields_of image s r = range_at image (fields_at (row_at s Message r))

abbrev pub extensions_of : List ℕ → Sections → ℕ → Range
extensions_of image s r = range_at image (extensions_at (row_at s Message r))

abbrev pub oneofs_of : List ℕ → Sections → ℕ → Range
oneofs_of image s r = range_at image (oneofs_at (row_at s Message r))

abbrev pub values_of : List ℕ → Sections → ℕ → Range
values_of image s r = range_at image (values_at (row_at s Enum r))

abbrev pub top_level : ℕ → Range
top_level n = record { first = 0; count = n }

abbrev pub file_extensions : List ℕ → Range
file_extensions image = record { first = trailer_word image 20; count = trailer_word image 21 }
