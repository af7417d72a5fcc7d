-- The table of refusals, in the order tried, for a call of `link`. The first line that is given decides. Assumes nothing.
use Rattle.std.specs.Prelude.{List, [], ◌∷◌, ◌++◌, Bool, true, false, not, ℕ, ◌+◌, leb, length, is_some, is_none, unwrap_or}
use Rattle.lists.specs.Below.{all_of}
use Rattle.image.specs.Layout.{image_limit}
use Rattle.image.specs.Schema.{Schema, schema_of}
use Rattle.image.specs.Flat.{row_of, first_field}
use Rattle.image.specs.Links.{links_of}
use Rattle.image.specs.Clash.{first_clash}
use Rattle.image.specs.Record.{File, record_words}
use Rattle.image.specs.Shelf.{file_named, files_of, file_limit, used_part, well_formed}
use Rattle.image.specs.Verdict.{Line, line, in_order}
use Rattle.image.specs.Judge.{opening_lines, naming_lines}
use Rattle.image.specs.declared.rows.Range.{Range}
use Rattle.image.specs.declared.shelf.Used.{Used}
use Rattle.image.specs.declared.verdict.Refusal.TheVariants.{TooLong, ShelfBroken, NameTaken, ImportMissing, FieldClash, NoRoom}
use Rattle.link.specs.Sight.{Sight, own_says}
use Rattle.link.specs.Search.{searched}
use Rattle.link.specs.Field.{field_lines}
use Rattle.link.specs.Rows.{all_links}

-- all that a call is given: the shelf's words and bytes and three numbers, the image and its pool
pub record Call : Type 0 where
  pub words : List ℕ
  pub bytes : List ℕ
  pub used : Used
  pub image : List ℕ
  pub pool : List ℕ

-- what the image says, the shelved files, what the new file sees
abbrev pub said : Call → Schema
said c = schema_of c.image c.pool

abbrev pub shelved_files : Call → List File
shelved_files c = files_of c.used.files (used_part c.words c.bytes c.used)

abbrev pub seen : Call → Sight
seen c = record { files = shelved_files c; own = record { image = c.image; pool = c.pool; links = links_of (said c) } }

-- ---- 1: lent slices

abbrev pub word_limit : ℕ
word_limit = 262144

abbrev pub byte_limit : ℕ
byte_limit = 131072

abbrev pub pool_limit : ℕ
pool_limit = 32768

abbrev pub length_tests : Call → List Bool
length_tests c =
    leb (length c.words) word_limit
    ∷ leb (length c.bytes) byte_limit
    ∷ leb (length c.image) image_limit
    ∷ leb (length c.pool) pool_limit
    ∷ []

unfoldable pub length_lines : Call → List Line
length_lines c = line TooLong (not (all_of (length_tests c))) 0 ∷ []

-- ---- 2: the shelf

unfoldable pub shelf_lines : Call → List Line
shelf_lines c = line ShelfBroken (not (well_formed c.words c.bytes c.used)) 0 ∷ []

-- ---- 6 and 7: the file's name and its imports

unfoldable pub name_lines : List File → Schema → List Line
name_lines files g = line NameTaken (is_some (file_named files g.file_name)) 0 ∷ []

unfoldable pub import_lines : List File → Schema → List Line
import_lines files g = in_order g.imports (λ i. line ImportMissing (is_none (file_named files (g.import_name i))) i ∷ [])

-- ---- 12 to 17: message by message in flat order, then the file's extensions

-- the fields of a range, whose flat numbers start at `at`
abbrev pub fields_lines : Sight → List ℕ → Bool → ℕ → ℕ → ℕ → List Line
fields_lines s list ofFile r n at = in_order n (λ j. field_lines s list ((own_says s).field (r + j)) ofFile (at + j))

abbrev pub range_lines : Sight → List ℕ → Bool → Range → ℕ → List Line
range_lines s list ofFile g at = fields_lines s list ofFile g.first g.count at

-- 17 for the message on row r, whose first field has the flat number `at`: the place is the later field
unfoldable pub clash_at : Schema → ℕ → ℕ → List Line
clash_at g r at = line FieldClash (is_some (first_clash g r)) (at + unwrap_or (first_clash g r) 0) ∷ []

-- the message on row r, whose first field has the flat number `at`: its regular fields, 17, its extensions
abbrev pub row_lines : Sight → List ℕ → ℕ → ℕ → List Line
row_lines s list r at =
    range_lines s list false ((own_says s).fields_in r) at
    ++ (clash_at (own_says s) r at ++ range_lines s list false ((own_says s).extensions_in r) (at + ((own_says s).fields_in r).count))

unfoldable pub message_lines : Sight → List ℕ → ℕ → List Line
unfolding in_order clash_at
message_lines s list m = row_lines s list (row_of (own_says s) m) (first_field (own_says s) m)

-- message by message; the file's extensions last
unfoldable pub all_field_lines : Sight → List ℕ → List Line
unfolding in_order message_lines
all_field_lines s list =
    in_order (own_says s).messages (message_lines s list) ++ range_lines s list true (own_says s).file_extensions (first_field (own_says s) (own_says s).messages)

-- ---- 18: room

-- the file as it would be shelved, and its record
abbrev pub new_file : Call → File
new_file c = record { image = c.image; pool = c.pool; links = all_links (seen c) (searched (seen c)) }

abbrev pub new_record : Call → List ℕ
new_record c = record_words (new_file c) c.used.words c.used.bytes

abbrev pub room_tests : Call → List Bool
room_tests c =
    leb (c.used.words + length (new_record c)) (length c.words)
    ∷ leb (c.used.bytes + length c.pool) (length c.bytes)
    ∷ []

unfoldable pub room_lines : Call → List Line
room_lines c = line NoRoom (not (all_of (room_tests c))) 0 ∷ []

-- ---- the table

unfoldable pub table : Call → List Line
table c =
    length_lines c
    ++ (shelf_lines c
    ++ (opening_lines c.image c.pool (leb file_limit c.used.files)
    ++ (name_lines (shelved_files c) (said c)
    ++ (import_lines (shelved_files c) (said c)
    ++ (naming_lines (said c) (links_of (said c))
    ++ (all_field_lines (seen c) (searched (seen c))
    ++ room_lines c))))))
