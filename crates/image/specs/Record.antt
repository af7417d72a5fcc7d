-- A shelved file, and its record: the image's words, the link rows in flat order (all messages, all enums, all oneofs, all fields), then 8
-- words. Assumes nothing.
use Rattle.std.specs.Prelude.{List, [], ◌∷◌, ◌++◌, ℕ, ◌+◌, ◌*◌, length}
use Rattle.lists.specs.Lists.{span, concat_map, table, part}
use Rattle.image.specs.Words.{word_at}
use Rattle.image.specs.Schema.{Schema, schema_of}
use Rattle.image.specs.Flat.{row_of, field_rows}
use Rattle.image.specs.Links.{message_link_width, enum_link_width, oneof_link_width, link_words, enum_row}

-- a shelved file: the words of its image, the bytes of its pool, its link rows
pub record File : Type 0 where
  pub image : List ℕ
  pub pool : List ℕ
  pub links : List ℕ

-- what stands for a file where there is none: it has no rows
abbrev pub no_file : File
no_file = record { image = []; pool = []; links = [] }

-- what the image of a file says
abbrev pub says : File → Schema
says file = schema_of file.image file.pool

-- ---- the record

abbrev pub field_link_width : ℕ
field_link_width = 16

-- how many words all link rows have, for the counts of an image
abbrev pub all_link_words : Schema → ℕ
all_link_words g = link_words g + g.fields * field_link_width

-- the last words of a record
abbrev pub end_width : ℕ
end_width = 8

-- record start, image words, pool start, pool length, counts of messages, enums, oneofs, fields
abbrev pub end_words : File → ℕ → ℕ → List ℕ
end_words file start pool_start =
    start
    ∷ length file.image
    ∷ pool_start
    ∷ length file.pool
    ∷ (says file).messages
    ∷ (says file).enums
    ∷ (says file).oneofs
    ∷ (says file).fields
    ∷ []

-- the record of a file that starts at word `start` of the shelf, whose pool starts at byte `pool_start`. A file has as many link words as
-- its image's counts ask for
abbrev pub record_words : File → ℕ → ℕ → List ℕ
record_words file start pool_start = file.image ++ (file.links ++ end_words file start pool_start)

-- ---- link rows: n words of a file's link words from word k on, and where the row with a flat number starts

abbrev pub link_row : List ℕ → ℕ → ℕ → List ℕ
link_row links k n = table n (λ j. word_at links (k + j))

abbrev pub message_link_at : ℕ → ℕ
message_link_at m = m * message_link_width

abbrev pub enum_link_at : Schema → ℕ → ℕ
enum_link_at g e = g.messages * message_link_width + e * enum_link_width

abbrev pub oneof_link_at : Schema → ℕ → ℕ
oneof_link_at g o = g.messages * message_link_width + (g.enums * enum_link_width + o * oneof_link_width)

abbrev pub field_link_at : Schema → ℕ → ℕ
field_link_at g k = link_words g + k * field_link_width

-- what the words of a field's link row say; the last word says nothing. Kind, shape and default kind are numbers, `row` is the image row,
-- `container` the containing message + 1 or 0; a file word is a shelf number + 1, and shelf numbers count from 0
pub record FieldLink : Type 0 where
  pub row : ℕ
  pub kind : ℕ
  pub container : ℕ
  pub extendee_file : ℕ
  pub extendee_index : ℕ
  pub shape : ℕ
  pub «type» : ℕ
  pub type_file : ℕ
  pub type_index : ℕ
  pub value_type : ℕ
  pub value_file : ℕ
  pub value_index : ℕ
  pub default_kind : ℕ
  pub low : ℕ
  pub high : ℕ

abbrev pub field_link_of : List ℕ → FieldLink
field_link_of row =
    record {
      row = word_at row 0;
      kind = word_at row 1;
      container = word_at row 2;
      extendee_file = word_at row 3;
      extendee_index = word_at row 4;
      shape = word_at row 5;
      «type» = word_at row 6;
      type_file = word_at row 7;
      type_index = word_at row 8;
      value_type = word_at row 9;
      value_file = word_at row 10;
      value_index = word_at row 11;
      default_kind = word_at row 12;
      low = word_at row 13;
      high = word_at row 14;
    }

-- ---- files in words and bytes

-- the file whose record starts at word `start`, with an image of `size` words, and whose pool is `count` bytes from byte `from` on. The
-- link rows stand behind the image, as many words as its counts ask for
abbrev pub file_at : List ℕ → List ℕ → ℕ → ℕ → ℕ → ℕ → File
file_at words bytes start size from count =
    record {
      image = part start size words;
      pool = part from count bytes;
      links = part (start + size) (all_link_words (schema_of (part start size words) (part from count bytes))) words;
    }

-- ---- what link rows say

-- the same word n times
abbrev pub repeated : ℕ → ℕ → List ℕ
repeated n word = table n (λ _. word)

-- the containing words of the fields and extensions of flat message m: its number + 1
abbrev pub containers_in : Schema → ℕ → List ℕ
containers_in g m = repeated (length (field_rows g (row_of g m))) (m + 1)

-- those of all fields in flat order: file extensions have 0
unfoldable pub containers : Schema → List ℕ
unfolding table concat_map span
containers g = concat_map (containers_in g) (span 0 g.messages) ++ repeated g.file_extensions.count 0

-- how many values the enum with flat number e has. Its image row is read from its link row, which a shelved file must have as its image
-- gives it
abbrev pub value_count : File → ℕ → ℕ
value_count file e = ((says file).values_in (enum_row (says file) file.links e)).count
