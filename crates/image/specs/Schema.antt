-- What an image says, row by row. The flat order, full names, map entries, clashes, oneofs and lookups are stated over it and know of no
-- words; the layout and the rules of texts go over words, by the offsets of Words. Assumes nothing.
use Rattle.std.specs.Prelude.{List, ℕ, ◌+◌}
use Rattle.lists.specs.Lists.{table}
use Rattle.image.specs.Words.{word_at, trailer_at, top_messages, top_enums, sections_of, row_at, nested_messages, enums_of, fields_of, extensions_of, oneofs_of, values_of, file_extensions, extension_ranges_at, map_entry_at, number_at, label_at, type_at, type_name_at, extendee_at, json_name_at, given_at, default_at, oneof_at, optional_at, file_name_at, package_at, syntax_at, public_at}
use Rattle.image.specs.Texts.{text_of}
use Rattle.image.specs.declared.rows.Range.{Range}
use Rattle.image.specs.declared.rows.Sections.{Sections}
use Rattle.image.specs.declared.schema.Image.{Image}
use Rattle.image.specs.declared.rows.Kind.TheVariants.{Import, Message, Enum, Value, Field}

-- a field row. Texts are lists of bytes; `oneof` is an index + 1, or 0; `given` and `optional` are 0 or 1; `default_start` is where the default
-- text starts in the pool
pub record FieldSays : Type 0 where
  pub name : List ℕ
  pub number : ℕ
  pub label : ℕ
  pub «type» : ℕ
  pub type_name : List ℕ
  pub extendee : List ℕ
  pub json_name : List ℕ
  pub given : ℕ
  pub default : List ℕ
  pub default_start : ℕ
  pub oneof : ℕ
  pub optional : ℕ

pub record Schema : Type 0 where
  pub file_name : List ℕ
  pub «package» : List ℕ
  -- 2 or 3 in an image that obeys rule 3
  pub syntax : ℕ
  -- how many rows there are
  pub imports : ℕ
  pub messages : ℕ
  pub enums : ℕ
  pub oneofs : ℕ
  pub fields : ℕ
  -- the rows of the file itself: the first messages and enums, and a range of fields
  pub top_messages : ℕ
  pub top_enums : ℕ
  pub file_extensions : Range
  -- of an import row: the name of the file that is imported, and whether it is public, 0 or 1
  pub import_name : ℕ → List ℕ
  pub import_public : ℕ → ℕ
  -- of a message row: its name, what it owns, its number of extension ranges, its map-entry option
  pub message_name : ℕ → List ℕ
  pub nested : ℕ → Range
  pub enums_in : ℕ → Range
  pub fields_in : ℕ → Range
  pub extensions_in : ℕ → Range
  pub oneofs_in : ℕ → Range
  pub extension_ranges : ℕ → ℕ
  pub map_entry : ℕ → ℕ
  -- of an enum row: its name and values
  pub enum_name : ℕ → List ℕ
  pub values_in : ℕ → Range
  -- of a value row: its name and number
  pub value_name : ℕ → List ℕ
  pub value_number : ℕ → ℕ
  -- of a field row
  pub field : ℕ → FieldSays

-- ---- from words

-- a field row is sixteen words
abbrev pub field_row : List ℕ → Sections → ℕ → List ℕ
field_row image s r = table 16 (λ k. word_at image (row_at s Field r + k))

-- what such words say
abbrev pub field_of : List ℕ → List ℕ → FieldSays
field_of row pool =
    record {
      name = text_of row pool 0;
      number = word_at row (number_at 0);
      label = word_at row (label_at 0);
      «type» = word_at row (type_at 0);
      type_name = text_of row pool (type_name_at 0);
      extendee = text_of row pool (extendee_at 0);
      json_name = text_of row pool (json_name_at 0);
      given = word_at row (given_at 0);
      default = text_of row pool (default_at 0);
      default_start = word_at row (default_at 0);
      oneof = word_at row (oneof_at 0);
      optional = word_at row (optional_at 0);
    }

-- what an image says, whose sections are `s` and whose pool is `pool`
unfoldable pub schema_in : List ℕ → Sections → List ℕ → Schema
unfolding row_at text_of table
schema_in image s pool =
    record {
      file_name = text_of image pool (file_name_at (trailer_at image));
      «package» = text_of image pool (package_at (trailer_at image));
      syntax = word_at image (syntax_at (trailer_at image));
      imports = s.imports.count;
      messages = s.messages.count;
      enums = s.enums.count;
      oneofs = s.oneofs.count;
      fields = s.fields.count;
      top_messages = top_messages image;
      top_enums = top_enums image;
      file_extensions = file_extensions image;
      import_name = λ r. text_of image pool (row_at s Import r);
      import_public = λ r. word_at image (public_at (row_at s Import r));
      message_name = λ r. text_of image pool (row_at s Message r);
      nested = nested_messages image s;
      enums_in = enums_of image s;
      fields_in = fields_of image s;
      extensions_in = extensions_of image s;
      oneofs_in = oneofs_of image s;
      extension_ranges = λ r. word_at image (extension_ranges_at (row_at s Message r));
      map_entry = λ r. word_at image (map_entry_at (row_at s Message r));
      enum_name = λ r. text_of image pool (row_at s Enum r);
      values_in = values_of image s;
      value_name = λ r. text_of image pool (row_at s Value r);
      value_number = λ r. word_at image (number_at (row_at s Value r));
      field = λ r. field_of (field_row image s r) pool;
    }

-- what an image says, with the sections that are told with it
abbrev pub schema : Image → Schema
schema image = schema_in image.rows.words.now image.rows.sections image.pool.now

-- with the sections that its trailer tells
unfoldable pub schema_of : List ℕ → List ℕ → Schema
unfolding schema_in sections_of
schema_of image pool = schema_in image (sections_of image) pool
