-- The files behind the worked table, written row by row as a schema would be, and the images that they are. Assumes nothing.
use Rattle.std.specs.Prelude.{ℕ, ◌+◌, List, [], ◌∷◌, ◌++◌, length}
use Rattle.names.specs.Bytes.{dot}
use Rattle.names.specs.Types.{type_number}
use Rattle.names.specs.declared.runtime_type_box.FieldType.{FieldType}
use Rattle.names.specs.declared.runtime_type_box.FieldType.TheVariants.{Int32, Message, Enum}

-- a file: its pool, whose first byte is the file's name, its syntax, and its rows, each a list of words. It has no package, no oneofs and
-- no extensions, and all its messages and enums are at top level
pub record Source : Type 0 where
  pub pool : List ℕ
  pub syntax : ℕ
  pub imports : List (List ℕ)
  pub messages : List (List ℕ)
  pub enums : List (List ℕ)
  pub values : List (List ℕ)
  pub fields : List (List ℕ)

-- ---- words of rows. Every name is one letter, every type name a dot and a letter

-- start and length in the pool: of a letter, of a dot with the letter behind it
abbrev letter_at : ℕ → List ℕ
letter_at start = start ∷ 1 ∷ []

abbrev dotted_at : ℕ → List ℕ
dotted_at start = start ∷ 2 ∷ []

-- first row and count
abbrev rows : ℕ → ℕ → List ℕ
rows first count = first ∷ count ∷ []

-- no text, or no rows
abbrev none : List ℕ
none = 0 ∷ 0 ∷ []

-- a default: whether it is given, and its text
abbrev given : List ℕ → List ℕ
given text = 1 ∷ text

abbrev not_given : List ℕ
not_given = 0 ∷ none

-- labels
abbrev optional : ℕ
optional = 1

abbrev required : ℕ
required = 2

-- ---- rows

-- file name; public
abbrev an_import : List ℕ → ℕ → List ℕ
an_import name public = name ++ public ∷ []

-- name; nested messages, enums, fields, extensions, oneofs; extension ranges, map entry
abbrev a_message : List ℕ → List ℕ → List ℕ
a_message name fields = name ++ none ++ none ++ fields ++ none ++ none ++ 0 ∷ 0 ∷ []

-- name; values
abbrev an_enum : List ℕ → List ℕ → List ℕ
an_enum name values = name ++ values

-- name; number
abbrev a_value : List ℕ → ℕ → List ℕ
a_value name number = name ++ number ∷ []

-- the only field of a message: name; number 1, label, type; type name, extendee, JSON name; default; oneof, proto3_optional
abbrev a_field : List ℕ → ℕ → FieldType → List ℕ → List ℕ → List ℕ
a_field name label «type» type_name default = name ++ 1 ∷ label ∷ type_number «type» ∷ type_name ++ none ++ none ++ default ++ 0 ∷ 0 ∷ []

-- ---- the image: all rows, then the trailer

abbrev joined : List (List ℕ) → List ℕ
joined [] = []
joined (row ∷ rest) = row ++ joined rest

-- where each section ends, which is where the next starts
abbrev imports_end : Source → ℕ
imports_end f = length (joined f.imports)

abbrev messages_end : Source → ℕ
messages_end f = imports_end f + length (joined f.messages)

abbrev enums_end : Source → ℕ
enums_end f = messages_end f + length (joined f.enums)

abbrev values_end : Source → ℕ
values_end f = enums_end f + length (joined f.values)

abbrev fields_end : Source → ℕ
fields_end f = values_end f + length (joined f.fields)

abbrev trailer : Source → List ℕ
trailer f =
    -- layout; file name; package; syntax
    (1 ∷ letter_at 0 ++ none ++ f.syntax ∷ [])
    -- start and count of imports, messages, enums, values, oneofs, fields
    ++ (0 ∷ length f.imports ∷ [])
    ++ (imports_end f ∷ length f.messages ∷ [])
    ++ (messages_end f ∷ length f.enums ∷ [])
    ++ (enums_end f ∷ length f.values ∷ [])
    ++ (values_end f ∷ 0 ∷ [])
    ++ (values_end f ∷ length f.fields ∷ [])
    -- top-level messages; top-level enums; file extensions; pool length; start of this trailer
    ++ (length f.messages ∷ length f.enums ∷ none)
    ++ (length f.pool ∷ fields_end f ∷ [])

abbrev pub image_of : Source → List ℕ
image_of f =
    joined f.imports ++ joined f.messages ++ joined f.enums ++ joined f.values ++ joined f.fields ++ trailer f

-- ---- the letters

abbrev pub A : List ℕ
A = 65 ∷ []

abbrev B : List ℕ
B = 66 ∷ []

abbrev C : List ℕ
C = 67 ∷ []

abbrev E : List ℕ
E = 69 ∷ []

abbrev M : List ℕ
M = 77 ∷ []

abbrev f : List ℕ
f = 102 ∷ []

abbrev pub p : List ℕ
p = 112 ∷ []

abbrev pub q : List ℕ
q = 113 ∷ []

abbrev pub r : List ℕ
r = 114 ∷ []

abbrev pub s : List ℕ
s = 115 ∷ []

abbrev x : List ℕ
x = 120 ∷ []

-- ---- the files

-- syntax = "proto3"; message A {}
abbrev pub whole_file : Source
whole_file =
    record {
      pool = f ++ A;
      syntax = 3;
      imports = [];
      messages = a_message (letter_at 1) none ∷ [];
      enums = [];
      values = [];
      fields = [];
    }

-- enum E { A = 0; B = 1; A = 1; }
-- message M { optional E x = 1 [default = A]; }
abbrev pub value_file : Source
value_file =
    record {
      pool = f ++ dot ∷ E ++ A ++ B ++ M ++ x;
      syntax = 2;
      imports = [];
      messages = a_message (letter_at 5) (rows 0 1) ∷ [];
      enums = an_enum (letter_at 2) (rows 0 3) ∷ [];
      values = a_value (letter_at 3) 0 ∷ a_value (letter_at 4) 1 ∷ a_value (letter_at 3) 1 ∷ [];
      fields = a_field (letter_at 6) optional Enum (dotted_at 1) (given (letter_at 3)) ∷ [];
    }

-- message A { required int32 x = 1; }
-- message B { optional A x = 1; }
-- message C { optional B x = 1; }
abbrev pub chain_file : Source
chain_file =
    record {
      pool = f ++ dot ∷ A ++ dot ∷ B ++ C ++ x;
      syntax = 2;
      imports = [];
      messages = a_message (letter_at 2) (rows 0 1) ∷ a_message (letter_at 4) (rows 1 1) ∷ a_message (letter_at 5) (rows 2 1) ∷ [];
      enums = [];
      values = [];
      fields =
          a_field (letter_at 6) required Int32 none not_given
          ∷ a_field (letter_at 6) optional Message (dotted_at 1) not_given
          ∷ a_field (letter_at 6) optional Message (dotted_at 3) not_given
          ∷ [];
    }

-- message A { optional A x = 1; }
abbrev pub self_file : Source
self_file =
    record {
      pool = f ++ dot ∷ A ++ x;
      syntax = 2;
      imports = [];
      messages = a_message (letter_at 2) (rows 0 1) ∷ [];
      enums = [];
      values = [];
      fields = a_field (letter_at 3) optional Message (dotted_at 1) not_given ∷ [];
    }

-- a file that has only imports
abbrev imports_alone : List ℕ → List (List ℕ) → Source
imports_alone pool imports = record { pool = pool; syntax = 2; imports = imports; messages = []; enums = []; values = []; fields = [] }

abbrev pub file_q : Source
file_q = imports_alone q []

abbrev pub file_r : Source
file_r = imports_alone r []

abbrev pub file_s : Source
file_s = imports_alone s []

-- import public "r"; import public "s";
abbrev pub file_p : Source
file_p = imports_alone (p ++ r ++ s) (an_import (letter_at 1) 1 ∷ an_import (letter_at 2) 1 ∷ [])

-- import "p"; import "q";
abbrev pub import_file : Source
import_file = imports_alone (f ++ p ++ q) (an_import (letter_at 1) 0 ∷ an_import (letter_at 2) 0 ∷ [])
