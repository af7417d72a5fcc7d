-- One field: its refusals in the order tried (default, extendee or 14, type), and its link row. `list` is the search list, `at` the field's
-- flat number. Assumes nothing.
use Rattle.std.specs.Prelude.{List, [], ◌∷◌, ◌++◌, Bool, true, false, not, cond, ◌&&◌, ℕ, ◌+◌, eqb, Option, Some, None, is_none, unwrap_or, Result, Ok, Err}
use Rattle.lists.specs.Below.{first_below, found_below}
use Rattle.lists.specs.Lists.{same, is_empty}
use Rattle.names.specs.Types.{type_of, runtime_type}
use Rattle.names.specs.Default.{DefaultRead, default_of}
use Rattle.names.specs.declared.runtime_type_box.FieldType.{FieldType}
use Rattle.names.specs.declared.runtime_type_box.ReadDefault.TheVariants.{Integer, Text, ValueName}
use Rattle.names.specs.declared.runtime_type_box.DefaultRefused.TheVariants.{Unreadable, Unsupported}
use Rattle.image.specs.Schema.{Schema, FieldSays}
use Rattle.image.specs.Members.{regular}
use Rattle.image.specs.Links.{message_row, enum_row}
use Rattle.image.specs.MapEntry.{is_map_entry}
use Rattle.image.specs.Record.{File, says}
use Rattle.image.specs.LinkTests.{file_by}
use Rattle.image.specs.Verdict.{Line, line}
use Rattle.image.specs.declared.verdict.Refusal.{Refusal}
use Rattle.image.specs.declared.verdict.Refused.{Refused}
use Rattle.image.specs.declared.verdict.Refusal.TheVariants.{DefaultWrong, DefaultBarred, ExtendeeAbsent, MessageMissing, EnumMissing}
use Rattle.link.specs.Sight.{Sight, in_sight}
use Rattle.link.specs.Resolve.{target, type_target, target_file, target_index, nowhere, is_message_type}
use Rattle.link.specs.declared.building.Wanted.TheVariants.{Message, Enum}
use Rattle.link.specs.declared.building.Target.{Target}

-- ---- default

-- a default is given, whatever its text
abbrev pub is_given : FieldSays → Bool
is_given f = not (eqb f.given 0)

-- what its text says for the field's type
abbrev pub read_as : Option FieldType → List ℕ → ℕ → DefaultRead
read_as (Some t) text start = default_of (runtime_type t) text start
read_as None text start = Err Unreadable

unfoldable pub default_read : FieldSays → DefaultRead
default_read f = read_as (type_of f.«type») f.default f.default_start

abbrev pub is_unreadable : DefaultRead → Bool
is_unreadable (Ok d) = false
is_unreadable (Err Unreadable) = true
is_unreadable (Err Unsupported) = false

abbrev pub is_unsupported : DefaultRead → Bool
is_unsupported (Ok d) = false
is_unsupported (Err Unreadable) = false
is_unsupported (Err Unsupported) = true

abbrev pub is_value_name : DefaultRead → Bool
is_value_name (Ok (Integer w)) = false
is_value_name (Ok (Text w)) = false
is_value_name (Ok ValueName) = true
is_value_name (Err r) = false

-- the first value of that name of enum row r: its place in the enum
unfoldable pub first_value : Schema → ℕ → List ℕ → Option ℕ
unfolding first_below
first_value g r text =
    found_below (g.values_in r).count (first_below (g.values_in r).count (λ k. same (g.value_name ((g.values_in r).first + k)) text) (g.values_in r).count)

-- the same of the enum with flat number e of a file, and of the enum that a target is
abbrev pub value_in : File → ℕ → List ℕ → Option ℕ
value_in file e text = first_value (says file) (enum_row (says file) file.links e) text

abbrev pub value_of : Sight → Option Target → List ℕ → Option ℕ
value_of s t text = value_in (file_by (in_sight s) (target_file t)) (target_index t) text

-- the place in its enum of the value that a field's default names
abbrev pub named_default : Sight → List ℕ → FieldSays → Option ℕ
named_default s list f = value_of s (target Enum s list f.type_name) f.default

-- 12 and 13; of an enum 16 where it is not found, and 12 where it has no value of that name
unfoldable pub default_lines : Sight → List ℕ → FieldSays → ℕ → List Line
unfolding first_value
default_lines s list f at =
    line DefaultWrong (is_given f && is_unreadable (default_read f)) at
    ∷ line DefaultBarred (is_given f && is_unsupported (default_read f)) at
    ∷ line EnumMissing (is_given f && (is_value_name (default_read f) && is_none (target Enum s list f.type_name))) at
    ∷ line DefaultWrong (is_given f && (is_value_name (default_read f) && is_none (named_default s list f))) at
    ∷ []

-- default kind, low and high word: 0 none, 1 integer or bool, 3 text, 4 enum
abbrev pub default_record : Option ℕ → DefaultRead → List ℕ
default_record value (Ok (Integer w)) = 1 ∷ w.low ∷ w.high ∷ []
default_record value (Ok (Text w)) = 3 ∷ w.low ∷ w.high ∷ []
default_record value (Ok ValueName) = 4 ∷ unwrap_or value 0 ∷ 0 ∷ []
default_record value (Err r) = 0 ∷ 0 ∷ 0 ∷ []

unfoldable pub default_part : Sight → List ℕ → FieldSays → List ℕ
unfolding first_value
default_part s list f = cond (is_given f) (default_record (named_default s list f) (default_read f)) (0 ∷ 0 ∷ 0 ∷ [])

-- ---- extendee

abbrev pub has_extendee : FieldSays → Bool
has_extendee f = not (is_empty f.extendee)

abbrev pub extendee_target : Sight → List ℕ → FieldSays → Option Target
extendee_target s list f = target Message s list f.extendee

-- 14 is for file extensions alone
unfoldable pub extendee_lines : Sight → List ℕ → FieldSays → Bool → ℕ → List Line
extendee_lines s list f ofFile at =
    line ExtendeeAbsent (ofFile && not (has_extendee f)) at
    ∷ line MessageMissing (has_extendee f && is_none (extendee_target s list f)) at
    ∷ []

-- extendee file and index, 0 where absent
unfoldable pub extendee_part : Sight → List ℕ → FieldSays → List ℕ
extendee_part s list f =
    cond (has_extendee f) (target_file (extendee_target s list f) ∷ target_index (extendee_target s list f) ∷ []) (0 ∷ 0 ∷ [])

-- ---- type

-- what a type of a field, or of a map's key or value, draws where it is not found
unfoldable pub element_lines : Sight → List ℕ → FieldSays → ℕ → List Line
element_lines s list f at =
    line MessageMissing (is_message_type f.«type» && is_none (type_target s list f.«type» f.type_name)) at
    ∷ line EnumMissing (eqb f.«type» 14 && is_none (type_target s list f.«type» f.type_name)) at
    ∷ []

-- its type, file and index
abbrev pub element_part : Sight → List ℕ → FieldSays → List ℕ
element_part s list f =
    f.«type»
    ∷ target_file (type_target s list f.«type» f.type_name)
    ∷ target_index (type_target s list f.«type» f.type_name)
    ∷ []

-- field j of the message that a target is: the key of a map entry is field 0, its value field 1
abbrev pub field_in : File → ℕ → ℕ → FieldSays
field_in file m j = regular (says file) (message_row file.links m) j

abbrev pub entry_field : Sight → Option Target → ℕ → FieldSays
entry_field s t j = field_in (file_by (in_sight s) (target_file t)) (target_index t) j

-- the message with flat number m of a file is a map entry, and so is the message that a target is
abbrev pub entry_in : File → ℕ → Bool
entry_in file m = is_map_entry (says file) (message_row file.links m)

abbrev pub is_entry : Sight → Option Target → Bool
is_entry s t = entry_in (file_by (in_sight s) (target_file t)) (target_index t)

-- what a field's own type leads to
abbrev pub field_target : Sight → List ℕ → FieldSays → Option Target
field_target s list f = type_target s list f.«type» f.type_name

abbrev pub is_repeated : FieldSays → Bool
is_repeated f = eqb f.label 3

-- a repeated field whose message is a map entry is a map; its key's and value's types are resolved from the file that is linked
unfoldable pub is_map : Sight → List ℕ → FieldSays → Bool
is_map s list f = is_repeated f && (is_message_type f.«type» && is_entry s (field_target s list f))

abbrev pub map_key : Sight → List ℕ → FieldSays → FieldSays
map_key s list f = entry_field s (field_target s list f) 0

abbrev pub map_value : Sight → List ℕ → FieldSays → FieldSays
map_value s list f = entry_field s (field_target s list f) 1

-- both types of a map with that key and value
unfoldable pub map_lines : Sight → List ℕ → FieldSays → FieldSays → ℕ → List Line
unfolding element_lines
map_lines s list key value at = element_lines s list key at ++ element_lines s list value at

unfoldable pub map_part : Sight → List ℕ → FieldSays → FieldSays → List ℕ
map_part s list key value = 2 ∷ (element_part s list key ++ element_part s list value)

unfoldable pub type_lines : Sight → List ℕ → FieldSays → ℕ → List Line
unfolding element_lines is_map map_lines
type_lines s list f at =
    element_lines s list f at ++ cond (is_map s list f) (map_lines s list (map_key s list f) (map_value s list f) at) []

-- shape (0 singular, 1 repeated, 2 map); type, file, index; the same three for a map's value, else 0
unfoldable pub type_part : Sight → List ℕ → FieldSays → List ℕ
unfolding is_map map_part
type_part s list f =
    cond
    (is_map s list f)
    (map_part s list (map_key s list f) (map_value s list f))
    (cond (is_repeated f) 1 0 ∷ (element_part s list f ++ (0 ∷ 0 ∷ 0 ∷ [])))

-- ---- the field

unfoldable pub field_lines : Sight → List ℕ → FieldSays → Bool → ℕ → List Line
unfolding default_lines extendee_lines type_lines
field_lines s list f ofFile at = default_lines s list f at ++ (extendee_lines s list f ofFile at ++ type_lines s list f at)

-- image row; kind (0 message field, 1 extension); containing message + 1 or 0; extendee; shape and types; default; 0
unfoldable pub field_words : Sight → List ℕ → FieldSays → ℕ → ℕ → List ℕ
unfolding extendee_part type_part default_part
field_words s list f row container =
    row
    ∷ cond (has_extendee f) 1 0
    ∷ container
    ∷ (extendee_part s list f ++ (type_part s list f ++ (default_part s list f ++ (0 ∷ []))))

-- ---- as the code has it: steps that answer a refusal or what they are for

abbrev pub value_default : Option ℕ → ℕ → Result (List ℕ) Refused
value_default (Some k) at = Ok (4 ∷ k ∷ 0 ∷ [])
value_default None at = Err (record { refusal = DefaultWrong; place = at })

abbrev pub target_default : Sight → Option Target → List ℕ → ℕ → Result (List ℕ) Refused
target_default s (Some t) text at = value_default (value_in (file_by (in_sight s) t.file) t.index text) at
target_default s None text at = Err (record { refusal = EnumMissing; place = at })

unfoldable pub enum_default : Sight → List ℕ → FieldSays → ℕ → Result (List ℕ) Refused
enum_default s list f at = target_default s (target Enum s list f.type_name) f.default at

-- what a type leads to
abbrev pub element_target : Sight → List ℕ → FieldSays → Target
element_target s list f = unwrap_or (field_target s list f) nowhere

-- the refusal of a type whose name leads nowhere
abbrev pub missing_refusal : ℕ → Refusal
missing_refusal «type» = cond (eqb «type» 14) EnumMissing MessageMissing
