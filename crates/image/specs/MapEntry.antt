-- Rules 9 to 11, of one message row: what a message with the map-entry option must be. Assumes nothing.
use Rattle.std.specs.Prelude.{List, [], ◌∷◌, Bool, not, ◌&&◌, ℕ, ◌-◌, eqb, leb, length, drop}
use Rattle.lists.specs.Below.{all_of}
use Rattle.lists.specs.Lists.{same}
use Rattle.image.specs.Schema.{Schema, FieldSays}
use Rattle.image.specs.Members.{regular}
use Rattle.image.specs.Verdict.{Line, line}
use Rattle.image.specs.declared.verdict.Refusal.TheVariants.{EntryName, EntryNotBare, EntryFields}

-- the texts `Entry`, `key` and `value`
abbrev pub entry_text : List ℕ
entry_text = 69 ∷ 110 ∷ 116 ∷ 114 ∷ 121 ∷ []

abbrev pub key_text : List ℕ
key_text = 107 ∷ 101 ∷ 121 ∷ []

abbrev pub value_text : List ℕ
value_text = 118 ∷ 97 ∷ 108 ∷ 117 ∷ 101 ∷ []

-- a text ends in another
abbrev pub ends_with : List ℕ → List ℕ → Bool
ends_with s t = leb (length t) (length s) && same (drop (length s - length t) s) t

-- no extensions, extension ranges, nested messages or enums
abbrev pub bare_tests : Schema → ℕ → List Bool
bare_tests g r =
    eqb (g.extensions_in r).count 0
    ∷ eqb (g.extension_ranges r) 0
    ∷ eqb (g.nested r).count 0
    ∷ eqb (g.enums_in r).count 0
    ∷ []

unfoldable pub is_bare : Schema → ℕ → Bool
is_bare g r = all_of (bare_tests g r)

-- a field of that number and name, optional (label 1)
unfoldable pub is_entry_field : FieldSays → ℕ → List ℕ → Bool
is_entry_field f number name = eqb f.number number && (same f.name name && eqb f.label 1)

-- the fields are exactly key = 1, value = 2, in that order, both optional
abbrev pub pair_tests : Schema → ℕ → List Bool
pair_tests g r =
    eqb (g.fields_in r).count 2
    ∷ is_entry_field (regular g r 0) 1 key_text
    ∷ is_entry_field (regular g r 1) 2 value_text
    ∷ []

unfoldable pub is_pair : Schema → ℕ → Bool
unfolding is_entry_field
is_pair g r = all_of (pair_tests g r)

-- the message on row r has the map-entry option
abbrev pub is_map_entry : Schema → ℕ → Bool
is_map_entry g r = not (eqb (g.map_entry r) 0)

-- the three rules of the message on row r, whose flat number is m
unfoldable pub entry_lines : Schema → ℕ → ℕ → List Line
unfolding is_bare is_pair
entry_lines g r m =
    line EntryName (is_map_entry g r && not (ends_with (g.message_name r) entry_text)) m
    ∷ line EntryNotBare (is_map_entry g r && not (is_bare g r)) m
    ∷ line EntryFields (is_map_entry g r && not (is_pair g r)) m
    ∷ []
