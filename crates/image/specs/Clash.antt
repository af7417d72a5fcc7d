-- Rule 17, of one message row, and the lookups of regular fields: by number, by own name, by own or JSON name. What they answer is the
-- field's place in its message; its flat number is that of the message's first field plus this place. Rows owned as extensions take no part.
-- Assumes nothing.
use Rattle.std.specs.Prelude.{List, Bool, cond, ◌||◌, ℕ, eqb, Option}
use Rattle.lists.specs.Below.{any_below, first_below, found_below}
use Rattle.lists.specs.Lists.{same, is_empty}
use Rattle.names.specs.Json.{derived_json_name}
use Rattle.image.specs.Schema.{Schema, FieldSays}
use Rattle.image.specs.Members.{regular}

-- the JSON name of a field: as given, or derived where none is given, perhaps as empty
unfoldable pub json_name_of : FieldSays → List ℕ
json_name_of f = cond (is_empty f.json_name) (derived_json_name f.name) f.json_name

-- a text is a field's own name, or its JSON name
unfoldable pub is_called : FieldSays → List ℕ → Bool
is_called f text = same f.name text || same (json_name_of f) text

-- two fields clash: the same number, or a name or JSON name of one is a name or JSON name of the other. A JSON name equal to its own
-- field's name is no clash: one field is not compared with itself
unfoldable pub clash : FieldSays → FieldSays → Bool
unfolding is_called
clash f e = eqb f.number e.number || (is_called e f.name || is_called e (json_name_of f))

-- regular field j of message row r clashes with an earlier one
unfoldable pub clashes_earlier : Schema → ℕ → ℕ → Bool
unfolding any_below clash
clashes_earlier g r j = any_below j (λ i. clash (regular g r j) (regular g r i))

-- the place in its message of the first field with p
abbrev pub first_regular : Schema → ℕ → (ℕ → Bool) → Option ℕ
first_regular g r p = found_below (g.fields_in r).count (first_below (g.fields_in r).count p (g.fields_in r).count)

-- the first field that clashes with an earlier one
unfoldable pub first_clash : Schema → ℕ → Option ℕ
unfolding clashes_earlier first_below
first_clash g r = first_regular g r (clashes_earlier g r)

-- ---- lookups

unfoldable pub field_by_number : Schema → ℕ → ℕ → Option ℕ
unfolding first_below
field_by_number g r number = first_regular g r (λ j. eqb (regular g r j).number number)

unfoldable pub field_by_name : Schema → ℕ → List ℕ → Option ℕ
unfolding first_below
field_by_name g r text = first_regular g r (λ j. same (regular g r j).name text)

unfoldable pub field_by_name_or_json : Schema → ℕ → List ℕ → Option ℕ
unfolding first_below is_called
field_by_name_or_json g r text = first_regular g r (λ j. is_called (regular g r j) text)
