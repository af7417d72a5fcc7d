-- Rules 8 and 17 by a table of marks. Each message or enum leaves one in it, of its own name and its enclosing word; each field of a message
-- leaves three, of its number, its own name and its JSON name. What has no key that is seen there has no twin, and no clash, among what left its
-- marks before. Assumes nothing.
use Rattle.std.specs.Prelude.{List, Bool, cond, ◌||◌, ℕ, ◌+◌, ◌/◌, ◌%◌, eqb, length, get_or, set}
use Rattle.names.specs.Key.{key_from, text_key}
use Rattle.image.specs.Schema.{FieldSays, Schema}
use Rattle.image.specs.Clash.{json_name_of}
use Rattle.image.specs.FullName.{item_name, item_up}
use Rattle.image.specs.declared.fields.Keys.{Keys}

-- what the mark of a message or an enum is made from: the key of its own name, begun with its enclosing word
unfoldable pub item_key : Schema → List ℕ → ℕ → ℕ
item_key g links i = key_from (item_up g links i) (item_name g links i)

-- what the three marks of a field are made from
unfoldable pub keys_of : FieldSays → Keys
keys_of f = record { number = f.number; name = text_key f.name; json = text_key (json_name_of f) }

-- a key's place in a table of n bytes, and its mark there, from 1 to 254
abbrev pub place_in : ℕ → ℕ → ℕ
place_in n key = key % n

abbrev pub mark_of : ℕ → ℕ → ℕ
mark_of n key = key / n % 254 + 1

-- the byte of a place where several marks were left
abbrev pub several : ℕ
several = 255

-- a byte says that a mark was left, perhaps
unfoldable pub is_marked : ℕ → ℕ → Bool
is_marked old mark = eqb old several || eqb old mark

-- the byte once a mark more is left
unfoldable pub mark_behind : ℕ → ℕ → ℕ
mark_behind old mark = cond (eqb old 0 || eqb old mark) mark several

-- a key is seen, perhaps
unfoldable pub is_seen : List ℕ → ℕ → Bool
unfolding is_marked
is_seen seen key = is_marked (get_or seen (place_in (length seen) key) 0) (mark_of (length seen) key)

-- one of a field's keys is
unfoldable pub any_seen : List ℕ → Keys → Bool
unfolding is_seen
any_seen seen k = is_seen seen k.number || (is_seen seen k.name || is_seen seen k.json)

-- the table once a key has left its mark, and once a field has left its three
unfoldable pub see : List ℕ → ℕ → List ℕ
unfolding mark_behind
see seen key = set seen (place_in (length seen) key) (mark_behind (get_or seen (place_in (length seen) key) 0) (mark_of (length seen) key))

unfoldable pub see_all : List ℕ → Keys → List ℕ
unfolding see
see_all seen k = see (see (see seen k.number) k.name) k.json
