-- The flat order: top-level enums first; then each message before its nested ones, its enums and oneofs numbered before those of its
-- nested messages; fields per flat message, regular then extensions; file extensions last. A row is a place in a section of the
-- image; a flat number is a place in one of the lists below. Assumes nothing.
use Rattle.std.specs.Prelude.{List, [], ◌∷◌, ◌++◌, Bool, false, cond, ℕ, zero, suc, ◌+◌, ltb, get_or, take}
use Rattle.lists.specs.Below.{first_below}
use Rattle.lists.specs.Lists.{span, concat_map, all, total, index_of}
use Rattle.image.specs.Layout.{covers}
use Rattle.image.specs.Schema.{Schema}
use Rattle.image.specs.declared.rows.Range.{Range}
use Rattle.image.specs.declared.flat.Tally.{Tally}

-- the rows of a range, in order
abbrev pub rows_of : Range → List ℕ
rows_of g = span g.first g.count

-- ---- messages

-- the rows of the top-level messages, and of those nested in row r
abbrev pub top_rows : Schema → List ℕ
top_rows g = span 0 g.top_messages

abbrev pub nested_rows : Schema → ℕ → List ℕ
nested_rows g r = rows_of (g.nested r)

-- nesting is at most 16, where the top level is 1
abbrev pub max_depth : ℕ
max_depth = 16

-- row r, then what is nested in it: at most d levels, row r itself being one
unfoldable pub preorder : ℕ → Schema → ℕ → List ℕ
preorder zero g r = []
preorder (suc d) g r = r ∷ concat_map (preorder d g) (nested_rows g r)

-- the same of each row of a list
abbrev pub walked : ℕ → Schema → List ℕ → List ℕ
walked d g l = concat_map (preorder d g) l

-- the rows of all messages in flat order
unfoldable pub flat_messages : Schema → List ℕ
flat_messages g = walked max_depth g (top_rows g)

-- flat number to row, and row to flat number
abbrev pub row_of : Schema → ℕ → ℕ
row_of g m = get_or (flat_messages g) m 0

abbrev pub flat_of : Schema → ℕ → ℕ
flat_of g r = index_of r (flat_messages g)

-- row r is nested in row p; the row that row r is nested in, or the number of rows where there is none
abbrev pub owns : Schema → ℕ → ℕ → Bool
owns g p r = covers (g.nested p) r

abbrev pub owner : Schema → ℕ → ℕ
owner g r = first_below g.messages (λ p. owns g p r) g.messages

-- the enclosing word of row r: 0 at top level, else the flat number of the message that it is nested in, plus 1
abbrev pub outer : Schema → ℕ → ℕ
outer g r = cond (ltb r g.top_messages) 0 (flat_of g (owner g r) + 1)

-- and of flat message m
abbrev pub enclosing : Schema → ℕ → ℕ
enclosing g m = outer g (row_of g m)

-- ---- what messages own: all enums, oneofs and fields in flat order

unfoldable pub flat_enums : Schema → List ℕ
flat_enums g = span 0 g.top_enums ++ concat_map (λ r. rows_of (g.enums_in r)) (flat_messages g)

unfoldable pub flat_oneofs : Schema → List ℕ
flat_oneofs g = concat_map (λ r. rows_of (g.oneofs_in r)) (flat_messages g)

-- the fields of message row r: regular, then extensions
abbrev pub field_rows : Schema → ℕ → List ℕ
field_rows g r = rows_of (g.fields_in r) ++ rows_of (g.extensions_in r)

unfoldable pub flat_fields : Schema → List ℕ
flat_fields g = concat_map (field_rows g) (flat_messages g) ++ rows_of g.file_extensions

-- ---- the next free numbers before flat message m: those of its first own enum, oneof and field, and with count 0 the next free ones
-- at that point of the walk

abbrev pub first_enum : Schema → ℕ → ℕ
first_enum g m = g.top_enums + total (λ r. (g.enums_in r).count) (take m (flat_messages g))

abbrev pub first_oneof : Schema → ℕ → ℕ
first_oneof g m = total (λ r. (g.oneofs_in r).count) (take m (flat_messages g))

abbrev pub first_field : Schema → ℕ → ℕ
first_field g m = total (λ r. (g.fields_in r).count + (g.extensions_in r).count) (take m (flat_messages g))

-- the tally before flat message m
abbrev pub tally_at : Schema → ℕ → Tally
tally_at g m = record { messages = m; enums = first_enum g m; oneofs = first_oneof g m; fields = first_field g m }

-- ---- depth

-- row r and what is nested in it is at most d levels deep, row r itself being one level
unfoldable pub within : ℕ → Schema → ℕ → Bool
within zero g r = false
within (suc d) g r = all (within d g) (nested_rows g r)

-- no message is nested more than 16 levels deep
abbrev pub shallow : Schema → Bool
shallow g = all (within max_depth g) (top_rows g)
