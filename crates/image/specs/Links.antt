-- The link rows that an image gives, without what linking adds to them: 10 words for each message, then 2 for each enum, then 4 for
-- each oneof, all in flat order. The two words of a message's mark are 0 here. Assumes nothing.
use Rattle.std.specs.Prelude.{List, [], ◌∷◌, ◌++◌, ℕ, ◌+◌, ◌*◌, get_or}
use Rattle.lists.specs.Below.{bit}
use Rattle.lists.specs.Lists.{span, concat_map}
use Rattle.image.specs.Schema.{Schema}
use Rattle.image.specs.Flat.{rows_of, row_of, enclosing, first_enum, first_oneof, first_field}
use Rattle.image.specs.Members.{member_count, synthetic}

-- how many words a link row has
abbrev pub message_link_width : ℕ
message_link_width = 10

abbrev pub enum_link_width : ℕ
enum_link_width = 2

abbrev pub oneof_link_width : ℕ
oneof_link_width = 4

-- flat message m: image row; enclosing + 1 or 0; first own enum, oneof, field; counts of fields and extensions; map entry; two words
-- for its mark
abbrev pub message_link : Schema → ℕ → List ℕ
message_link g m =
    row_of g m
    ∷ enclosing g m
    ∷ first_enum g m
    ∷ first_oneof g m
    ∷ first_field g m
    ∷ (g.fields_in (row_of g m)).count
    ∷ (g.extensions_in (row_of g m)).count
    ∷ g.map_entry (row_of g m)
    ∷ 0
    ∷ 0
    ∷ []

-- n flat messages from m on
abbrev pub message_links : Schema → ℕ → ℕ → List ℕ
message_links g m n = concat_map (message_link g) (span m n)

-- an enum on image row r: that row; enclosing + 1 or 0
abbrev pub enum_link : ℕ → ℕ → List ℕ
enum_link outside r = r ∷ outside ∷ []

-- the enums of the first n messages, behind those of the file
abbrev pub enum_links : Schema → ℕ → List ℕ
enum_links g n =
    concat_map (enum_link 0) (span 0 g.top_enums)
    ++ concat_map (λ m. concat_map (enum_link (m + 1)) (rows_of (g.enums_in (row_of g m)))) (span 0 n)

-- the oneof of message m at place k of it: message; place; synthetic; count of members
abbrev pub oneof_link : Schema → ℕ → ℕ → List ℕ
oneof_link g m k = m ∷ k ∷ bit (synthetic g (row_of g m) k) ∷ member_count g (row_of g m) k ∷ []

-- the oneofs of the first n messages
abbrev pub oneof_links : Schema → ℕ → List ℕ
oneof_links g n = concat_map (λ m. concat_map (oneof_link g m) (span 0 (g.oneofs_in (row_of g m)).count)) (span 0 n)

unfoldable pub links_of : Schema → List ℕ
links_of g = message_links g 0 g.messages ++ (enum_links g g.messages ++ oneof_links g g.messages)

-- how many words these are, in an image that obeys rule 3 and whose nesting is within its limit
abbrev pub link_words : Schema → ℕ
link_words g = g.messages * message_link_width + (g.enums * enum_link_width + g.oneofs * oneof_link_width)

-- ---- what any words say that stand in the place of link rows: image row and enclosing word of a message, and of an enum

abbrev pub message_row : List ℕ → ℕ → ℕ
message_row links m = get_or links (m * message_link_width) 0

abbrev pub message_up : List ℕ → ℕ → ℕ
message_up links m = get_or links (m * message_link_width + 1) 0

abbrev pub enum_row : Schema → List ℕ → ℕ → ℕ
enum_row g links e = get_or links (g.messages * message_link_width + e * enum_link_width) 0

abbrev pub enum_up : Schema → List ℕ → ℕ → ℕ
enum_up g links e = get_or links (g.messages * message_link_width + e * enum_link_width + 1) 0
