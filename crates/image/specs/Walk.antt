-- What the walk over nested messages may rely on when it enters a range of rows, and what it hands on. Assumes nothing.
use Rattle.std.specs.Prelude.{◌≡◌, List, [], ◌∷◌, ◌++◌, true, ◌&&◌, eqb, ℕ, ◌+◌, ◌*◌, ◌<◌, ◌≤◌, ◌^◌, length, get_or, take}
use Rattle.lists.specs.Below.{bit}
use Rattle.lists.specs.Lists.{span, all, concat_map}
use Rattle.image.specs.Schema.{Schema}
use Rattle.image.specs.Flat.{rows_of, row_of, field_rows, within, walked, flat_messages, outer, first_enum, first_oneof, tally_at}
use Rattle.image.specs.Laid.{Sound}
use Rattle.image.specs.Members.{member_count, synthetic}
use Rattle.image.specs.Links.{message_link_width, enum_link_width, oneof_link_width, message_links, enum_link, oneof_link}
use Rattle.image.specs.declared.flat.Tally.{Tally}

-- the tally behind message row r: the row, its enums, its oneofs and its fields have taken their numbers
abbrev pub tallied : Schema → Tally → ℕ → Tally
tallied g t r =
    record {
      messages = t.messages + 1;
      enums = t.enums + (g.enums_in r).count;
      oneofs = t.oneofs + (g.oneofs_in r).count;
      fields = t.fields + (g.fields_in r).count + (g.extensions_in r).count;
    }

-- the link row of message row r at a tally, where `outside` is its enclosing word
abbrev pub link_at : Schema → ℕ → ℕ → Tally → List ℕ
link_at g r outside t =
    r
    ∷ outside
    ∷ t.enums
    ∷ t.oneofs
    ∷ t.fields
    ∷ (g.fields_in r).count
    ∷ (g.extensions_in r).count
    ∷ g.map_entry r
    ∷ 0
    ∷ 0
    ∷ []

-- every number of a tally is a word
pub record InWords (t : Tally) : Type 0 where
  pub messages : t.messages < 2 ^ 32
  pub enums : t.enums < 2 ^ 32
  pub oneofs : t.oneofs < 2 ^ 32
  pub fields : t.fields < 2 ^ 32

-- the list w stands in l from place m on
pub record Stands (l : List ℕ) (m : ℕ) (w : List ℕ) : Type 0 where
  pub before : List ℕ
  pub behind : List ℕ
  pub whole : l ≡ before ++ (w ++ behind)
  pub at : length before ≡ m

-- `count` rows from row `first` on, which one message encloses (or none), are next in the flat order and at most `depth` levels deep
pub record Entering (g : Schema) (first count outside depth : ℕ) (t : Tally) : Type 0 where
  pub sound : Sound g
  pub stands : Stands (flat_messages g) t.messages (walked depth g (span first count))
  pub levels : all (within depth g) (span first count) ≡ true
  pub inside : first + count ≤ g.messages
  pub enclosed : (k : ℕ) → k < count → outer g (first + k) ≡ outside
  pub tally : t ≡ tally_at g t.messages

-- words that begin with the link rows of all messages
pub record Indexed (g : Schema) (links : List ℕ) : Type 0 where
  pub room : g.messages * message_link_width ≤ length links
  pub front : take (g.messages * message_link_width) links ≡ message_links g 0 g.messages

-- the link rows of the enums and of the oneofs of flat message m, and the words where they stand
abbrev pub enum_part : Schema → ℕ → List ℕ
enum_part g m = concat_map (enum_link (m + 1)) (rows_of (g.enums_in (row_of g m)))

abbrev pub enum_links_at : Schema → ℕ → ℕ
enum_links_at g m = g.messages * message_link_width + first_enum g m * enum_link_width

-- the fields of flat message m, extensions last
abbrev pub field_part : Schema → ℕ → List ℕ
field_part g m = field_rows g (row_of g m)

abbrev pub oneof_part : Schema → ℕ → List ℕ
oneof_part g m = concat_map (oneof_link g m) (span 0 (g.oneofs_in (row_of g m)).count)

-- the oneof at place k of a message with number m and row r
abbrev pub oneof_row : Schema → ℕ → ℕ → ℕ → List ℕ
oneof_row g m r k = m ∷ k ∷ bit (synthetic g r k) ∷ member_count g r k ∷ []

-- the same row, where `members` and `optionals` count at place k
abbrev pub counted_row : ℕ → List ℕ → List ℕ → ℕ → List ℕ
counted_row m members optionals k = m ∷ k ∷ bit (eqb (get_or members k 0) 1 && eqb (get_or optionals k 0) 1) ∷ get_or members k 0 ∷ []

abbrev pub oneof_links_at : Schema → ℕ → ℕ
oneof_links_at g m = g.messages * message_link_width + (g.enums * enum_link_width + first_oneof g m * oneof_link_width)
