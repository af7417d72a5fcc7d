-- Rows and flat numbers are one to one in an image that obeys rule 3 and whose counts and nesting are within their limits (`Sound`, in
-- Laid). Assumes nothing.
use Rattle.std.specs.Prelude.{◌≡◌, List, true, ℕ, ◌+◌, ◌<◌, ◌≤◌, length, get_or}
use Rattle.lists.specs.Lists.{occurs, index_of}
use Rattle.image.specs.Schema.{Schema}
use Rattle.image.specs.Flat.{flat_messages, flat_enums, flat_oneofs, flat_fields, row_of, flat_of, owns, owner, enclosing, first_enum, first_oneof, first_field}

-- the list has each number below n exactly once, and nothing else: n places, and each way from a place to its number and back
pub record EachOnce (l : List ℕ) (n : ℕ) : Type 0 where
  pub size : length l ≡ n
  pub once : (r : ℕ) → r < n → occurs r l ≡ 1
  pub row_below : (i : ℕ) → i < n → get_or l i 0 < n
  pub flat_below : (r : ℕ) → r < n → index_of r l < n
  pub flat_row : (i : ℕ) → i < n → index_of (get_or l i 0) l ≡ i
  pub row_flat : (r : ℕ) → r < n → get_or l (index_of r l) 0 ≡ r

-- flat message m is nested in another: in its only owner, which has a smaller flat number
pub record Enclosed (g : Schema) (m : ℕ) : Type 0 where
  pub word : enclosing g m ≡ flat_of g (owner g (row_of g m)) + 1
  pub owner_below : owner g (row_of g m) < g.messages
  pub owner_owns : owns g (owner g (row_of g m)) (row_of g m) ≡ true
  pub owner-before : flat_of g (owner g (row_of g m)) < m

pub record OneToOne (g : Schema) : Type 0 where
  pub messages : EachOnce (flat_messages g) g.messages
  pub enums : EachOnce (flat_enums g) g.enums
  pub oneofs : EachOnce (flat_oneofs g) g.oneofs
  pub fields : EachOnce (flat_fields g) g.fields
  -- a top-level message has no enclosing one, any other has its owner; no enclosing word passes the number of its message
  pub at_top : (m : ℕ) → m < g.messages → row_of g m < g.top_messages → enclosing g m ≡ 0
  pub enclosed : (m : ℕ) → m < g.messages → g.top_messages ≤ row_of g m → Enclosed g m
  pub enclosing-before : (m : ℕ) → m < g.messages → enclosing g m ≤ m
  -- the next free numbers behind the last message
  pub enums_end_lem : first_enum g g.messages ≡ g.enums
  pub oneofs_end : first_oneof g g.messages ≡ g.oneofs
  pub fields_end_lem : first_field g g.messages + g.file_extensions.count ≡ g.fields
  -- what the file owns itself: its enums stand first, its extensions last
  pub top_enum : (k : ℕ) → k < g.top_enums → get_or (flat_enums g) k 0 ≡ k
  pub file_extension : (k : ℕ) → k < g.file_extensions.count → get_or (flat_fields g) (first_field g g.messages + k) 0 ≡ g.file_extensions.first + k
  -- what flat message m owns stands from its first numbers on: enums, oneofs, regular fields, extensions
  pub own_enum : (m k : ℕ) → m < g.messages → k < (g.enums_in (row_of g m)).count
      → get_or (flat_enums g) (first_enum g m + k) 0 ≡ (g.enums_in (row_of g m)).first + k
  pub own-oneof : (m k : ℕ) → m < g.messages → k < (g.oneofs_in (row_of g m)).count
      → get_or (flat_oneofs g) (first_oneof g m + k) 0 ≡ (g.oneofs_in (row_of g m)).first + k
  pub own-field : (m k : ℕ) → m < g.messages → k < (g.fields_in (row_of g m)).count
      → get_or (flat_fields g) (first_field g m + k) 0 ≡ (g.fields_in (row_of g m)).first + k
  pub own_extension : (m k : ℕ) → m < g.messages → k < (g.extensions_in (row_of g m)).count
      → get_or (flat_fields g) (first_field g m + (g.fields_in (row_of g m)).count + k) 0 ≡ (g.extensions_in (row_of g m)).first + k
