-- What rules 3 and 4 say of an image's rows, as facts: what the functions above these rules may rely on. Assumes nothing.
use Rattle.std.specs.Prelude.{◌≡◌, true, ℕ, ◌+◌, ◌<◌, ◌≤◌}
use Rattle.lists.specs.Below.{bit, count_below}
use Rattle.image.specs.Words.{top_level}
use Rattle.image.specs.Layout.{covers}
use Rattle.image.specs.Schema.{Schema}
use Rattle.image.specs.Flat.{owns, shallow}
use Rattle.image.specs.declared.rows.Range.{Range}

-- no range that a message owns leaves a section of n rows
abbrev pub Inside : Schema → (ℕ → Range) → ℕ → Type 0
Inside g owned n = (p : ℕ) → p < g.messages → (owned p).first + (owned p).count ≤ n

-- rule 3: ranges inside their sections; exactly one owner; nested messages stand on higher rows than their parent
pub record LaidOut (g : Schema) : Type 0 where
  pub top_inside : g.top_messages ≤ g.messages
  pub nested-inside : Inside g g.nested g.messages
  pub message_owner : (r : ℕ) → r < g.messages → bit (covers (top_level g.top_messages) r) + count_below g.messages (λ p. owns g p r) ≡ 1
  pub higher : (p r : ℕ) → p < g.messages → owns g p r ≡ true → p < r
  pub top_enums-inside : g.top_enums ≤ g.enums
  pub enums-inside : Inside g g.enums_in g.enums
  pub enum_owner : (r : ℕ) → r < g.enums → bit (covers (top_level g.top_enums) r) + count_below g.messages (λ p. covers (g.enums_in p) r) ≡ 1
  pub oneofs-inside : Inside g g.oneofs_in g.oneofs
  pub oneof-owner : (r : ℕ) → r < g.oneofs → count_below g.messages (λ p. covers (g.oneofs_in p) r) ≡ 1
  pub fields_inside : Inside g g.fields_in g.fields
  pub extensions_inside : Inside g g.extensions_in g.fields
  pub file_inside : g.file_extensions.first + g.file_extensions.count ≤ g.fields
  pub field-owner : (r : ℕ) → r < g.fields → bit (covers g.file_extensions r) + count_below g.messages (λ p. covers (g.fields_in p) r) + count_below g.messages (λ p. covers (g.extensions_in p) r) ≡ 1

-- an image that can be numbered: it obeys rule 3, and rule 4's limits of counts and nesting
pub record Sound (g : Schema) : Type 0 where
  pub layout : LaidOut g
  pub depth : shallow g ≡ true
  pub few-messages : g.messages ≤ 256
  pub few-enums : g.enums ≤ 256
  pub few-oneofs : g.oneofs ≤ 256
  pub few_fields : g.fields ≤ 2048
