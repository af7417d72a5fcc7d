-- Oneofs: a regular field joins the oneof of its message whose place in it is the field's index; an index beyond joins none, and rows
-- owned as extensions join none. A oneof is synthetic with exactly one member, that member proto3_optional. Assumes nothing.
use Rattle.std.specs.Prelude.{Bool, ◌&&◌, ℕ, ◌+◌, eqb}
use Rattle.lists.specs.Below.{count_below}
use Rattle.image.specs.Schema.{Schema, FieldSays}

-- the regular field at place j of message row r
abbrev pub regular : Schema → ℕ → ℕ → FieldSays
regular g r j = g.field ((g.fields_in r).first + j)

-- it is a member of the oneof at place k. That k is below the message's number of oneofs is for the caller to say: `oneof_links` asks
-- only for those
abbrev pub is_member : Schema → ℕ → ℕ → ℕ → Bool
is_member g r k j = eqb (regular g r j).oneof (k + 1)

-- how many members the oneof has, and how many of them are proto3_optional
abbrev pub member_count : Schema → ℕ → ℕ → ℕ
member_count g r k = count_below (g.fields_in r).count (is_member g r k)

abbrev pub optional_members : Schema → ℕ → ℕ → ℕ
optional_members g r k = count_below (g.fields_in r).count (λ j. is_member g r k j && eqb (regular g r j).optional 1)

abbrev pub synthetic : Schema → ℕ → ℕ → Bool
synthetic g r k = eqb (member_count g r k) 1 && eqb (optional_members g r k) 1
