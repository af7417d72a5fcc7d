-- What counting the members of oneofs does to a list of counts, one for each oneof of a message. Assumes nothing.
use Rattle.std.specs.Prelude.{◌≡◌, List, ℕ, ◌+◌, ◌<◌, ◌^◌, eqb, length, get_or}
use Rattle.lists.specs.Below.{bit}

-- no count is the greatest word, so that each can grow by one
pub record Growable (counts : List ℕ) : Type 0 where
  pub each : (k : ℕ) → k < length counts → get_or counts k 0 + 1 < 2 ^ 32

-- the count of the oneof at place k grew by one where a field's oneof word, its index + 1 or 0, names that place; the others stayed
pub record Joined (before after : List ℕ) (oneof : ℕ) : Type 0 where
  pub each : (k : ℕ) → k < length before → get_or after k 0 ≡ get_or before k 0 + bit (eqb oneof (k + 1))
