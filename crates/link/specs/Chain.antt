-- Marks: a message may be incomplete exactly if a chain of zero or more references leads from it to a message with a cause of its own, and
-- its distance is the length of the shortest chain. Assumes nothing.
use Rattle.std.specs.Prelude.{◌≡◌, Bool, true, ◌&&◌, ℕ, zero, suc, ◌<◌, ◌≤◌}
use Rattle.lists.specs.Below.{any_below, first_below}
use Rattle.image.specs.LinkTests.{no_distance}

-- the messages of a file: n of them, which have a cause of their own, and which refers to which
pub record Graph : Type 0 where
  pub n : ℕ
  pub cause : ℕ → Bool
  pub refers : ℕ → ℕ → Bool

-- a chain of k references from message i to one with a cause of its own
pub data Chain (g : Graph) : ℕ → ℕ → Type 0 where
  here : {i : ℕ} → g.cause i ≡ true → Chain g zero i
  step : {k i j : ℕ} → j < g.n → g.refers i j ≡ true → Chain g k j → Chain g (suc k) i

-- some chain
abbrev pub Marked : Graph → ℕ → Type 0
Marked g i = (k : ℕ) × Chain g k i

-- k is the length of the shortest chain
pub record Distance (g : Graph) (i k : ℕ) : Type 0 where
  pub chain : Chain g k i
  pub least : (l : ℕ) → Chain g l i → k ≤ l

-- ---- as functions

-- the word of a message that has no chain: it is always initialised
abbrev pub no_chain : ℕ
no_chain = no_distance

-- there is a chain of exactly k
unfoldable pub reach : Graph → ℕ → ℕ → Bool
reach g zero i = g.cause i
reach g (suc k) i = any_below g.n (λ j. g.refers i j && reach g k j)

-- the least length of a chain from i, of those below the number of messages, or none. A shortest chain meets no message twice, so no length from
-- that number on needs to be tried: proofs/ChainTheorems has that this is the distance where i is marked, and none where it is not
unfoldable pub distance : Graph → ℕ → ℕ
unfolding first_below reach
distance g i = first_below g.n (λ k. reach g k i) no_chain
