-- Lookups by path: the first message, or the first enum, whose names up the enclosing chain are the ones wanted. Assumes nothing.
use Rattle.std.specs.Prelude.{List, Bool, ℕ, Option, option_map}
use Rattle.lists.specs.Below.{first_below, found_below}
use Rattle.lists.specs.Lists.{same}
use Rattle.image.specs.Schema.{Schema}
use Rattle.image.specs.FullName.{path, message_path, enum_path}
use Rattle.image.specs.declared.rows.Flat.{Flat}

-- the first flat number below n with p, or none
unfoldable pub first_flat : ℕ → (ℕ → Bool) → Option Flat
unfolding first_below
first_flat n p = option_map (λ k. record { 0 = k }) (found_below n (first_below n p n))

-- a path to a message has at most 16 names: its own, and those of 15 messages that enclose it. One more is looked at, so that a
-- message and an enum have paths of one form
unfoldable pub message_by_path : Schema → List ℕ → List ℕ → Option Flat
unfolding first_flat path
message_by_path g links wanted = first_flat g.messages (λ m. same wanted (message_path g links 16 m))

unfoldable pub enum_by_path : Schema → List ℕ → List ℕ → Option Flat
unfolding first_flat path
enum_by_path g links wanted = first_flat g.enums (λ e. same wanted (enum_path g links e))
