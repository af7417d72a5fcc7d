-- Depth seen from below. In a sound image every message is at most 16 levels down, so that what climbs up the enclosing words of one
-- passes at most 16 messages. Assumes nothing.
use Rattle.std.specs.Prelude.{Bool, false, ◌||◌, ℕ, zero, suc, ltb}
use Rattle.image.specs.Schema.{Schema}
use Rattle.image.specs.Flat.{owner}

-- row r is at most d levels down: at top level, or nested in a row that is at most d - 1 levels down
unfoldable pub level : ℕ → Schema → ℕ → Bool
level zero g r = false
level (suc d) g r = ltb r g.top_messages || level d g (owner g r)
