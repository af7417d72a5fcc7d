-- `image::judge::judge_map_entries` meets its contract: no message before the present one breaks a rule. Assumes nothing.
use Prim.Native.Nat.{ℕ}
use mathlib.Core.Path.{◌≡◌}
use mathlib.Core.List.{List}
use Rattle.std.specs.Prelude.{Ok}
use Rattle.image.specs.Schema.{Schema, schema}
use Rattle.image.specs.Links.{message_row}
use Rattle.image.specs.MapEntry.{entry_lines}
use Rattle.image.specs.Verdict.{Line, first, in_order}
use Rattle.image.proofs.judge.judge_map_entries.Given as goal

-- the lines of message i
abbrev pub lines_of : Schema → List ℕ → ℕ → List Line
lines_of g links i = entry_lines g (message_row links i) i

abbrev pub invariant-loop-m : goal.invariant-loop-m
invariant-loop-m l = first (in_order l.m (lines_of (schema l.image) l.links)) ≡ Ok tt
