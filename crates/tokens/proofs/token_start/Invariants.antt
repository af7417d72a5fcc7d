-- `tokens::token_start` meets its contract: from each place on the answer is the same. Assumes nothing.
use Prim.Native.Nat.{◌+◌}
use mathlib.Core.Path.{◌≡◌}
use lib.ListN.{drop}
use Rattle.tokens.specs.Tokens.{passed_over, token_start}
use Rattle.tokens.proofs.token_start.Given as goal

abbrev pub invariant-loop-i : goal.invariant-loop-i
invariant-loop-i l = token_start l.text l.at ≡ l.i + passed_over l.comment (drop l.i l.text)
