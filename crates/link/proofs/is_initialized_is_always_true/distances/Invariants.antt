-- `link::is_initialized_is_always_true::distances` meets its contract. Assumes nothing.
use mathlib.Core.Path.{◌≡◌}
use Prim.Native.Nat.{◌≤◌, ◌-◌}
use lib.ListN.{length}
use Rattle.link.specs.Edges.{graph_by}
use Rattle.link.proofs.TurnLaws.{All}
use Rattle.link.proofs.RoundLaws.{word_at}
use Rattle.link.proofs.is_initialized_is_always_true.distances.Given as goal

abbrev pub invariant-loop-k : goal.invariant-loop-k
invariant-loop-k l = (l.k - 1 ≤ l.n - 1) × (length l.d ≡ 256) × All l.d (word_at (graph_by l.edges l.m l.cause l.n) l.k)
