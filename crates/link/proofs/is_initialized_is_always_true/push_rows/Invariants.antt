-- `link::is_initialized_is_always_true::push_rows` meets its contract: the references of the first k rows are put. Assumes nothing.
use Prim.Native.Nat.{◌*◌}
use Rattle.link.specs.Edges.{Pushed}
use Rattle.link.proofs.EdgeLaws.{rows_new}
use Rattle.link.proofs.is_initialized_is_always_true.push_rows.Given as goal

abbrev pub invariant-loop-k : goal.invariant-loop-k
invariant-loop-k l = Pushed l.initial.edges l.m l.edges l.to l.n (2 * l.k) (rows_new l.home l.own l.fields l.first l.k)
