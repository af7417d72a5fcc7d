-- `link::is_initialized_is_always_true::turn` meets its contract. Assumes nothing.
use Rattle.link.proofs.TurnLaws.{Turning}
use Rattle.link.proofs.is_initialized_is_always_true.turn.Given as goal

abbrev pub invariant-loop-e : goal.invariant-loop-e
invariant-loop-e l = Turning l.edges l.m l.k l.old l.e l.d l.changed
