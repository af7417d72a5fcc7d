-- `link::is_initialized_is_always_true::seed` meets its contract. Assumes nothing.
use Rattle.link.proofs.TurnLaws.{Seeding}
use Rattle.link.proofs.is_initialized_is_always_true.seed.Given as goal

abbrev pub invariant-loop-i : goal.invariant-loop-i
invariant-loop-i l = Seeding l.cause l.n l.i l.d
