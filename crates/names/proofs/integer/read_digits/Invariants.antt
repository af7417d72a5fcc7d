-- `names::integer::read_digits` meets its contract: what is left answers for the whole. Assumes nothing.
use Rattle.std.proofs.Common.{◌≡◌, drop}
use Rattle.names.specs.Integer.{decimal_from, decimal}
use Rattle.names.proofs.integer.read_digits.Given as goal

abbrev pub invariant-loop-b : goal.invariant-loop-b
invariant-loop-b l = decimal l.s ≡ decimal_from l.n (drop l.b-index l.s)
