-- `image::values::value_by_number` meets its contract: no value from the present one on has that number. Assumes nothing.
use Prim.Native.Nat.{◌+◌}
use lib.Dec.{eqb}
use Rattle.image.specs.Words.{number_at, row_at, word_at}
use Rattle.image.proofs.SearchLaws.{Returning}
use Rattle.image.specs.declared.rows.Kind.TheVariants.{Value}
use Rattle.image.proofs.values.value_by_number.Given as goal

abbrev pub invariant-loop-k : goal.invariant-loop-k
invariant-loop-k l = Returning l.g.count (λ i. eqb (word_at l.image.rows.words.now (number_at (row_at l.image.rows.sections Value (l.g.first + i)))) l.number) l.k
