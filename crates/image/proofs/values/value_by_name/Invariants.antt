-- `image::values::value_by_name` meets its contract: no value from the present one on has that name. Assumes nothing.
use Prim.Native.Nat.{◌+◌}
use Rattle.lists.specs.Lists.{same}
use Rattle.image.specs.Texts.{text_of}
use Rattle.image.specs.Words.{row_at}
use Rattle.image.proofs.SearchLaws.{Returning}
use Rattle.image.specs.declared.rows.Kind.TheVariants.{Value}
use Rattle.image.proofs.values.value_by_name.Given as goal

abbrev pub invariant-loop-k : goal.invariant-loop-k
invariant-loop-k l = Returning l.g.count (λ i. same (text_of l.image.rows.words.now l.image.pool.now (row_at l.image.rows.sections Value (l.g.first + i))) l.text) l.k
