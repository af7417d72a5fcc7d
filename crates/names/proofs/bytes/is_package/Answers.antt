-- `names::bytes::is_package` meets its contract. Assumes nothing.
use Rattle.lists.proofs.StdLaws.{empty_length}
use Rattle.names.specs.Bytes.{is_package}
use Rattle.names.proofs.bytes.is_package.Goals as goal

pub returns-then-is_empty : goal.returns-then-is_empty
unfolding is_package
returns-then-is_empty c = simp (← empty_length c.args.s.now, ← c.is_empty.ensures, c.if-is_empty.true)

pub returns-else-is_empty : goal.returns-else-is_empty
unfolding is_package
returns-else-is_empty c = simp (← empty_length c.args.s.now, ← c.is_empty.ensures, c.if-is_empty.false, c.is_identifier_list.ensures)
