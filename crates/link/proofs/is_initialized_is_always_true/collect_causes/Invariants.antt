-- `link::is_initialized_is_always_true::collect_causes` meets its contract: the words of the first m messages are set. Assumes nothing.
use Rattle.image.specs.Schema.{schema}
use Rattle.image.specs.Places.{shelf_files}
use Rattle.link.specs.Edges.{has_cause}
use Rattle.link.proofs.CauseLaws.{Marking}
use Rattle.link.proofs.is_initialized_is_always_true.collect_causes.Given as goal

abbrev pub invariant-loop-m : goal.invariant-loop-m
invariant-loop-m l = Marking (has_cause (schema l.image) (shelf_files l.shelf l.n) l.fields) l.image.rows.sections.messages.count l.m l.d
