-- `link::fds::push_imports` meets its contract: after i turns the last i imports stand on the stack, the last one first. Assumes nothing.
use Rattle.image.specs.Schema.{schema}
use Rattle.image.specs.Places.{shelf_files}
use Rattle.link.specs.Search.{imports_of}
use Rattle.link.proofs.PushLaws.{Reversing}
use Rattle.link.proofs.fds.push_imports.Given as goal

abbrev pub invariant-loop-i : goal.invariant-loop-i
invariant-loop-i l = Reversing (imports_of (shelf_files l.shelf l.n) (schema l.image)) l.initial.stack l.stack l.i
