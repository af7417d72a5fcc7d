-- `link::fds::push_publics` meets its contract: after i turns the public ones of the first i imports stand on the stack. Assumes nothing.
use lib.ListN.{get_or}
use Rattle.image.specs.Record.{no_file, says}
use Rattle.image.specs.Places.{shelf_files}
use Rattle.link.proofs.PushLaws.{Pushing}
use Rattle.link.proofs.fds.push_publics.Given as goal

abbrev pub invariant-loop-i : goal.invariant-loop-i
invariant-loop-i l =
    Pushing (shelf_files l.shelf l.n) (says (get_or (shelf_files l.shelf l.n) l.f no_file)) l.initial.stack l.top l.stack l.end l.i
