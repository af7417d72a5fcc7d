-- `link::lookup::open_file` meets its contract. Assumes nothing.
use mathlib.Core.Path.{sym, ◌∙◌}
use Rattle.link.specs.Lookup.{asked_of}
use Rattle.link.proofs.LookupLaws.{opened_refused, opened_bad, opened_there}
use Rattle.link.proofs.lookup.open_file.Goals as goal

pub returns-then-lent-file : goal.returns-then-lent-file
returns-then-lent-file c = opened_bad (asked_of c.args.lent.now) c.args.file (sym c.in-Ok.is ∙ c.shelf_places.ensures) c.if-lent-file.true

pub returns-in-Err : goal.returns-in-Err
returns-in-Err c = opened_refused (asked_of c.args.lent.now) c.args.file (sym c.in-Err.is ∙ c.shelf_places.ensures)

pub returns-else-lent-file : goal.returns-else-lent-file
returns-else-lent-file c = opened_there (asked_of c.args.lent.now) c.args.file (sym c.in-Ok.is ∙ c.shelf_places.ensures) c.if-lent-file.false c.file.ensures
