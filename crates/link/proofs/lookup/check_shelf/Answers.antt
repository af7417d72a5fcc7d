-- `link::lookup::check_shelf` meets its contract. Assumes nothing.
use mathlib.Core.Path.{sym, ◌∙◌}
use Rattle.image.proofs.VerdictLaws.{judged_stop, judged_go}
use Rattle.link.specs.Lookup.{asked_of, shelf_verdict}
use Rattle.link.proofs.LookupLaws.{checked_long, checked_broken, checked_fine}
use Rattle.link.proofs.lookup.check_shelf.Goals as goal

pub returns-in-Err : goal.returns-in-Err
returns-in-Err c = let a = asked_of c.args.lent.now in
    rw (judged_stop (shelf_verdict a) _ (checked_long a c.judge_lengths.ensures c.in-Err.is), ← c.read_shelf-places.ensures)

pub returns-in-Some : goal.returns-in-Some
returns-in-Some c = let a = asked_of c.args.lent.now in
    rw ((judged_go (shelf_verdict a) (checked_fine a c.judge_lengths.ensures c.in_default.is (sym c.in-Some.is ∙ c.read_shelf-places.ensures))).0, ← c.read_shelf-places.ensures)

pub returns-in-None : goal.returns-in-None
returns-in-None c = let a = asked_of c.args.lent.now in
    rw (c.at.ensures, judged_stop (shelf_verdict a) _ (checked_broken a c.judge_lengths.ensures c.in_default.is (sym c.in-None.is ∙ c.read_shelf-places.ensures)), ← c.read_shelf-places.ensures)
