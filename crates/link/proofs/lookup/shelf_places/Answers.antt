-- `link::lookup::shelf_places` meets its contract. Assumes nothing.
use mathlib.Core.Path.{◌≡◌, sym, ◌∙◌}
use Rattle.std.proofs.Common.{rules}
use Rattle.std.specs.Prelude.{Err}
use Rattle.link.specs.Lookup.{asked_of}
use Rattle.link.proofs.LookupLaws.{checked_long, checked_broken, checked_fine}
use Rattle.link.proofs.lookup.shelf_places.Goals as goal

pub returns-in_err-judge_lengths : goal.returns-in_err-judge_lengths
returns-in_err-judge_lengths c =
    let h : c.from_residual.result ≡ Err c.in_err-judge_lengths.field-0.0 = search rules in
    h ∙ checked_long (asked_of c.args.lent.now) c.judge_lengths.ensures c.in_err-judge_lengths.was

pub returns-in-Some : goal.returns-in-Some
returns-in-Some c = checked_fine (asked_of c.args.lent.now) c.judge_lengths.ensures c.in_ok-judge_lengths.was (sym c.in-Some.is ∙ c.read_shelf.ensures)

pub returns-in-None : goal.returns-in-None
returns-in-None c = rw c.at.ensures (checked_broken (asked_of c.args.lent.now) c.judge_lengths.ensures c.in_ok-judge_lengths.was (sym c.in-None.is ∙ c.read_shelf.ensures))
