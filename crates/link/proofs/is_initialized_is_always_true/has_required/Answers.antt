-- `link::is_initialized_is_always_true::has_required` meets its contract: the search for a required field is one below their number. Assumes nothing.
use mathlib.Core.Path.{sym, ◌∙◌}
use Rattle.std.proofs.Common.{rules, tests}
use Rattle.lists.proofs.StdLaws.{any_of_range}
use Rattle.link.proofs.CauseLaws.{is_required, required_in}
use Rattle.link.proofs.is_initialized_is_always_true.has_required.Goals as goal

pub returns : goal.returns
returns c =
    let i = c.args.image.now in
    let g = c.fields_of-g.result in
    any_of_range _ (is_required i.rows.words.now i.rows.sections i.pool.now g) _ _ _ c.any.ensures.ran (λ x b q k. search (rules, tests))
    ∙ sym (required_in i.rows.words.now i.rows.sections i.pool.now c.args.row.0 g c.fields_of-g.ensures)
