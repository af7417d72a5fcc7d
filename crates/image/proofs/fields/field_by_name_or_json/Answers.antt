-- `image::fields::field_by_name_or_json` meets its contract. Assumes nothing.
use Rattle.std.proofs.Common.{rules, tests, sym, ◌∙◌}
use Rattle.image.proofs.FieldLaws.{by_either_is, says}
use Rattle.image.proofs.SearchLaws.{find_of_range}
use Rattle.image.specs.Clash.{is_called}
use Rattle.image.proofs.fields.field_by_name_or_json.Goals as goal

pub returns : goal.returns
returns c = let a = c.args in
    let i = a.image.now in
    let g = c.fields_of-g.result in
    find_of_range _ (λ j. is_called (says i.rows.words.now i.rows.sections i.pool.now g j) a.text.now) _ _ _ c.find.ensures.ran (λ x b q k. search (rules, tests)) ∙ sym (by_either_is i.rows.words.now i.rows.sections i.pool.now a.row.0 g c.fields_of-g.ensures a.text.now)
