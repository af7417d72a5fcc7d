-- `image::fields::field_by_number` meets its contract. Assumes nothing.
use Rattle.std.proofs.Common.{rules, tests, sym, ◌∙◌, eqb}
use Rattle.image.proofs.FieldLaws.{by_number_is, says}
use Rattle.image.proofs.SearchLaws.{find_of_range}
use Rattle.image.proofs.fields.field_by_number.Goals as goal

pub returns : goal.returns
returns c = let a = c.args in
    let i = a.image.now in
    let g = c.fields_of-g.result in
    find_of_range _ (λ j. eqb (says i.rows.words.now i.rows.sections i.pool.now g j).number a.number) _ _ _ c.find.ensures.ran (λ x b q k. search (rules, tests)) ∙ sym (by_number_is i.rows.words.now i.rows.sections i.pool.now a.row.0 g c.fields_of-g.ensures a.number)
