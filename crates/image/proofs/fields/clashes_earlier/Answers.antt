-- `image::fields::clashes_earlier` meets its contract. Assumes nothing.
use Rattle.std.proofs.Common.{rules, tests, ◌≡◌, sym, ◌∙◌}
use Rattle.lists.specs.Below.{any_below}
use Rattle.lists.proofs.StdLaws.{any_of_range}
use Rattle.image.specs.Clash.{clash}
use Rattle.image.specs.Schema.{field_of}
use Rattle.image.proofs.FieldLaws.{earlier_is, says}
use Rattle.image.proofs.fields.clashes_earlier.Goals as goal

pub returns : goal.returns
returns c = let a = c.args in
    let i = a.image.now in
    let h : c.any.result ≡ any_below a.j (λ k. clash (field_of c.nth_field-f.result i.pool.now) (says i.rows.words.now i.rows.sections i.pool.now c.fields_of-g.result k)) =
    any_of_range _ _ _ _ _ c.any.ensures.ran (λ x b q k. search (rules, tests)) in
    h ∙ sym (earlier_is i.rows.words.now i.rows.sections i.pool.now a.row.0 c.fields_of-g.result c.fields_of-g.ensures a.j c.nth_field-f.result c.nth_field-f.ensures)
