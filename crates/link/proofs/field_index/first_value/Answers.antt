-- `link::field_index::first_value` meets its contract. Assumes nothing.
use mathlib.Core.Path.{◌∙◌}
use Prim.Native.Nat.{◌+◌}
use Rattle.std.proofs.Common.{rules, tests}
use Rattle.lists.specs.Lists.{same}
use Rattle.lists.proofs.StdLaws.{same_pointwise}
use Rattle.image.specs.Words.{row_at}
use Rattle.image.specs.Texts.{text_of}
use Rattle.image.specs.Schema.{schema_in}
use Rattle.image.specs.declared.rows.Kind.TheVariants.{Value}
use Rattle.image.proofs.SearchLaws.{find_of_range}
use Rattle.link.specs.Field.{first_value}
use Rattle.link.proofs.field_index.first_value.Goals as goal

pub returns : goal.returns
unfolding first_value schema_in
returns c =
    let i = c.args.image.now in
    let g = c.values_of-g.result in
    find_of_range _ (λ k. same (text_of i.rows.words.now i.pool.now (row_at i.rows.sections Value (g.first + k))) c.args.text.now) _ _ _ c.find.ensures.ran (λ x b q k. search (rules, tests, same_pointwise))
    ∙ rw c.values_of-g.ensures
