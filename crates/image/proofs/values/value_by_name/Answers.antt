-- `image::values::value_by_name` meets its contract: no value from the present one on has that name. Assumes nothing.
use Prim.Native.Nat.{◌+◌, ◌-◌}
use mathlib.Core.Path.{◌≡◌, sym, ◌∙◌}
use Rattle.lists.specs.Lists.{same}
use Rattle.lists.proofs.StdLaws.{same_pointwise}
use Rattle.image.specs.Schema.{schema_in}
use Rattle.image.specs.Texts.{text_of}
use Rattle.image.specs.Values.{value_by_name}
use Rattle.image.specs.Words.{row_at}
use Rattle.image.proofs.SearchLaws.{last_end, last_hit, last_in, returning_more}
use Rattle.image.proofs.ValueLaws.{value_name_is}
use Rattle.image.specs.declared.rows.Kind.TheVariants.{Value}
use Rattle.image.proofs.values.value_by_name.Goals as goal
use Rattle.image.proofs.values.value_by_name.Goals.{After-eq, After-values_of-g}

tested : (c : After-eq) → c.eq.result ≡ same (text_of c.args.image.now.rows.words.now c.args.image.now.pool.now (row_at c.args.image.now.rows.sections Value (c.values_of-g.result.first + (c.loop-k.k - 1)))) c.args.text.now
tested c = rw (c.text_at.ensures, c.nth_at.ensures.0) at (c.eq.ensures ∙ same_pointwise c.text_at.result.now c.args.text.now)

whole : (c : After-values_of-g) → value_by_name (schema_in c.args.image.now.rows.words.now c.args.image.now.rows.sections c.args.image.now.pool.now) c.args.row.0 c.args.text.now ≡ last_in c.values_of-g.result.count (λ i. same (text_of c.args.image.now.rows.words.now c.args.image.now.pool.now (row_at c.args.image.now.rows.sections Value (c.values_of-g.result.first + i))) c.args.text.now)
whole c =
    let a = c.args in
    value_name_is a.image.now.rows.words.now a.image.now.rows.sections a.image.now.pool.now a.row.0 c.values_of-g.result c.values_of-g.ensures a.text.now

pub returns-then-eq : goal.returns-then-eq
returns-then-eq c = last_hit c.loop-k.invariant c.loop-k-test.true (sym (tested (goal.at.returns-then-eq c).After-eq) ∙ c.if-eq.true) ∙ sym (whole (goal.at.returns-then-eq c).After-values_of-g)

pub loop-k-preserved : goal.loop-k-preserved
loop-k-preserved c = returning_more c.loop-k.invariant c.loop-k-test.true (sym (tested (goal.at.loop-k-preserved c).After-eq) ∙ c.if-eq.false)

pub returns : goal.returns
returns c = last_end c.loop-k.invariant c.loop-k-test.false ∙ sym (whole (goal.at.returns c).After-values_of-g)
