-- `image::values::value_by_number` meets its contract: no value from the present one on has that number. Assumes nothing.
use Prim.Native.Nat.{◌+◌, ◌-◌}
use mathlib.Core.Path.{◌≡◌, sym, ◌∙◌}
use lib.Dec.{eqb}
use borrow.Author.Tests.{eq-eqb, ne_eqb}
use Rattle.image.specs.Schema.{schema_in}
use Rattle.image.specs.Values.{value_by_number}
use Rattle.image.specs.Words.{number_at, row_at, word_at}
use Rattle.image.proofs.SearchLaws.{last_end, last_hit, last_in, returning_more}
use Rattle.image.proofs.ValueLaws.{value_number_is}
use Rattle.image.specs.declared.rows.Kind.TheVariants.{Value}
use Rattle.image.proofs.values.value_by_number.Goals as goal
use Rattle.image.proofs.values.value_by_number.Goals.{After-values_of-g, After-word_at}

tested : (c : After-word_at) → eqb c.word_at.result c.args.number ≡ eqb (word_at c.args.image.now.rows.words.now (number_at (row_at c.args.image.now.rows.sections Value (c.values_of-g.result.first + (c.loop-k.k - 1))))) c.args.number
tested c = rw (c.word_at.ensures, c.nth_at-at.ensures.0)

whole : (c : After-values_of-g) → value_by_number (schema_in c.args.image.now.rows.words.now c.args.image.now.rows.sections c.args.image.now.pool.now) c.args.row.0 c.args.number ≡ last_in c.values_of-g.result.count (λ i. eqb (word_at c.args.image.now.rows.words.now (number_at (row_at c.args.image.now.rows.sections Value (c.values_of-g.result.first + i)))) c.args.number)
whole c =
    let a = c.args in
    value_number_is a.image.now.rows.words.now a.image.now.rows.sections a.image.now.pool.now a.row.0 c.values_of-g.result c.values_of-g.ensures a.number

pub returns-then-word_at-number : goal.returns-then-word_at-number
returns-then-word_at-number c = last_hit c.loop-k.invariant c.loop-k-test.true (sym (tested (goal.at.returns-then-word_at-number c).After-word_at) ∙ eq-eqb _ _ c.if-word_at-number.true) ∙ sym (whole (goal.at.returns-then-word_at-number c).After-values_of-g)

pub loop-k-preserved : goal.loop-k-preserved
loop-k-preserved c = returning_more c.loop-k.invariant c.loop-k-test.true (sym (tested (goal.at.loop-k-preserved c).After-word_at) ∙ ne_eqb _ _ c.if-word_at-number.false)

pub returns : goal.returns
returns c = last_end c.loop-k.invariant c.loop-k-test.false ∙ sym (whole (goal.at.returns c).After-values_of-g)
