-- `tokens::read` meets its contract: what is left of the text gives what is left to read. Assumes nothing.
use mathlib.Core.Path.{ap, ◌∙◌}
use Rattle.tokens.proofs.ReadingLaws.{reading_start, reading_more, reading_end}
use Rattle.tokens.proofs.read.Goals as goal

pub loop-i-init : goal.loop-i-init
loop-i-init g c = reading_start _ _ _ _ _

pub loop-i-preserved : goal.loop-i-preserved
loop-i-preserved g c =
    reading_more c.loop-i.invariant c.loop-i-test.true c.next-t.result c.of_number.result c.set.new.items c.next-t.ensures
    (c.of_number.ensures ∙ ap g.T.FromNumber.of_number c.number.ensures) c.set.ensures

pub returns : goal.returns
returns g c =
    let e = reading_end c.loop-i.invariant c.loop-i-test.false in
    record { value = e.0; items_after = e.1 }
