-- `link::link::put_marks` meets its contract: the marks of the first m messages are written. Assumes nothing.
use Rattle.link.proofs.RecordLaws.{marked_none, marked_more}
use Rattle.link.proofs.link.put_marks.Goals as goal

pub loop-m-init : goal.loop-m-init
loop-m-init c = let a = c.args in marked_none a.d a.links.now

pub loop-m-preserved : goal.loop-m-preserved
loop-m-preserved c = let a = c.args in marked_more a.d a.links.now c.loop-m.m c.loop-m.invariant c.put.ensures c.mark_words-mark.ensures
