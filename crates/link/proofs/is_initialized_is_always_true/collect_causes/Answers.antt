-- `link::is_initialized_is_always_true::collect_causes` meets its contract: the words of the first m messages are set. Assumes nothing.
use native.Mathlib.Omega.{arith}
use Rattle.image.proofs.SchemaLaws.{messages_in}
use Rattle.link.proofs.CauseLaws.{marking_start, marking_end}
use Rattle.link.proofs.is_initialized_is_always_true.collect_causes.Goals as goal

pub loop-m-init : goal.loop-m-init
loop-m-init c = marking_start c.args.image.now.rows.sections.messages.count

pub has_cause-requires-clause-m_bound : goal.has_cause-requires-clause-m_bound
has_cause-requires-clause-m_bound c =
    let i = c.args.image.now in
    omega (arith, messages_in i.rows.words.now i.rows.sections i.pool.now, c.loop-m-test.true)

pub bounds-d-m : goal.bounds-d-m
bounds-d-m c =
    let i = c.args.image.now in
    omega (arith, messages_in i.rows.words.now i.rows.sections i.pool.now, c.requires.messages_bound, c.loop-m-test.true, c.loop-m.invariant.len)

pub returns : goal.returns
returns c x h =
    let i = c.args.image.now in
    let n = messages_in i.rows.words.now i.rows.sections i.pool.now in
    marking_end (omega (arith, n, c.requires.messages_bound)) c.loop-m.invariant c.loop-m-test.false x (omega (arith, n, h))
