-- `names::name::put_front` meets its contract: what is written so far is the front of `s`. Assumes nothing.
use Rattle.std.proofs.Common.{rules, arith, ◌<◌, ◌+◌, length, get_or, set, List, ℕ, refl, sym, ap, ◌∙◌, zero-add}
use Rattle.lists.proofs.SpliceLaws.{splice_nil, splice_more, splice_all, fronted_fits, fronted_short}
use Rattle.names.proofs.PackageLaws.{front_fits, front_short}
use Rattle.names.proofs.name.put_front.Goals as goal

pub returns-then-out-s : goal.returns-then-out-s
returns-then-out-s c =
    let a = c.args in
    record { value = sym (front_short a.out.now a.s.now c.if-out-s.true); out_after = sym (fronted_short a.out.now a.s.now c.if-out-s.true) }

pub loop-i-init : goal.loop-i-init
loop-i-init c = (refl, sym (splice_nil c.args.out.now 0))

pub loop-i-preserved : goal.loop-i-preserved
loop-i-preserved c =
    let a = c.args in
    let i = c.loop-i.i in
    let room : 0 + i < length a.out.now = omega (arith, c.loop-i-test.true, c.if-out-s.false) in
    (search rules, ap (λ (w : List ℕ). set w i (get_or a.s.now i 0)) c.loop-i.invariant.1 ∙ rw zero-add at (splice_more a.out.now 0 a.s.now i 0 room (omega (arith, c.loop-i-test.true))))

pub returns : goal.returns
returns c =
    let a = c.args in
    let written = c.loop-i.invariant.1 ∙ splice_all a.out.now 0 a.s.now c.loop-i.i (omega (arith, c.loop-i-test.false)) in
    record { value = sym (front_fits a.out.now a.s.now c.if-out-s.false); out_after = written ∙ sym (fronted_fits a.out.now a.s.now c.if-out-s.false) }
