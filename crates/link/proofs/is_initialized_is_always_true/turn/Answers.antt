-- `link::is_initialized_is_always_true::turn` meets its contract. Assumes nothing.
use Rattle.std.proofs.Common.{rules}
use Rattle.link.proofs.TurnLaws.{turning_start, turning_hit, turning_skip, stepped-set, stepped_far}
use Rattle.link.proofs.is_initialized_is_always_true.turn.Goals.{then-old-j+then-old-i, then-old-j+else-old-i, else-old-j}
use Rattle.link.proofs.is_initialized_is_always_true.turn.Goals as goal

pub loop-e-init : goal.loop-e-init
loop-e-init c = turning_start (search rules)

pub loop-e-preserved : goal.loop-e-preserved
loop-e-preserved c = let a = c.args in
    let es = a.edges.now in
    let e = c.loop-e.e in
    let ends = c.requires.2.ends e c.loop-e-test.true in
    elim c.if-old-j.branch [
      | then-old-j+then-old-i w ↦ turning_hit c.loop-e.invariant c.loop-e-test.true ends.0 w.if-old-i.true w.if-old-j.true w.d-is w.changed-is
      | then-old-j+else-old-i w ↦ turning_skip c.loop-e.invariant c.loop-e-test.true (stepped-set es a.old a.k e w.if-old-i.false) w.d-is w.changed-is
      | else-old-j w ↦ turning_skip c.loop-e.invariant c.loop-e-test.true (stepped_far es a.old a.k e w.if-old-j.false) w.d-is w.changed-is
    ]
