-- `link::is_initialized_is_always_true::seed` meets its contract. Assumes nothing.
use Rattle.link.proofs.TurnLaws.{seeding_start, seeding_hit, seeding_miss}
use Rattle.link.proofs.is_initialized_is_always_true.seed.Goals as goal
use Rattle.link.proofs.is_initialized_is_always_true.seed.Goals.{then-cause-i-ne0, else-cause-i-ne0}

pub loop-i-init : goal.loop-i-init
loop-i-init c = seeding_start

pub loop-i-preserved : goal.loop-i-preserved
loop-i-preserved c = let b = c.loop-i-test.true in
    elim c.if-cause-i-ne0.branch [
      | then-cause-i-ne0 w ↦ seeding_hit c.requires c.loop-i.invariant b w.if-cause-i-ne0.true w.d-is
      | else-cause-i-ne0 w ↦ seeding_miss c.loop-i.invariant b w.if-cause-i-ne0.false w.d-is
    ]
