-- `image::owners::mark_held` meets its contract: its loop keeps `Holding`. Assumes nothing.
use Prim.Native.Nat.{◌+◌, ◌<◌}
use mathlib.Core.Path.{◌≡◌, refl}
use mathlib.Core.Bool.{false}
use Rattle.lists.proofs.Cases.{clash}
use Rattle.image.specs.Words.{range_at, section_of, row_at}
use Rattle.image.specs.Layout.{covers}
use Rattle.image.proofs.OwnerLaws.{holding_start, holding_more, holding_twice}
use Rattle.image.proofs.owners.mark_held.Goals as goal
use Rattle.image.proofs.owners.mark_held.Goals.{After-range_at, In-loop-p}

-- the range of a turn
range : (c : After-range_at)
    → let a = c.args in
    c.range_at.result ≡ range_at a.image.now.words.now (row_at a.image.now.sections a.kind c.loop-p.p + a.offset)
range c = rw c.row_at.ensures.0 at c.range_at.ensures

below : (c : In-loop-p)
    → let a = c.args in
    c.loop-p.p < (section_of a.image.now.sections a.kind).count
below c = rw (← c.count_of-p-end.ensures) c.loop-p-test.true

pub loop-p-init : goal.loop-p-init
loop-p-init c = let a = c.args in holding_start a.marks.now (λ q j. covers (range_at a.image.now.words.now (row_at a.image.now.sections a.kind q + a.offset)) j)

pub returns-then-not-mark_range : goal.returns-then-not-mark_range
returns-then-not-mark_range c = let a = c.args in
    let m = rw (range (goal.at.returns-then-not-mark_range c).After-range_at) at c.mark_range.ensures in
    record {
      grown = λ e. clash false e refl;
      twice = λ e. holding_twice c.loop-p.invariant m (section_of a.image.now.sections a.kind).count (below (goal.at.returns-then-not-mark_range c).In-loop-p) (c.if-not-mark_range.true);
    }

pub loop-p-preserved : goal.loop-p-preserved
loop-p-preserved c = let m = rw (range (goal.at.loop-p-preserved c).After-range_at) at c.mark_range.ensures in
    (holding_more c.loop-p.invariant m c.mark_range.auto.marks (c.if-not-mark_range.false))
