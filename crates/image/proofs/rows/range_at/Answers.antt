-- `image::rows::range_at_lem` meets its contract. Assumes nothing.
use Prim.Native.Nat.{◌+◌, ◌≤◌}
use native.Mathlib.Omega.{arith}
use lib.ListN.{length}
use Rattle.image.proofs.RowLaws.{word_past}
use Rattle.image.proofs.rows.range_at.Goals as goal

pub returns-then-at-image : goal.returns-then-at-image
returns-then-at-image c = rw c.word_at.ensures

pub returns : goal.returns
returns c = let a = c.args in
    let h : length a.image.now ≤ a.at + 1 = omega arith in
    rw (word_past a.image.now a.at c.if-at-image.false, word_past a.image.now (a.at + 1) h)
