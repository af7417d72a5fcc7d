-- `image::layout::rows_fit` meets its contract. Assumes nothing.
use Rattle.std.proofs.Common.{rules, tests, ◌≡◌}
use Rattle.lists.specs.Below.{all_below}
use Rattle.lists.proofs.StdLaws.{all_of_range}
use Rattle.image.specs.Words.{row_at}
use Rattle.image.specs.Layout.{row_fits, rows_fit}
use Rattle.image.proofs.layout.rows_fit.Goals as goal

pub returns : goal.returns
unfolding rows_fit
returns c = let a = c.args in
    let i = a.image.now in
    let h : c.all.result ≡ all_below c.count_of-n.result (λ r. row_fits i.words.now i.sections a.pool a.kind (row_at i.sections a.kind r)) =
    all_of_range _ _ _ _ _ c.all.ensures.ran (λ x b q k. search (rules, tests)) in
    rw c.count_of-n.ensures at h
