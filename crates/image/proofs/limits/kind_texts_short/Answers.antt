-- `image::limits::kind_texts_short` meets its contract. Assumes nothing.
use Rattle.std.proofs.Common.{rules, tests, ◌≡◌}
use Rattle.lists.specs.Below.{all_below}
use Rattle.lists.proofs.StdLaws.{all_of_range}
use Rattle.image.specs.Words.{row_at}
use Rattle.image.specs.Limits.{kind_texts_short, row_texts_short}
use Rattle.image.proofs.limits.kind_texts_short.Goals as goal

pub returns : goal.returns
unfolding kind_texts_short
returns c = let a = c.args in
    let i = a.image.now in
    let h : c.all.result ≡ all_below c.count_of-n.result (λ r. row_texts_short i.rows.words.now i.pool.now a.kind (row_at i.rows.sections a.kind r)) =
    all_of_range _ _ _ _ _ c.all.ensures.ran (λ x b q k. search (rules, tests)) in
    rw c.count_of-n.ensures at h
