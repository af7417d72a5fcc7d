-- `image::texts::kind_texts_right` meets its contract. Assumes nothing.
use Rattle.std.proofs.Common.{rules, tests, ◌≡◌}
use Rattle.lists.specs.Below.{all_below}
use Rattle.lists.proofs.StdLaws.{all_of_range}
use Rattle.image.specs.Words.{row_at}
use Rattle.image.specs.Texts.{kind_texts_right, row_texts_right}
use Rattle.image.proofs.texts.kind_texts_right.Goals as goal

pub returns : goal.returns
unfolding kind_texts_right
returns c = let a = c.args in
    let i = a.image.now in
    let h : c.all.result ≡ all_below c.count_of-n.result (λ r. row_texts_right i.rows.words.now i.pool.now a.kind (row_at i.rows.sections a.kind r)) =
    all_of_range _ _ _ _ _ c.all.ensures.ran (λ x b q k. search (rules, tests)) in
    rw c.count_of-n.ensures at h
