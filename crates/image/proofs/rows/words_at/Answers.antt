-- `image::rows::words_at` meets its contract: all is there; or what is there is copied, and the rest was 0 before. Assumes nothing.
use mathlib.Core.Path.{sym, ap, ◌∙◌}
use lib.ListN.{length}
use Rattle.image.proofs.RowLaws.{words_filled, words_whole}
use Rattle.image.proofs.rows.words_at.Goals as goal

pub returns-in-Some : goal.returns-in-Some
returns-in-Some g c =
    let whole = c.in-Some.ensures.cases in
    let there = c.part-there.ensures in
    whole.same ∙ there ∙ words_whole c.args.words.now c.args.at g.row.N (sym (ap length there) ∙ whole.long)

pub returns : goal.returns
returns g c = rw (c.copy_from_slice.ensures.after, c.part-there.ensures) (words_filled c.args.words.now c.args.at g.row.N)
