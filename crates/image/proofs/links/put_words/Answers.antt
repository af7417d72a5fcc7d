-- `image::links::put_words` meets its contract: what is written so far is the front of `src`. Assumes nothing.
use Rattle.std.proofs.Common.{rules, arith, List, ℕ, ◌+◌, get_or, set, refl, sym, ap, ◌∙◌}
use Rattle.lists.proofs.SpliceLaws.{splice_nil, splice_more, splice_all}
use Rattle.image.proofs.links.put_words.Goals as goal

pub loop-j-init : goal.loop-j-init
loop-j-init c = (refl, sym (splice_nil c.args.words.now c.args.at))

pub loop-j-preserved : goal.loop-j-preserved
loop-j-preserved c =
    let a = c.args in
    let j = c.loop-j.j in
    (search rules, ap (λ (w : List ℕ). set w (a.at + j) (get_or a.src.now j 0)) c.loop-j.invariant.1 ∙ splice_more a.words.now a.at a.src.now j 0 (omega (arith, c.requires, c.loop-j-test.true)) (omega (arith, c.loop-j-test.true)))

pub returns : goal.returns
returns c = let a = c.args in c.loop-j.invariant.1 ∙ splice_all a.words.now a.at a.src.now c.loop-j.j (omega (arith, c.loop-j-test.false))
