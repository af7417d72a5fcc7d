-- `link::put::put` meets its contract: what is written so far is the front of `src`. Assumes nothing.
use Rattle.std.proofs.Common.{rules, arith, List, ◌+◌, take, set, refl, sym, ap, ◌∙◌}
use Rattle.lists.specs.Splice.{splice}
use Rattle.lists.proofs.SpliceLaws.{splice_nil, splice_more, splice_all}
use Rattle.link.proofs.put.put.Goals as goal

pub loop-j-init : goal.loop-j-init
loop-j-init g c = (refl, sym (splice_nil c.args.all.now c.args.at))

pub loop-j-preserved : goal.loop-j-preserved
loop-j-preserved g c =
    let a = c.args in
    let j = c.loop-j.j in
    let x = c.index-src-j.result in
    let front = splice a.all.now a.at (take j a.src.now) in (
      search rules,
      ap (λ (w : List g.row.T.Denot). set w (a.at + j) x) c.loop-j.invariant.1 ∙ ap (set front (a.at + j)) c.index-src-j.is
          ∙ splice_more a.all.now a.at a.src.now j x (omega (arith, c.requires, c.loop-j-test.true)) (omega (arith, c.loop-j-test.true)),
    )

pub returns : goal.returns
returns g c = let a = c.args in c.loop-j.invariant.1 ∙ splice_all a.all.now a.at a.src.now c.loop-j.j (omega (arith, c.loop-j-test.false))
