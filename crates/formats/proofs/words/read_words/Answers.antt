-- `formats::words::read_words` meets its contract: what is read so far are the first words. Assumes nothing.
use native.Mathlib.Omega.{arith}
use mathlib.Core.Path.{sym, ap, ◌∙◌}
use mathlib.Core.List.{List}
use Prim.Native.Nat.{ℕ}
use lib.ListN.{set, take}
use Rattle.lists.specs.Splice.{splice}
use Rattle.lists.proofs.SpliceLaws.{splice_nil, splice_all}
use Rattle.formats.specs.Words.{words_at}
use Rattle.formats.proofs.WordLaws.{length_words, read_more}
use Rattle.formats.proofs.words.read_words.Goals as goal

pub loop-i-init : goal.loop-i-init
loop-i-init c = sym (splice_nil c.args.words.now 0)

pub loop-i-preserved : goal.loop-i-preserved
loop-i-preserved c =
    let a = c.args in
    let i = c.loop-i.i in
    ap (λ (w : List ℕ). set w i c.word_at.result) c.loop-i.invariant
    ∙ ap (set (splice a.words.now 0 (take i (words_at a.file.now a.at a.n))) i) c.word_at.ensures
    ∙ read_more a.words.now a.file.now a.at a.n i (omega arith) (omega arith)

pub returns : goal.returns
returns c =
    let a = c.args in
    c.loop-i.invariant ∙ splice_all a.words.now 0 _ c.loop-i.i (omega (arith, length_words a.file.now a.at a.n))
