-- `image::shelf::end_word` meets its contract. Assumes nothing.
use Prim.Native.Nat.{◌+◌, ◌-◌}
use mathlib.Core.Path.{◌≡◌, ap, ◌∙◌}
use native.Mathlib.Omega.{arith}
use lib.ListN.{length}
use Rattle.image.specs.Words.{word_at}
use Rattle.image.specs.Shelf.{end_word}
use Rattle.image.proofs.shelf.end_word.Goals as goal

pub returns-then-words-lt8 : goal.returns-then-words-lt8
unfolding end_word
returns-then-words-lt8 c = let a = c.args in
    let e : a.k ≡ length a.words.now - 8 + a.k = omega arith in
    c.word_at.ensures ∙ ap (word_at a.words.now) e

pub returns : goal.returns
unfolding end_word
returns c = c.word_at-2.ensures
