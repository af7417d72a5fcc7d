-- `image::links::put_front` meets its contract. Assumes nothing.
use mathlib.Core.Path.{sym, ◌∙◌}
use native.Mathlib.Omega.{arith}
use Rattle.lists.proofs.SpliceLaws.{fronted_fits, fronted_short}
use Rattle.image.proofs.links.put_front.Goals as goal

pub returns-then-src-words : goal.returns-then-src-words
returns-then-src-words c = let a = c.args in c.put_words.ensures ∙ sym (fronted_fits a.words.now a.src.now c.if-src-words.true)

pub returns-else-src-words : goal.returns-else-src-words
returns-else-src-words c = let a = c.args in sym (fronted_short a.words.now a.src.now (omega (arith, c.if-src-words.false)))
