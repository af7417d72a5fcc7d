-- `image::links::put_words` meets its contract: what is written so far is the front of `src`. Assumes nothing.
use mathlib.Core.Path.{◌≡◌}
use lib.ListN.{length, take}
use Rattle.lists.specs.Splice.{splice}
use Rattle.image.proofs.links.put_words.Given as goal

abbrev pub invariant-loop-j : goal.invariant-loop-j
invariant-loop-j l = (length l.words ≡ length l.initial.words) × (l.words ≡ splice l.initial.words l.at (take l.j l.src))
