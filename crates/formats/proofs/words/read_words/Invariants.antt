-- `formats::words::read_words` meets its contract: what is read so far are the first words. Assumes nothing.
use mathlib.Core.Path.{◌≡◌}
use lib.ListN.{take}
use Rattle.lists.specs.Splice.{splice}
use Rattle.formats.specs.Words.{words_at}
use Rattle.formats.proofs.words.read_words.Given as goal

abbrev pub invariant-loop-i : goal.invariant-loop-i
invariant-loop-i l = l.words ≡ splice l.initial.words 0 (take l.i (words_at l.file l.at l.n))
