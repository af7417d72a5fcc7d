-- `formats::words::put_words` meets its contract: what is written so far are the bytes of the first words. Assumes nothing.
use mathlib.Core.Path.{◌≡◌}
use lib.ListN.{take}
use Rattle.lists.specs.Splice.{splice}
use Rattle.formats.specs.Words.{in_bytes}
use Rattle.formats.proofs.words.put_words.Given as goal

abbrev pub invariant-loop-i : goal.invariant-loop-i
invariant-loop-i l = l.out ≡ splice l.initial.out l.at (in_bytes (take l.i l.words))
