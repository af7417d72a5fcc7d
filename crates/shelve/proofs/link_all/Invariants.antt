-- `shelve::link_all` is safe: the lent slices keep their lengths. Assumes nothing.
use mathlib.Core.Path.{◌≡◌}
use lib.ListN.{length}
use Rattle.shelve.proofs.link_all.Given as goal

abbrev pub invariant-loop-i : goal.invariant-loop-i
invariant-loop-i g l = (length l.words ≡ length l.initial.words) × (length l.bytes ≡ length l.initial.bytes) × (length l.file ≡ length l.initial.file)
