-- `link::link::put_marks` meets its contract: the marks of the first m messages are written. Assumes nothing.
use mathlib.Core.Path.{◌≡◌}
use Rattle.link.specs.Phases.{marked_to}
use Rattle.link.proofs.link.put_marks.Given as goal

abbrev pub invariant-loop-m : goal.invariant-loop-m
invariant-loop-m l = l.links ≡ marked_to l.d l.m l.initial.links
