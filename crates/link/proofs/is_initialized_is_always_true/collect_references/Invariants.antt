-- `link::is_initialized_is_always_true::collect_references` meets its contract: the references of the first m messages are put. Assumes nothing.
use Prim.Native.Nat.{◌*◌}
use Rattle.image.specs.Schema.{schema}
use Rattle.image.specs.Flat.{first_field}
use Rattle.link.specs.Edges.{refers_below, Pushed}
use Rattle.link.proofs.is_initialized_is_always_true.collect_references.Given as goal

abbrev pub invariant-loop-m : goal.invariant-loop-m
invariant-loop-m l = Pushed l.initial.edges 0 l.edges l.to l.image.rows.sections.messages.count (2 * first_field (schema l.image) l.m) (refers_below (schema l.image) l.fields l.own l.m)
