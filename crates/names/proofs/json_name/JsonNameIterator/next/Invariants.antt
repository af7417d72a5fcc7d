-- `next` of the derived JSON name's bytes: what is left is derived from the bytes that are left. Assumes nothing.
use Rattle.std.proofs.Common.{◌≡◌, length}
use Rattle.std.specs.Slice.Iter.{iter_rest}
use Rattle.names.specs.Json.{json_left, derived_from}
use Rattle.names.proofs.json_name.JsonNameIterator.next.Given as goal

abbrev pub invariant-loop-b : goal.invariant-loop-b
invariant-loop-b l = json_left l.initial.self ≡ derived_from l.up (iter_rest l.self.bytes)

abbrev pub decreases-loop-b : goal.decreases-loop-b
decreases-loop-b l = length (iter_rest l.self.bytes)
