-- `names::json_name::write_json_name` meets its contract: what is written is a splice of the first bytes of the derived name. Assumes nothing.
use Rattle.std.proofs.Common.{◌≡◌, take, drop}
use Rattle.lists.specs.Splice.{splice}
use Rattle.names.specs.Json.{derived_json_name, json_left}
use Rattle.names.proofs.json_name.write_json_name.Given as goal

abbrev pub invariant-loop-j : goal.invariant-loop-j
invariant-loop-j l =
    let j = l.j-iterator.count in
    let whole = derived_json_name l.name in (json_left l.j-iterator.iter ≡ drop j whole) × (l.out ≡ splice l.initial.out 0 (take j whole))
