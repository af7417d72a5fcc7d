-- `names::bytes::is_identifier_list` meets its contract: a machine that reads a byte at a time answers for the whole. Assumes nothing.
use Rattle.std.proofs.Common.{◌≡◌, drop}
use Rattle.names.specs.Bytes.{is_identifier_list}
use Rattle.names.proofs.BytesLaws.{list_from}
use Rattle.names.proofs.bytes.is_identifier_list.Given as goal

abbrev pub invariant-loop-b : goal.invariant-loop-b
invariant-loop-b l = is_identifier_list l.s ≡ list_from l.fresh (drop l.b-index l.s)
