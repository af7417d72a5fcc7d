-- `image::flat::list_message_fields` meets its contract: the fields of the first m messages are listed. Assumes nothing.
use Rattle.image.specs.Schema.{schema_in}
use Rattle.image.specs.Flat.{first_field}
use Rattle.image.specs.Walk.{field_part}
use Rattle.image.specs.Record.{containers_in}
use Rattle.image.proofs.LinkLaws.{Writing}
use Rattle.image.proofs.flat.list_message_fields.Given as goal

abbrev pub invariant-loop-m : goal.invariant-loop-m
invariant-loop-m l =
    let g = schema_in l.laid.image.rows.words.now l.laid.image.rows.sections l.laid.image.pool.now in
    Writing (field_part g) (first_field g) g.messages l.initial.homes l.m l.to l.homes × Writing (containers_in g) (first_field g) g.messages l.initial.holders l.m l.to l.holders
