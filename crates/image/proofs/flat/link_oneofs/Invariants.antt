-- `image::flat::link_oneofs` meets its contract: the link rows of the oneofs of the first m messages are written. Assumes nothing.
use Rattle.image.specs.Schema.{schema_in}
use Rattle.image.specs.Walk.{oneof_part, oneof_links_at}
use Rattle.image.proofs.LinkLaws.{Writing}
use Rattle.image.proofs.flat.link_oneofs.Given as goal

abbrev pub invariant-loop-m : goal.invariant-loop-m
invariant-loop-m l =
    let g = schema_in l.laid.image.rows.words.now l.laid.image.rows.sections l.laid.image.pool.now in
    Writing (oneof_part g) (oneof_links_at g) g.messages l.initial.links l.m l.to l.links
