-- `image::flat::link_inner_enums` meets its contract: the link rows of the enums of the first m messages are written. Assumes nothing.
use Rattle.image.specs.Schema.{schema_in}
use Rattle.image.specs.Walk.{enum_part, enum_links_at}
use Rattle.image.proofs.LinkLaws.{Writing}
use Rattle.image.proofs.flat.link_inner_enums.Given as goal

abbrev pub invariant-loop-m : goal.invariant-loop-m
invariant-loop-m l =
    let g = schema_in l.laid.image.rows.words.now l.laid.image.rows.sections l.laid.image.pool.now in
    Writing (enum_part g) (enum_links_at g) g.messages l.initial.links l.m l.to l.links
