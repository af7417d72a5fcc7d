-- `image::flat::index_messages` meets its contract: the top level is entered at number 0. Assumes nothing.
use mathlib.Core.Path.{refl}
use Rattle.image.specs.Schema.{schema_in}
use Rattle.image.proofs.WalkLaws.{entering_top, top_end}
use Rattle.image.proofs.flat.index_messages.Goals as goal

pub index_messages_and_inners-requires : goal.index_messages_and_inners-requires
unfolding schema_in
index_messages_and_inners-requires c =
    let g = schema_in c.args.laid.now.image.rows.words.now c.args.laid.now.image.rows.sections c.args.laid.now.image.pool.now in
    record { entering = rw (c.trailer_word-count.ensures, c.trailer_word-enums.ensures) (entering_top g c.args.laid.now.sound (record { messages = 0; enums = g.top_enums; oneofs = 0; fields = 0 }) refl); message_link_width_in_bounds = c.requires.message_link_width_in_bounds }

pub returns : goal.returns
unfolding schema_in
returns c = let g = schema_in c.args.laid.now.image.rows.words.now c.args.laid.now.image.rows.sections c.args.laid.now.image.pool.now in
    top_end g c.args.laid.now.sound c.args.links.now (rw c.trailer_word-count.ensures at c.index_messages_and_inners.ensures.links_after)
