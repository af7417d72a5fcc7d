-- `image::flat::number` meets its contract: messages, enums and oneofs, one behind the other. Assumes nothing.
use mathlib.Core.Path.{◌∙◌}
use Prim.Native.Nat.{◌*◌}
use native.Mathlib.Omega.{arith}
use Rattle.image.specs.Schema.{schema_in}
use Rattle.image.specs.Links.{enum_links}
use Rattle.image.specs.Walk.{Indexed}
use Rattle.image.proofs.IndexLaws.{indexed_by, indexed_kept, links_all}
use Rattle.image.proofs.flat.number.Goals as goal
use Rattle.image.proofs.flat.number.Goals.{After-index_messages}

indexed : (c : After-index_messages) → Indexed (schema_in c.args.laid.now.image.rows.words.now c.args.laid.now.image.rows.sections c.args.laid.now.image.pool.now) c.index_messages.new.links
indexed c =
    indexed_by (schema_in c.args.laid.now.image.rows.words.now c.args.laid.now.image.rows.sections c.args.laid.now.image.pool.now) c.args.links.now (omega (arith, c.requires.pool_in_bounds)) c.index_messages.ensures

pub index_messages-requires : goal.index_messages-requires
index_messages-requires c = record { message_link_width_in_bounds = omega (arith, c.requires.pool_in_bounds) }

pub link_enums-requires : goal.link_enums-requires
link_enums-requires c =
    let len = c.index_messages.auto.links in
    record { indexed = indexed (goal.at.link_enums-requires c).After-index_messages; enum_link_width_in_bounds = omega (arith, c.requires.pool_in_bounds) }

pub link_oneofs-requires : goal.link_oneofs-requires
link_oneofs-requires c =
    let g = (schema_in c.args.laid.now.image.rows.words.now c.args.laid.now.image.rows.sections c.args.laid.now.image.pool.now) in
    let len = c.link_enums.auto.links in
    let all = len ∙ c.index_messages.auto.links in
    record { indexed = indexed_kept g (indexed (goal.at.link_oneofs-requires c).After-index_messages) (g.messages * 10) (enum_links g g.messages) (omega arith) (indexed (goal.at.link_oneofs-requires c).After-index_messages).room len c.link_enums.ensures; pool_in_bounds = omega (arith, c.requires.pool_in_bounds) }

pub returns : goal.returns
returns c = links_all (schema_in c.args.laid.now.image.rows.words.now c.args.laid.now.image.rows.sections c.args.laid.now.image.pool.now) c.args.laid.now.sound c.args.links.now c.requires.pool_in_bounds c.index_messages.ensures c.link_enums.ensures c.link_oneofs.ensures
