-- `link::is_initialized_is_always_true::collect_references` meets its contract: the references of the first m messages are put. Assumes nothing.
use Prim.Native.Nat.{◌+◌, ◌*◌, ◌<◌, ◌≤◌}
use native.Mathlib.Omega.{arith}
use lib.ListN.{get_or}
use Rattle.image.specs.Schema.{schema}
use Rattle.image.specs.Flat.{first_field}
use Rattle.image.proofs.SchemaLaws.{messages_in}
use Rattle.image.proofs.FieldListLaws.{fields_within}
use Rattle.link.proofs.EdgeLaws.{messages_none, messages_next, messages_all}
use Rattle.link.proofs.CauseLaws.{link_count, link_refers, fields_behind}
use Rattle.link.proofs.is_initialized_is_always_true.collect_references.Goals as goal

pub loop-m-init : goal.loop-m-init
loop-m-init c = let a = c.args in
    messages_none (schema a.image.now) a.fields.now a.own a.edges.now a.image.now.rows.sections.messages.count (2 * first_field (schema a.image.now) 0)

pub push_rows-to-requires-clause-count_in_bounds : goal.push_rows-to-requires-clause-count_in_bounds
push_rows-to-requires-clause-count_in_bounds c =
    let a = c.args in
    let g = schema a.image.now in
    let size = messages_in a.image.now.rows.words.now a.image.now.rows.sections a.image.now.pool.now in
    let less : c.loop-m.m < g.messages = omega (arith, size, c.loop-m-test.true) in
    let r = c.message_link_row-link.result in
    let behind : first_field g c.loop-m.m + get_or r 5 0 ≤ first_field g (c.loop-m.m + 1) =
    omega (arith, fields_behind g c.requires.sound c.loop-m.m less, link_count g c.requires.indexed c.loop-m.m less c.message_link_row-link.ensures) in
    omega (arith, behind, fields_within g c.requires.sound (c.loop-m.m + 1) (omega (arith, less)), c.loop-m.auto.edges, c.loop-m.invariant.few, c.requires.fields_in_bounds)

pub loop-m-preserved : goal.loop-m-preserved
loop-m-preserved c =
    let a = c.args in
    let g = schema a.image.now in
    let size = messages_in a.image.now.rows.words.now a.image.now.rows.sections a.image.now.pool.now in
    let less : c.loop-m.m < g.messages = omega (arith, size, c.loop-m-test.true) in
    let r = c.message_link_row-link.result in
    let behind : first_field g c.loop-m.m + get_or r 5 0 ≤ first_field g (c.loop-m.m + 1) =
    omega (arith, fields_behind g c.requires.sound c.loop-m.m less, link_count g c.requires.indexed c.loop-m.m less c.message_link_row-link.ensures) in
    messages_next g a.fields.now a.own c.loop-m.m (get_or r 4 0) (get_or r 5 0) (2 * first_field g (c.loop-m.m + 1)) c.loop-m.invariant c.push_rows-to.ensures
    (link_refers g c.requires.indexed c.loop-m.m less c.message_link_row-link.ensures a.fields.now) (omega (arith, behind))

pub returns : goal.returns
returns c =
    let a = c.args in
    let g = schema a.image.now in
    let n = messages_in a.image.now.rows.words.now a.image.now.rows.sections a.image.now.pool.now in
    messages_all g a.fields.now a.own a.image.now.rows.sections.messages.count c.loop-m.m (g.fields * 2) n (omega (arith, c.loop-m.auto.m-end, c.loop-m-test.false))
    (omega (arith, fields_within g c.requires.sound c.loop-m.m (omega (arith, n, c.loop-m.auto.m-end)))) c.loop-m.invariant
