-- `image::flat::index_messages_and_inners` meets its contract: the depth falls at each call, and each turn of the loop goes on with
-- the link rows that the definitions give. All that is said of rows and numbers is in proofs/WalkLaws. Assumes nothing.
use mathlib.Core.Path.{ap, ◌∙◌}
use Prim.Native.Nat.{ℕ, ◌<◌}
use native.Mathlib.Omega.{arith}
use lib.ListN.{length}
use mathlib.Core.List.{List}
use Prim.Native.Nat.{◌≤◌, ◌*◌}
use Rattle.image.specs.Schema.{Schema, schema_in}
use Rattle.image.specs.Links.{message_link_width}
use Rattle.image.specs.Walk.{Entering}
use Rattle.image.specs.declared.flat.Tally.{Tally}
use Rattle.image.proofs.SchemaLaws.{nested_in}
use Rattle.image.proofs.WalkLaws.{Going, Turn, going_start, turn_depth, turn_here, turn_in_words, turn_entering, going_next, going_end}
use Rattle.image.proofs.flat.+index_messages_and_inners.Goals as goal

-- what a turn has
turn : (g : Schema) (first count outside depth : ℕ) (t : Tally) (o₀ : List ℕ) (k : ℕ) (u : Tally) (o : List ℕ)
    → Entering g first count outside depth t → g.messages * message_link_width ≤ length o₀ → Going g first count depth t o₀ k u o → k < count
    → Turn g first count outside depth t o₀ k u o
turn g first count outside depth t o₀ k u o entering room going less = record { entering = entering; room = room; going = going; less = less }

pub loop-k-init : goal.loop-k-init
loop-k-init t c = let a = c.args in going_start (schema_in c.args.image.now.rows.words.now c.args.image.now.rows.sections c.args.image.now.pool.now) a.g.first a.g.count a.outside a.depth a.t a.links.now c.requires.entering

pub put_words-requires : goal.put_words-requires
put_words-requires t c = let x = turn (schema_in c.args.image.now.rows.words.now c.args.image.now.rows.sections c.args.image.now.pool.now) c.args.g.first c.args.g.count c.args.outside c.args.depth c.args.t c.args.links.now c.loop-k.k c.loop-k.u c.loop-k.links c.requires.entering c.requires.message_link_width_in_bounds c.loop-k.invariant c.loop-k-test.true in let n = ap length c.message_link-link.ensures in omega (arith, turn_here _ x, x.room, x.going.len)

pub tally_behind-v-requires : goal.tally_behind-v-requires
tally_behind-v-requires t c = turn_in_words _ (turn (schema_in c.args.image.now.rows.words.now c.args.image.now.rows.sections c.args.image.now.pool.now) c.args.g.first c.args.g.count c.args.outside c.args.depth c.args.t c.args.links.now c.loop-k.k c.loop-k.u c.loop-k.links c.requires.entering c.requires.message_link_width_in_bounds c.loop-k.invariant c.loop-k-test.true)

pub overflow_sub-depth : goal.overflow_sub-depth
overflow_sub-depth t c = turn_depth _ (turn (schema_in c.args.image.now.rows.words.now c.args.image.now.rows.sections c.args.image.now.pool.now) c.args.g.first c.args.g.count c.args.outside c.args.depth c.args.t c.args.links.now c.loop-k.k c.loop-k.u c.loop-k.links c.requires.entering c.requires.message_link_width_in_bounds c.loop-k.invariant c.loop-k-test.true)

-- the call: the depth falls, the nested range may be entered, and the room is the same
pub index_messages_and_inners-u-requires : goal.index_messages_and_inners-u-requires
index_messages_and_inners-u-requires t c =
    let x = turn (schema_in c.args.image.now.rows.words.now c.args.image.now.rows.sections c.args.image.now.pool.now) c.args.g.first c.args.g.count c.args.outside c.args.depth c.args.t c.args.links.now c.loop-k.k c.loop-k.u c.loop-k.links c.requires.entering c.requires.message_link_width_in_bounds c.loop-k.invariant c.loop-k-test.true in
    let d = turn_depth _ x in
    let len = c.put_words.auto.words ∙ x.going.len in
    (omega (arith, c.decreases), (turn_entering _ x c.tally_behind-v.ensures (c.nested_messages-inner.ensures ∙ nested_in c.args.image.now.rows.words.now c.args.image.now.rows.sections c.args.image.now.pool.now _), omega (arith, x.room)))

pub loop-k-preserved : goal.loop-k-preserved
loop-k-preserved t c =
    let x = turn (schema_in c.args.image.now.rows.words.now c.args.image.now.rows.sections c.args.image.now.pool.now) c.args.g.first c.args.g.count c.args.outside c.args.depth c.args.t c.args.links.now c.loop-k.k c.loop-k.u c.loop-k.links c.requires.entering c.requires.message_link_width_in_bounds c.loop-k.invariant c.loop-k-test.true in
    let call = c.index_messages_and_inners-u in
    going_next _ x c.tally_behind-v.ensures (c.nested_messages-inner.ensures ∙ nested_in c.args.image.now.rows.words.now c.args.image.now.rows.sections c.args.image.now.pool.now _) (rw c.message_link-link.ensures at c.put_words.ensures) call.ensures.value call.ensures.links_after (call.auto.links ∙ c.put_words.auto.words)

pub returns : goal.returns
returns t c = let e = going_end (schema_in c.args.image.now.rows.words.now c.args.image.now.rows.sections c.args.image.now.pool.now) c.loop-k.invariant (omega arith) in record { value = e.0; links_after = e.1 }
