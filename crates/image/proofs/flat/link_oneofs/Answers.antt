-- `image::flat::link_oneofs` meets its contract: the link rows of the oneofs of the first m messages are written. Assumes nothing.
use mathlib.Core.Path.{◌≡◌, sym, ap, ◌∙◌}
use Prim.Native.Nat.{ℕ, ◌+◌, ◌*◌, ◌<◌, ◌≤◌}
use native.Mathlib.Omega.{arith}
use lib.ListN.{length}
use Rattle.lists.specs.Splice.{splice}
use Rattle.image.specs.Words.{oneofs_of}
use Rattle.image.specs.Schema.{schema_in}
use Rattle.image.specs.Flat.{row_of}
use Rattle.image.specs.Walk.{oneof_row, oneof_part, oneof_links_at}
use Rattle.image.specs.declared.rows.Range.{Range}
use Rattle.image.proofs.SchemaLaws.{messages_in, enum_count_in, oneofs_in_lem}
use Rattle.image.proofs.LinkLaws.{run, writing_start, writing_next, writing_end}
use Rattle.image.proofs.IndexLaws.{writing_row, oneof_parts, oneof_next, oneof_fits, oneof_words_start, few-oneofs_in}
use Rattle.image.proofs.flat.link_oneofs.Goals as goal
use Rattle.image.proofs.flat.link_oneofs.Goals.{After-oneofs_of-g}

less : (c : After-oneofs_of-g) → c.loop-m.m < (schema_in c.args.laid.now.image.rows.words.now c.args.laid.now.image.rows.sections c.args.laid.now.image.pool.now).messages
less c =
    let a = c.args in
    omega (arith, messages_in a.laid.now.image.rows.words.now a.laid.now.image.rows.sections a.laid.now.image.pool.now, c.loop-m-test.true)

-- the row that the turn reads is that of message m
row : (c : After-oneofs_of-g) → c.message_row-row.result.0 ≡ row_of (schema_in c.args.laid.now.image.rows.words.now c.args.laid.now.image.rows.sections c.args.laid.now.image.pool.now) c.loop-m.m
row c =
    let g = (schema_in c.args.laid.now.image.rows.words.now c.args.laid.now.image.rows.sections c.args.laid.now.image.pool.now) in
    let high = oneof_fits g c.args.laid.now.sound 0 (omega arith) in
    c.message_row-row.ensures ∙ writing_row g c.requires.indexed c.loop-m.invariant (omega arith) (omega (arith, c.requires.pool_in_bounds)) (less c)

own : (c : After-oneofs_of-g) → c.oneofs_of-g.result ≡ (schema_in c.args.laid.now.image.rows.words.now c.args.laid.now.image.rows.sections c.args.laid.now.image.pool.now).oneofs_in (row_of (schema_in c.args.laid.now.image.rows.words.now c.args.laid.now.image.rows.sections c.args.laid.now.image.pool.now) c.loop-m.m)
own c =
    let a = c.args in
    c.oneofs_of-g.ensures ∙ ap (oneofs_of a.laid.now.image.rows.words.now a.laid.now.image.rows.sections) (row c) ∙ oneofs_in_lem a.laid.now.image.rows.words.now a.laid.now.image.rows.sections a.laid.now.image.pool.now _

-- where the part behind it goes, and that there is room for this one
fits : (c : After-oneofs_of-g) →
    (oneof_links_at (schema_in c.args.laid.now.image.rows.words.now c.args.laid.now.image.rows.sections c.args.laid.now.image.pool.now) (c.loop-m.m + 1) ≡ c.loop-m.to + c.oneofs_of-g.result.count * 4) × (oneof_links_at (schema_in c.args.laid.now.image.rows.words.now c.args.laid.now.image.rows.sections c.args.laid.now.image.pool.now) (c.loop-m.m + 1) ≤ length c.args.links.now)
fits c =
    let ok = c.args.laid.now.sound in
    let n = ap (λ (x : Range). x.count) (own c) in
    (omega (arith, oneof_next (schema_in c.args.laid.now.image.rows.words.now c.args.laid.now.image.rows.sections c.args.laid.now.image.pool.now) ok c.loop-m.m (less c), c.loop-m.invariant.place), omega (arith, oneof_fits (schema_in c.args.laid.now.image.rows.words.now c.args.laid.now.image.rows.sections c.args.laid.now.image.pool.now) ok (c.loop-m.m + 1) (omega (arith, less c)), c.requires.pool_in_bounds))

pub loop-m-init : goal.loop-m-init
loop-m-init c = let a = c.args in
    let g = schema_in a.laid.now.image.rows.words.now a.laid.now.image.rows.sections a.laid.now.image.pool.now in
    writing_start (oneof_part g) (oneof_links_at g) g.messages (oneof_parts g c.args.laid.now.sound) a.links.now (omega (arith, oneof_words_start g c.args.laid.now.sound, messages_in a.laid.now.image.rows.words.now a.laid.now.image.rows.sections a.laid.now.image.pool.now, enum_count_in a.laid.now.image.rows.words.now a.laid.now.image.rows.sections a.laid.now.image.pool.now))

pub put_oneof_links-requires : goal.put_oneof_links-requires
put_oneof_links-requires c =
    let f = fits (goal.at.put_oneof_links-requires c).After-oneofs_of-g in
    let n = ap (λ (x : Range). x.count) (own (goal.at.put_oneof_links-requires c).After-oneofs_of-g) in
    record { row_bound = rw (row (goal.at.put_oneof_links-requires c).After-oneofs_of-g) (few-oneofs_in (schema_in c.args.laid.now.image.rows.words.now c.args.laid.now.image.rows.sections c.args.laid.now.image.pool.now) c.args.laid.now.sound c.loop-m.m (less (goal.at.put_oneof_links-requires c).After-oneofs_of-g)); oneof_link_width_in_bounds = rw (row (goal.at.put_oneof_links-requires c).After-oneofs_of-g) (omega (arith, f.0, f.1, c.loop-m.invariant.len)) }

pub overflow_add-to-in-loop-m : goal.overflow_add-to-in-loop-m
overflow_add-to-in-loop-m c = let f = fits (goal.at.overflow_add-to-in-loop-m c).After-oneofs_of-g in omega (arith, f.0, f.1, c.well_formed)

pub loop-m-preserved : goal.loop-m-preserved
loop-m-preserved c = let g = (schema_in c.args.laid.now.image.rows.words.now c.args.laid.now.image.rows.sections c.args.laid.now.image.pool.now) in
    writing_next (oneof_part g) (oneof_links_at g) g.messages (oneof_parts g c.args.laid.now.sound) c.args.links.now c.loop-m.invariant (less (goal.at.loop-m-preserved c).After-oneofs_of-g) (fits (goal.at.loop-m-preserved c).After-oneofs_of-g).1 (sym (fits (goal.at.loop-m-preserved c).After-oneofs_of-g).0) c.put_oneof_links.auto.links
    (c.put_oneof_links.ensures ∙ ap (λ (r : ℕ). splice c.loop-m.links c.loop-m.to (run (oneof_row g c.loop-m.m r) 0 (g.oneofs_in r).count)) (row (goal.at.loop-m-preserved c).After-oneofs_of-g))

pub returns : goal.returns
returns c = let g = schema_in c.args.laid.now.image.rows.words.now c.args.laid.now.image.rows.sections c.args.laid.now.image.pool.now in
    writing_end (oneof_part g) (oneof_links_at g) g.messages (oneof_parts g c.args.laid.now.sound) c.args.links.now c.loop-m.invariant (omega (arith, messages_in c.args.laid.now.image.rows.words.now c.args.laid.now.image.rows.sections c.args.laid.now.image.pool.now, c.loop-m-test.false))
