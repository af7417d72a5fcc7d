-- `image::flat::link_inner_enums` meets its contract: the link rows of the enums of the first m messages are written. Assumes nothing.
use mathlib.Core.Path.{◌≡◌, sym, ap, ◌∙◌}
use Prim.Native.Nat.{ℕ, ◌+◌, ◌*◌, ◌<◌, ◌≤◌}
use native.Mathlib.Omega.{arith}
use lib.ListN.{length}
use Rattle.lists.specs.Splice.{splice}
use Rattle.image.specs.Words.{enums_of}
use Rattle.image.specs.Schema.{schema_in}
use Rattle.image.specs.Flat.{row_of}
use Rattle.image.specs.Links.{enum_link}
use Rattle.image.specs.Walk.{enum_part, enum_links_at}
use Rattle.image.specs.declared.rows.Range.{Range}
use Rattle.image.proofs.SchemaLaws.{messages_in, enums_in_lem}
use Rattle.image.proofs.LinkLaws.{run, writing_start, writing_next, writing_end}
use Rattle.image.proofs.IndexLaws.{writing_row, enum_parts, enum_next, enum_mono, enum_rows_fit}
use Rattle.image.proofs.flat.link_inner_enums.Goals as goal
use Rattle.image.proofs.flat.link_inner_enums.Goals.{After-enums_of-g}

less : (c : After-enums_of-g) → c.loop-m.m < (schema_in c.args.laid.now.image.rows.words.now c.args.laid.now.image.rows.sections c.args.laid.now.image.pool.now).messages
less c =
    let a = c.args in
    omega (arith, messages_in a.laid.now.image.rows.words.now a.laid.now.image.rows.sections a.laid.now.image.pool.now, c.loop-m-test.true)

-- the enums that the turn writes are those of message m
own : (c : After-enums_of-g) → c.enums_of-g.result ≡ (schema_in c.args.laid.now.image.rows.words.now c.args.laid.now.image.rows.sections c.args.laid.now.image.pool.now).enums_in (row_of (schema_in c.args.laid.now.image.rows.words.now c.args.laid.now.image.rows.sections c.args.laid.now.image.pool.now) c.loop-m.m)
own c =
    let a = c.args in
    let g = (schema_in c.args.laid.now.image.rows.words.now c.args.laid.now.image.rows.sections c.args.laid.now.image.pool.now) in
    let high = enum_mono g c.args.laid.now.sound 0 (omega arith) in
    let row = c.message_row.ensures ∙ writing_row g c.requires.indexed c.loop-m.invariant (omega arith) (omega (arith, c.requires.pool_in_bounds)) (less c) in
    c.enums_of-g.ensures ∙ ap (enums_of a.laid.now.image.rows.words.now a.laid.now.image.rows.sections) row ∙ enums_in_lem a.laid.now.image.rows.words.now a.laid.now.image.rows.sections a.laid.now.image.pool.now _

-- where the part behind it goes, and that there is room for this one
fits : (c : After-enums_of-g) →
    (enum_links_at (schema_in c.args.laid.now.image.rows.words.now c.args.laid.now.image.rows.sections c.args.laid.now.image.pool.now) (c.loop-m.m + 1) ≡ c.loop-m.to + c.enums_of-g.result.count * 2) × (enum_links_at (schema_in c.args.laid.now.image.rows.words.now c.args.laid.now.image.rows.sections c.args.laid.now.image.pool.now) (c.loop-m.m + 1) ≤ length c.args.links.now)
fits c =
    let ok = c.args.laid.now.sound in
    let n = ap (λ (x : Range). x.count) (own c) in
    (omega (arith, enum_next (schema_in c.args.laid.now.image.rows.words.now c.args.laid.now.image.rows.sections c.args.laid.now.image.pool.now) ok c.loop-m.m (less c), c.loop-m.invariant.place), omega (arith, enum_mono (schema_in c.args.laid.now.image.rows.words.now c.args.laid.now.image.rows.sections c.args.laid.now.image.pool.now) ok (c.loop-m.m + 1) (omega (arith, less c)), c.requires.pool_in_bounds))

pub loop-m-init : goal.loop-m-init
loop-m-init c = let g = schema_in c.args.laid.now.image.rows.words.now c.args.laid.now.image.rows.sections c.args.laid.now.image.pool.now in
    writing_start (enum_part g) (enum_links_at g) g.messages (enum_parts g c.args.laid.now.sound) c.args.links.now c.requires.at_value

pub put_enum_links-requires : goal.put_enum_links-requires
put_enum_links-requires c =
    let f = fits (goal.at.put_enum_links-requires c).After-enums_of-g in
    record { count_bound = rw (own (goal.at.put_enum_links-requires c).After-enums_of-g) (enum_rows_fit (schema_in c.args.laid.now.image.rows.words.now c.args.laid.now.image.rows.sections c.args.laid.now.image.pool.now) c.args.laid.now.sound c.loop-m.m (less (goal.at.put_enum_links-requires c).After-enums_of-g)); enum_link_width_in_bounds = omega (arith, f.0, f.1, c.loop-m.invariant.len) }

pub overflow_add-to : goal.overflow_add-to
overflow_add-to c = let f = fits (goal.at.overflow_add-to c).After-enums_of-g in omega (arith, f.0, f.1, c.ranges)

pub loop-m-preserved : goal.loop-m-preserved
loop-m-preserved c = let g = (schema_in c.args.laid.now.image.rows.words.now c.args.laid.now.image.rows.sections c.args.laid.now.image.pool.now) in
    writing_next (enum_part g) (enum_links_at g) g.messages (enum_parts g c.args.laid.now.sound) c.args.links.now c.loop-m.invariant (less (goal.at.loop-m-preserved c).After-enums_of-g) (fits (goal.at.loop-m-preserved c).After-enums_of-g).1 (sym (fits (goal.at.loop-m-preserved c).After-enums_of-g).0) c.put_enum_links.auto.links
    (c.put_enum_links.ensures ∙ ap (λ (x : Range). splice c.loop-m.links c.loop-m.to (run (enum_link (c.loop-m.m + 1)) x.first x.count)) (own (goal.at.loop-m-preserved c).After-enums_of-g))

pub returns : goal.returns
returns c = let g = schema_in c.args.laid.now.image.rows.words.now c.args.laid.now.image.rows.sections c.args.laid.now.image.pool.now in
    let w = c.loop-m.invariant in
    writing_end (enum_part g) (enum_links_at g) g.messages (enum_parts g c.args.laid.now.sound) c.args.links.now w (omega (arith, messages_in c.args.laid.now.image.rows.words.now c.args.laid.now.image.rows.sections c.args.laid.now.image.pool.now, c.loop-m-test.false))
    ∙ ap (λ (k : ℕ). splice c.args.links.now k (run (enum_part g) 0 g.messages)) (sym c.requires.at_value)
