-- `image::flat::list_message_fields` meets its contract: the fields of the first m messages are listed. Assumes nothing.
use mathlib.Core.Path.{◌≡◌, sym, ap, ◌∙◌}
use mathlib.Core.List.{◌++◌}
use Prim.Native.Nat.{ℕ, ◌+◌, ◌<◌, ◌≤◌}
use native.Mathlib.Omega.{arith}
use lib.ListN.{length}
use Rattle.lists.specs.Splice.{splice}
use Rattle.image.specs.Words.{fields_of, extensions_of}
use Rattle.image.specs.Schema.{schema_in}
use Rattle.image.specs.Flat.{row_of, rows_of, first_field}
use Rattle.image.specs.Walk.{field_part}
use Rattle.image.specs.Record.{containers_in}
use Rattle.image.specs.declared.rows.Range.{Range}
use Rattle.image.proofs.SchemaLaws.{messages_in, fields_in_lem, extensions_in_lem}
use Rattle.image.proofs.LinkLaws.{run, writing_start, writing_next, writing_end}
use Rattle.image.proofs.IndexLaws.{indexed_row}
use Rattle.image.proofs.FieldListLaws.{rows_both, words_both, field_count_lem, field_parts, container_parts, fields_start, fields_within, fields_fit, extensions_fit}
use Rattle.image.proofs.flat.list_message_fields.Goals as goal
use Rattle.image.proofs.flat.list_message_fields.Goals.{After-extensions_of-extensions}

less : (c : After-extensions_of-extensions) → c.loop-m.m < (schema_in c.args.laid.now.image.rows.words.now c.args.laid.now.image.rows.sections c.args.laid.now.image.pool.now).messages
less c = let a = c.args in omega (arith, messages_in a.laid.now.image.rows.words.now a.laid.now.image.rows.sections a.laid.now.image.pool.now, c.loop-m-test.true)

row : (c : After-extensions_of-extensions) → c.message_row-row.result.0 ≡ row_of (schema_in c.args.laid.now.image.rows.words.now c.args.laid.now.image.rows.sections c.args.laid.now.image.pool.now) c.loop-m.m
row c = c.message_row-row.ensures ∙ indexed_row (schema_in c.args.laid.now.image.rows.words.now c.args.laid.now.image.rows.sections c.args.laid.now.image.pool.now) c.requires.indexed c.loop-m.m (less c)

own_fields_lem : (c : After-extensions_of-extensions) → c.fields_of-fields.result ≡ (schema_in c.args.laid.now.image.rows.words.now c.args.laid.now.image.rows.sections c.args.laid.now.image.pool.now).fields_in (row_of (schema_in c.args.laid.now.image.rows.words.now c.args.laid.now.image.rows.sections c.args.laid.now.image.pool.now) c.loop-m.m)
own_fields_lem c =
    let a = c.args in
    c.fields_of-fields.ensures ∙ ap (fields_of a.laid.now.image.rows.words.now a.laid.now.image.rows.sections) (row c) ∙ fields_in_lem a.laid.now.image.rows.words.now a.laid.now.image.rows.sections a.laid.now.image.pool.now _

own-extensions : (c : After-extensions_of-extensions) → c.extensions_of-extensions.result ≡ (schema_in c.args.laid.now.image.rows.words.now c.args.laid.now.image.rows.sections c.args.laid.now.image.pool.now).extensions_in (row_of (schema_in c.args.laid.now.image.rows.words.now c.args.laid.now.image.rows.sections c.args.laid.now.image.pool.now) c.loop-m.m)
own-extensions c =
    let a = c.args in
    c.extensions_of-extensions.ensures ∙ ap (extensions_of a.laid.now.image.rows.words.now a.laid.now.image.rows.sections) (row c) ∙ extensions_in_lem a.laid.now.image.rows.words.now a.laid.now.image.rows.sections a.laid.now.image.pool.now _

-- how many they are, where the next ones go, and that there is room for these
size : (c : After-extensions_of-extensions) → length (field_part (schema_in c.args.laid.now.image.rows.words.now c.args.laid.now.image.rows.sections c.args.laid.now.image.pool.now) c.loop-m.m) ≡ c.fields_of-fields.result.count + c.extensions_of-extensions.result.count
size c =
    let n = ap (λ (x : Range). x.count) (own_fields_lem c) in
    let k = ap (λ (x : Range). x.count) (own-extensions c) in
    omega (arith, field_count_lem (schema_in c.args.laid.now.image.rows.words.now c.args.laid.now.image.rows.sections c.args.laid.now.image.pool.now) c.args.laid.now.sound c.loop-m.m)

next : (c : After-extensions_of-extensions) → first_field (schema_in c.args.laid.now.image.rows.words.now c.args.laid.now.image.rows.sections c.args.laid.now.image.pool.now) (c.loop-m.m + 1) ≡ c.loop-m.to + c.fields_of-fields.result.count + c.extensions_of-extensions.result.count
next c = omega (arith, field_parts (schema_in c.args.laid.now.image.rows.words.now c.args.laid.now.image.rows.sections c.args.laid.now.image.pool.now) c.args.laid.now.sound c.loop-m.m (less c), size c, c.loop-m.invariant.0.place)

room : (c : After-extensions_of-extensions) → c.loop-m.to + c.fields_of-fields.result.count + c.extensions_of-extensions.result.count ≤ (schema_in c.args.laid.now.image.rows.words.now c.args.laid.now.image.rows.sections c.args.laid.now.image.pool.now).fields
room c = omega (arith, next c, fields_within (schema_in c.args.laid.now.image.rows.words.now c.args.laid.now.image.rows.sections c.args.laid.now.image.pool.now) c.args.laid.now.sound (c.loop-m.m + 1) (omega (arith, less c)))

pub loop-m-init : goal.loop-m-init
loop-m-init c = let g = schema_in c.args.laid.now.image.rows.words.now c.args.laid.now.image.rows.sections c.args.laid.now.image.pool.now in
    let ok = c.args.laid.now.sound in (
      writing_start (field_part g) (first_field g) g.messages (field_parts g ok) c.args.homes.now (sym (fields_start g ok)),
      writing_start (containers_in g) (first_field g) g.messages (container_parts g ok) c.args.holders.now (sym (fields_start g ok)),
    )

pub put_fields-requires : goal.put_fields-requires
put_fields-requires c =
    let w = c.loop-m.invariant in
    record { count_bound = rw (own_fields_lem (goal.at.put_fields-requires c).After-extensions_of-extensions) (fields_fit (schema_in c.args.laid.now.image.rows.words.now c.args.laid.now.image.rows.sections c.args.laid.now.image.pool.now) c.args.laid.now.sound c.loop-m.m (less (goal.at.put_fields-requires c).After-extensions_of-extensions)); count_in_bounds = omega (arith, room (goal.at.put_fields-requires c).After-extensions_of-extensions, w.0.len, c.requires.pool_in_bounds); count_in_bounds_2 = omega (arith, room (goal.at.put_fields-requires c).After-extensions_of-extensions, w.1.len, c.requires.pool_in_bounds_2) }

pub overflow_add-to : goal.overflow_add-to
overflow_add-to c = omega (arith, room (goal.at.overflow_add-to c).After-extensions_of-extensions)

pub put_fields-requires-in-loop-m : goal.put_fields-requires-in-loop-m
put_fields-requires-in-loop-m c =
    let w = c.loop-m.invariant in
    record { count_bound = rw (own-extensions (goal.at.put_fields-requires-in-loop-m c).After-extensions_of-extensions) (extensions_fit (schema_in c.args.laid.now.image.rows.words.now c.args.laid.now.image.rows.sections c.args.laid.now.image.pool.now) c.args.laid.now.sound c.loop-m.m (less (goal.at.put_fields-requires-in-loop-m c).After-extensions_of-extensions)); count_in_bounds = omega (arith, room (goal.at.put_fields-requires-in-loop-m c).After-extensions_of-extensions, w.0.len, c.put_fields.auto.homes, c.requires.pool_in_bounds); count_in_bounds_2 = omega (arith, room (goal.at.put_fields-requires-in-loop-m c).After-extensions_of-extensions, w.1.len, c.put_fields.auto.holders, c.requires.pool_in_bounds_2) }

pub overflow_add-to-in-loop-m : goal.overflow_add-to-in-loop-m
overflow_add-to-in-loop-m c = omega (arith, room (goal.at.overflow_add-to-in-loop-m c).After-extensions_of-extensions)

pub overflow_add-to-in-loop-m-2 : goal.overflow_add-to-in-loop-m-2
overflow_add-to-in-loop-m-2 c = omega (arith, room (goal.at.overflow_add-to-in-loop-m-2 c).After-extensions_of-extensions, c.args.laid.now.sound.few_fields)

pub loop-m-preserved : goal.loop-m-preserved
loop-m-preserved c = let g = (schema_in c.args.laid.now.image.rows.words.now c.args.laid.now.image.rows.sections c.args.laid.now.image.pool.now) in
    let ok = c.args.laid.now.sound in
    let x = c.fields_of-fields.result in
    let y = c.extensions_of-extensions.result in (
      writing_next (field_part g) (first_field g) g.messages (field_parts g ok) c.args.homes.now c.loop-m.invariant.0 (less (goal.at.loop-m-preserved c).After-extensions_of-extensions) (omega (arith, next (goal.at.loop-m-preserved c).After-extensions_of-extensions, room (goal.at.loop-m-preserved c).After-extensions_of-extensions, c.requires.pool_in_bounds)) (omega (arith, next (goal.at.loop-m-preserved c).After-extensions_of-extensions)) (c.put_fields-in-loop-m.auto.homes ∙ c.put_fields.auto.homes)
          (rows_both c.loop-m.homes c.loop-m.to x y (omega (arith, room (goal.at.loop-m-preserved c).After-extensions_of-extensions, c.loop-m.invariant.0.len, c.requires.pool_in_bounds)) c.put_fields.ensures.homes_after c.put_fields-in-loop-m.ensures.homes_after
          ∙ ap (λ (r : Range). splice c.loop-m.homes c.loop-m.to (rows_of r ++ rows_of y)) (own_fields_lem (goal.at.loop-m-preserved c).After-extensions_of-extensions)
          ∙ ap (λ (r : Range). splice c.loop-m.homes c.loop-m.to (rows_of (g.fields_in (row_of g c.loop-m.m)) ++ rows_of r)) (own-extensions (goal.at.loop-m-preserved c).After-extensions_of-extensions)),
      writing_next (containers_in g) (first_field g) g.messages (container_parts g ok) c.args.holders.now c.loop-m.invariant.1 (less (goal.at.loop-m-preserved c).After-extensions_of-extensions) (omega (arith, next (goal.at.loop-m-preserved c).After-extensions_of-extensions, room (goal.at.loop-m-preserved c).After-extensions_of-extensions, c.requires.pool_in_bounds_2)) (omega (arith, next (goal.at.loop-m-preserved c).After-extensions_of-extensions)) (c.put_fields-in-loop-m.auto.holders ∙ c.put_fields.auto.holders)
          (words_both c.loop-m.holders c.loop-m.to x.count y.count (length (field_part g c.loop-m.m)) (c.loop-m.m + 1) (size (goal.at.loop-m-preserved c).After-extensions_of-extensions) (omega (arith, size (goal.at.loop-m-preserved c).After-extensions_of-extensions, room (goal.at.loop-m-preserved c).After-extensions_of-extensions, c.loop-m.invariant.1.len, c.requires.pool_in_bounds_2)) c.put_fields.ensures.holders_after c.put_fields-in-loop-m.ensures.holders_after),
    )

pub returns : goal.returns
returns c =
    let g = schema_in c.args.laid.now.image.rows.words.now c.args.laid.now.image.rows.sections c.args.laid.now.image.pool.now in
    let ok = c.args.laid.now.sound in
    let w = c.loop-m.invariant in
    let n = messages_in c.args.laid.now.image.rows.words.now c.args.laid.now.image.rows.sections c.args.laid.now.image.pool.now in
    let e : c.loop-m.m ≡ g.messages = omega (arith, n, w.0.below, c.loop-m-test.false) in record { value = w.0.place ∙ ap (first_field g) e; homes_after = writing_end (field_part g) (first_field g) g.messages (field_parts g ok) c.args.homes.now w.0 (omega (arith, e)) ∙ ap (λ (k : ℕ). splice c.args.homes.now k (run (field_part g) 0 g.messages)) (fields_start g ok); holders_after = writing_end (containers_in g) (first_field g) g.messages (container_parts g ok) c.args.holders.now w.1 (omega (arith, e)) ∙ ap (λ (k : ℕ). splice c.args.holders.now k (run (containers_in g) 0 g.messages)) (fields_start g ok) }
