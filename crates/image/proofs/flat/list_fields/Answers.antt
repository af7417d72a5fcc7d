-- `image::flat::list_fields` meets its contract: the fields of the messages, then the file's extensions. Assumes nothing.
use mathlib.Core.Path.{◌≡◌, ap, ◌∙◌}
use Prim.Native.Nat.{ℕ, ◌+◌, ◌≤◌}
use native.Mathlib.Omega.{arith}
use Rattle.lists.specs.Splice.{splice}
use Rattle.image.specs.Schema.{schema_in}
use Rattle.image.specs.Flat.{rows_of, first_field}
use Rattle.image.specs.Walk.{Indexed}
use Rattle.image.specs.Record.{repeated}
use Rattle.image.specs.declared.rows.Range.{Range}
use Rattle.image.proofs.SchemaLaws.{file_extensions_in}
use Rattle.image.proofs.ChainLaws.{links_indexed}
use Rattle.image.proofs.Owned.{fields_end_lem}
use Rattle.image.proofs.FieldListLaws.{file_fits_lem, fields_all, containers_all}
use Rattle.image.proofs.flat.list_fields.Goals as goal
use Rattle.image.proofs.flat.list_fields.Goals.{After-file_extensions-own}

own : (c : After-file_extensions-own) → c.file_extensions-own.result ≡ ((schema_in c.args.laid.now.image.rows.words.now c.args.laid.now.image.rows.sections c.args.laid.now.image.pool.now)).file_extensions
own c = let a = c.args in c.file_extensions-own.ensures ∙ file_extensions_in a.laid.now.image.rows.words.now a.laid.now.image.rows.sections a.laid.now.image.pool.now

room : (c : After-file_extensions-own) → c.list_message_fields-at.result + c.file_extensions-own.result.count ≤ ((schema_in c.args.laid.now.image.rows.words.now c.args.laid.now.image.rows.sections c.args.laid.now.image.pool.now)).fields
room c =
    let n = ap (λ (x : Range). x.count) (own c) in
    omega (arith, c.list_message_fields-at.ensures.value, fields_end_lem ((schema_in c.args.laid.now.image.rows.words.now c.args.laid.now.image.rows.sections c.args.laid.now.image.pool.now)) c.args.laid.now.sound)

pub list_message_fields-at-requires : goal.list_message_fields-at-requires
list_message_fields-at-requires c =
    let g = (schema_in c.args.laid.now.image.rows.words.now c.args.laid.now.image.rows.sections c.args.laid.now.image.pool.now) in
    let links : Indexed g c.args.links.now = rw c.requires.links_value (links_indexed g c.args.laid.now.sound) in
    record { indexed = links; pool_in_bounds = c.requires.pool_in_bounds; pool_in_bounds_2 = c.requires.pool_in_bounds_2 }

pub put_fields-requires : goal.put_fields-requires
put_fields-requires c = record { count_bound = rw (own (goal.at.put_fields-requires c).After-file_extensions-own) (file_fits_lem ((schema_in c.args.laid.now.image.rows.words.now c.args.laid.now.image.rows.sections c.args.laid.now.image.pool.now)) c.args.laid.now.sound); count_in_bounds = omega (arith, room (goal.at.put_fields-requires c).After-file_extensions-own, c.list_message_fields-at.auto.homes, c.requires.pool_in_bounds); count_in_bounds_2 = omega (arith, room (goal.at.put_fields-requires c).After-file_extensions-own, c.list_message_fields-at.auto.holders, c.requires.pool_in_bounds_2) }

pub returns : goal.returns
returns c =
    let g = ((schema_in c.args.laid.now.image.rows.words.now c.args.laid.now.image.rows.sections c.args.laid.now.image.pool.now)) in
    let homes = c.list_message_fields-at.new.homes in
    let holders = c.list_message_fields-at.new.holders in
    let x = c.file_extensions-own.result in record { homes_after = fields_all g c.args.laid.now.sound c.args.homes.now c.requires.pool_in_bounds c.list_message_fields-at.ensures.homes_after (c.put_fields.ensures.homes_after ∙ ap (λ (k : ℕ). splice homes k (rows_of x)) c.list_message_fields-at.ensures.value ∙ ap (λ (r : Range). splice homes (first_field g g.messages) (rows_of r)) (own (goal.at.returns c).After-file_extensions-own)); holders_after = containers_all g c.args.laid.now.sound c.args.holders.now c.requires.pool_in_bounds_2 c.list_message_fields-at.ensures.holders_after (c.put_fields.ensures.holders_after ∙ ap (λ (k : ℕ). splice holders k (repeated x.count 0)) c.list_message_fields-at.ensures.value ∙ ap (λ (r : Range). splice holders (first_field g g.messages) (repeated r.count 0)) (own (goal.at.returns c).After-file_extensions-own)) }
