-- `link::file_index::index_message` meets its contract. Assumes nothing.
use mathlib.Core.Path.{◌≡◌, refl, ap, ◌∙◌}
use Prim.Native.Nat.{◌+◌, ◌≤◌}
use native.Mathlib.Omega.{arith}
use lib.ListN.{get_or}
use Rattle.std.proofs.Common.{rules}
use Rattle.std.specs.Prelude.{Err}
use Rattle.image.specs.Schema.{schema_of}
use Rattle.image.specs.Flat.{row_of, first_field}
use Rattle.image.specs.declared.rows.Range.{Range}
use Rattle.link.specs.Scope.{seen}
use Rattle.link.specs.Search.{list_of}
use Rattle.link.proofs.FileIndexLaws.{regular_said, extensions_said, link_row_is, link_first_is, message_room, regular-inside, extensions_inside, regular_stops, clash_stops, extensions_decide, message_written}
use Rattle.link.proofs.file_index.index_message.Goals.{After-fields_of-regular, After-extensions_of-extensions}
use Rattle.link.proofs.file_index.index_message.Goals as goal

row : (c : After-fields_of-regular) → get_or c.message_link_row-link.result 0 0 ≡ row_of (schema_of c.args.scope.now.own.image.now c.args.scope.now.own.pool.now) c.args.m.0
row c = link_row_is (schema_of c.args.scope.now.own.image.now c.args.scope.now.own.pool.now) c.requires.links_value c.args.m.0 c.requires.m_bound c.message_link_row-link.ensures

place : (c : After-fields_of-regular) → get_or c.message_link_row-link.result 4 0 ≡ first_field (schema_of c.args.scope.now.own.image.now c.args.scope.now.own.pool.now) c.args.m.0
place c = link_first_is (schema_of c.args.scope.now.own.image.now c.args.scope.now.own.pool.now) c.requires.links_value c.args.m.0 c.requires.m_bound c.message_link_row-link.ensures

own_fields : (c : After-fields_of-regular) → c.fields_of-regular.result ≡ (schema_of c.args.scope.now.own.image.now c.args.scope.now.own.pool.now).fields_in (row_of (schema_of c.args.scope.now.own.image.now c.args.scope.now.own.pool.now) c.args.m.0)
own_fields c = regular_said c.args.scope.now.own.image.now c.args.scope.now.own.pool.now refl (row c) (rw c.read-image.ensures at c.fields_of-regular.ensures)

own-extensions : (c : After-extensions_of-extensions) → c.extensions_of-extensions.result ≡ (schema_of c.args.scope.now.own.image.now c.args.scope.now.own.pool.now).extensions_in (row_of (schema_of c.args.scope.now.own.image.now c.args.scope.now.own.pool.now) c.args.m.0)
own-extensions c = extensions_said c.args.scope.now.own.image.now c.args.scope.now.own.pool.now refl (row (goal.at.After-extensions_of-extensions c).After-fields_of-regular) (rw c.read-image.ensures at c.extensions_of-extensions.ensures)

-- there is room for them
fits : (c : After-fields_of-regular) → get_or c.message_link_row-link.result 4 0 + c.fields_of-regular.result.count ≤ (schema_of c.args.scope.now.own.image.now c.args.scope.now.own.pool.now).fields
fits c =
    let n = ap (λ (x : Range). x.count) (own_fields c) in
    omega (arith, place c, message_room (schema_of c.args.scope.now.own.image.now c.args.scope.now.own.pool.now) c.requires.sound c.args.m.0 c.requires.m_bound)

fits-too : (c : After-extensions_of-extensions) → get_or c.message_link_row-link.result 4 0 + (c.fields_of-regular.result.count + c.extensions_of-extensions.result.count) ≤ (schema_of c.args.scope.now.own.image.now c.args.scope.now.own.pool.now).fields
fits-too c =
    let r = (goal.at.After-extensions_of-extensions c).After-fields_of-regular in
    let n = ap (λ (x : Range). x.count) (own_fields r) in
    let k = ap (λ (x : Range). x.count) (own-extensions c) in
    omega (arith, place r, message_room (schema_of c.args.scope.now.own.image.now c.args.scope.now.own.pool.now) c.requires.sound c.args.m.0 c.requires.m_bound)

pub index_fields-requires : goal.index_fields-requires
index_fields-requires c =
    let r = (goal.at.index_fields-requires c).After-fields_of-regular in
    record {
      rows_bound = rw (own_fields r) (regular-inside (schema_of c.args.scope.now.own.image.now c.args.scope.now.own.pool.now) c.requires.sound c.args.m.0 c.requires.m_bound);
      numbers_bound = omega (arith, fits r, c.requires.sound.few_fields);
      numbers_in_bounds = omega (arith, fits r, c.requires.fields_in_bounds);
    }

pub returns-in_err-index_fields-clause-value : goal.returns-in_err-index_fields-clause-value
returns-in_err-index_fields-clause-value c =
    let r = (goal.at.returns-in_err-index_fields-clause-value c).After-fields_of-regular in
    let e : c.from_residual.result ≡ Err c.in_err-index_fields.field-0.0 = search rules in
    e ∙ regular_stops (seen c.args.scope.now) (list_of c.args.scope.now.list) c.args.m.0 (own_fields r) (place r) c.index_fields.ensures.value _ c.in_err-index_fields.was

pub judge_clash-requires : goal.judge_clash-requires
judge_clash-requires c =
    let r = (goal.at.judge_clash-requires c).After-fields_of-regular in
    record { at_bound = omega (arith, fits r, c.requires.sound.few_fields); fields_bound = rw (row r) (omega (arith, regular-inside (schema_of c.args.scope.now.own.image.now c.args.scope.now.own.pool.now) c.requires.sound c.args.m.0 c.requires.m_bound)) }

pub returns-in_err-judge_clash-clause-value : goal.returns-in_err-judge_clash-clause-value
returns-in_err-judge_clash-clause-value c =
    let r = (goal.at.returns-in_err-judge_clash-clause-value c).After-fields_of-regular in
    let e : c.from_residual-in_err-judge_clash.result ≡ Err c.in_err-judge_clash.field-0.0 = search rules in
    e ∙ clash_stops (seen c.args.scope.now) (list_of c.args.scope.now.list) c.args.m.0 (own_fields r) (place r) c.index_fields.ensures.value c.in_ok-index_fields.was (row r) c.judge_clash.ensures _ c.in_err-judge_clash.was

pub overflow_add-at : goal.overflow_add-at
overflow_add-at c = omega (arith, fits-too (goal.at.overflow_add-at c).After-extensions_of-extensions, c.requires.sound.few_fields)

pub index_fields-requires-2 : goal.index_fields-requires-2
index_fields-requires-2 c =
    let r = (goal.at.index_fields-requires-2 c).After-extensions_of-extensions in
    record {
      rows_bound = rw (own-extensions r) (extensions_inside (schema_of c.args.scope.now.own.image.now c.args.scope.now.own.pool.now) c.requires.sound c.args.m.0 c.requires.m_bound);
      numbers_bound = omega (arith, fits-too r, c.requires.sound.few_fields);
      numbers_in_bounds = omega (arith, fits-too r, c.index_fields.auto.rows, c.requires.fields_in_bounds);
    }

pub returns : goal.returns
returns c =
    let x = (goal.at.returns c).After-extensions_of-extensions in
    let r = (goal.at.returns c).After-fields_of-regular in
    record {
      value = extensions_decide (seen c.args.scope.now) (list_of c.args.scope.now.list) c.args.m.0 (own_fields r) (place r) c.index_fields.ensures.value c.in_ok-index_fields.was (row r) c.judge_clash.ensures c.in_ok-judge_clash.was (own-extensions x) c.index_fields-2.ensures.value;
      rows_after = λ p. message_written (seen c.args.scope.now) (list_of c.args.scope.now.list) c.args.m.0 (own_fields r) (place r) c.args.rows.now (own-extensions x) (omega (arith, fits-too x, c.requires.fields_in_bounds)) (c.index_fields.ensures.rows_after c.in_ok-index_fields.was) (c.index_fields-2.ensures.rows_after p);
    }
