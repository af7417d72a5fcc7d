-- `link::file_index::index_file` meets its contract. Assumes nothing.
use mathlib.Core.Path.{◌≡◌, refl, ap, ◌∙◌}
use Prim.Native.Nat.{◌+◌, ◌-◌, ◌≤◌}
use native.Mathlib.Omega.{arith}
use Rattle.std.proofs.Common.{rules}
use Rattle.std.specs.Prelude.{Err}
use Rattle.image.specs.Schema.{schema_of}
use Rattle.image.specs.Flat.{first_field}
use Rattle.image.specs.declared.rows.Range.{Range}
use Rattle.image.specs.declared.rows.Rows.{Rows}
use Rattle.image.proofs.Owned.{fields_end_lem}
use Rattle.link.specs.Scope.{seen}
use Rattle.link.specs.Search.{list_of}
use Rattle.link.proofs.FileIndexLaws.{fields_said, file_said, file_inside, messages_stop, file_decides, file_written}
use Rattle.link.proofs.file_index.index_file.Goals.{After-read-fields}
use Rattle.link.proofs.file_index.index_file.Goals as goal

own-extensions : (c : After-read-fields) → c.file_extensions-extensions.result ≡ (schema_of c.args.scope.now.own.image.now c.args.scope.now.own.pool.now).file_extensions
own-extensions c = file_said c.args.scope.now.own.image.now c.args.scope.now.own.pool.now c.file_extensions-extensions.ensures

-- how many fields there are, and the flat number of the first extension
size : (c : After-read-fields) → c.read-fields.result.sections.fields.count ≡ (schema_of c.args.scope.now.own.image.now c.args.scope.now.own.pool.now).fields
size c = fields_said c.args.scope.now.own.image.now c.args.scope.now.own.pool.now (ap (λ (x : Rows). x.sections) c.read-fields.ensures) refl

behind : (c : After-read-fields) → first_field (schema_of c.args.scope.now.own.image.now c.args.scope.now.own.pool.now) (schema_of c.args.scope.now.own.image.now c.args.scope.now.own.pool.now).messages + c.file_extensions-extensions.result.count ≡ c.read-fields.result.sections.fields.count
behind c =
    let n = ap (λ (x : Range). x.count) (own-extensions c) in
    omega (arith, size c, fields_end_lem (schema_of c.args.scope.now.own.image.now c.args.scope.now.own.pool.now) c.requires.sound)

place : (c : After-read-fields) → c.read-fields.result.sections.fields.count - c.file_extensions-extensions.result.count ≡ first_field (schema_of c.args.scope.now.own.image.now c.args.scope.now.own.pool.now) (schema_of c.args.scope.now.own.image.now c.args.scope.now.own.pool.now).messages
place c = omega (arith, behind c)

fits : (c : After-read-fields) → c.read-fields.result.sections.fields.count - c.file_extensions-extensions.result.count + c.file_extensions-extensions.result.count ≤ (schema_of c.args.scope.now.own.image.now c.args.scope.now.own.pool.now).fields
fits c = omega (arith, behind c, size c)

pub returns-in_err-index_messages-clause-value : goal.returns-in_err-index_messages-clause-value
returns-in_err-index_messages-clause-value c =
    let e : c.from_residual.result ≡ Err c.in_err-index_messages.field-0.0 = search rules in
    e ∙ messages_stop (seen c.args.scope.now) (list_of c.args.scope.now.list) c.requires.sound c.index_messages.ensures.value _ c.in_err-index_messages.was

pub overflow_sub-fields : goal.overflow_sub-fields
overflow_sub-fields c = omega (arith, behind (goal.at.overflow_sub-fields c).After-read-fields)

pub index_fields-requires : goal.index_fields-requires
index_fields-requires c =
    let r = (goal.at.index_fields-requires c).After-read-fields in
    record {
      rows_bound = rw (own-extensions r) (file_inside (schema_of c.args.scope.now.own.image.now c.args.scope.now.own.pool.now) c.requires.sound);
      numbers_bound = omega (arith, fits r, c.requires.sound.few_fields);
      numbers_in_bounds = omega (arith, fits r, c.index_messages.auto.rows, c.requires.fields_in_bounds);
    }

pub returns : goal.returns
returns c =
    let r = (goal.at.returns c).After-read-fields in
    record {
      value = file_decides (seen c.args.scope.now) (list_of c.args.scope.now.list) c.requires.sound c.index_messages.ensures.value c.in_ok-index_messages.was (own-extensions r) (place r) c.index_fields.ensures.value;
      rows_after = λ p. file_written (seen c.args.scope.now) (list_of c.args.scope.now.list) c.requires.sound c.args.rows.now (own-extensions r) (place r) c.requires.fields_in_bounds (c.index_messages.ensures.rows_after c.in_ok-index_messages.was) (c.index_fields.ensures.rows_after p);
    }
