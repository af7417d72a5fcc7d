-- `link::file_index::index_messages` meets its contract: the messages below m are linked, and the rows of their fields written. Assumes nothing.
use mathlib.Core.Path.{◌≡◌, refl, ap, ◌∙◌}
use native.Mathlib.Omega.{arith}
use Rattle.std.proofs.Common.{rules}
use Rattle.std.specs.Prelude.{Err}
use Rattle.image.specs.declared.rows.Rows.{Rows}
use Rattle.link.specs.Scope.{seen}
use Rattle.link.specs.Search.{list_of}
use Rattle.link.proofs.FileIndexLaws.{messages_said, indexing_start, indexing_next, indexing_stop, indexing_passed, indexing_done}
use Rattle.link.proofs.file_index.index_messages.Goals as goal

pub loop-m-init : goal.loop-m-init
loop-m-init c = indexing_start (seen c.args.scope.now) (list_of c.args.scope.now.list) c.requires.sound c.args.rows.now

pub index_message-requires-clause-m_bound : goal.index_message-requires-clause-m_bound
index_message-requires-clause-m_bound c = omega (arith, messages_said c.args.scope.now.own.image.now c.args.scope.now.own.pool.now (ap (λ (x : Rows). x.sections) c.read-m-end.ensures) refl, c.loop-m-test.true)

pub returns-in_err-index_message-clause-value : goal.returns-in_err-index_message-clause-value
returns-in_err-index_message-clause-value c =
    let e : c.from_residual.result ≡ Err c.in_err-index_message.field-0.0 = search rules in
    e ∙ indexing_stop (seen c.args.scope.now) (list_of c.args.scope.now.list) c.requires.sound c.args.rows.now c.loop-m.invariant _ (omega (arith, messages_said c.args.scope.now.own.image.now c.args.scope.now.own.pool.now (ap (λ (x : Rows). x.sections) c.read-m-end.ensures) refl, c.loop-m-test.true)) c.index_message.ensures.value c.in_err-index_message.was

pub loop-m-preserved : goal.loop-m-preserved
loop-m-preserved c =
    indexing_next (seen c.args.scope.now) (list_of c.args.scope.now.list) c.requires.sound c.args.rows.now c.loop-m.invariant (omega (arith, messages_said c.args.scope.now.own.image.now c.args.scope.now.own.pool.now (ap (λ (x : Rows). x.sections) c.read-m-end.ensures) refl, c.loop-m-test.true)) c.requires.fields_in_bounds c.index_message.ensures.value c.in_ok-index_message.was c.index_message.auto.rows (c.index_message.ensures.rows_after c.in_ok-index_message.was)

pub returns : goal.returns
returns c = record {
  value = indexing_passed (seen c.args.scope.now) (list_of c.args.scope.now.list) c.requires.sound c.args.rows.now c.loop-m.invariant (omega (arith, messages_said c.args.scope.now.own.image.now c.args.scope.now.own.pool.now (ap (λ (x : Rows). x.sections) c.read-m-end.ensures) refl, c.loop-m-test.false));
  rows_after = λ _. indexing_done (seen c.args.scope.now) (list_of c.args.scope.now.list) c.requires.sound c.args.rows.now c.loop-m.invariant (omega (arith, messages_said c.args.scope.now.own.image.now c.args.scope.now.own.pool.now (ap (λ (x : Rows). x.sections) c.read-m-end.ensures) refl, c.loop-m-test.false));
}
