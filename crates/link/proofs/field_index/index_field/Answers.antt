-- `link::field_index::index_field` meets its contract. Assumes nothing.
use mathlib.Core.Path.{◌≡◌, ◌∙◌}
use mathlib.Core.List.{[]}
use Rattle.std.proofs.Common.{rules}
use Rattle.std.specs.Prelude.{Err}
use Rattle.image.specs.Schema.{field_of}
use Rattle.link.specs.Scope.{seen}
use Rattle.link.specs.Search.{list_of}
use Rattle.link.specs.Field.{default_lines, default_part, extendee_lines, extendee_part, type_lines, type_part, field_words}
use Rattle.link.proofs.JudgedLaws.{step_value}
use Rattle.link.proofs.FileIndexLaws.{default_stops, extendee_stops, type_stops, field_passes, field_words_of}
use Rattle.link.proofs.field_index.index_field.Goals as goal

pub returns-in_err-d : goal.returns-in_err-d
returns-in_err-d c =
    let e : c.from_residual.result ≡ Err c.in_err-d.field-0.0 = search rules in
    e ∙ default_stops (seen c.args.scope.now) (list_of c.args.scope.now.list) (field_of c.args.row.now c.args.scope.now.own.pool.now) c.args.file c.args.at c.index_default.ensures (field_words (seen c.args.scope.now) (list_of c.args.scope.now.list) (field_of c.args.row.now c.args.scope.now.own.pool.now) c.args.home c.args.container) c.in_err-d.was

pub returns-in_err-e : goal.returns-in_err-e
returns-in_err-e c =
    let e : c.from_residual-in_err-e.result ≡ Err c.in_err-e.field-0.0 = search rules in
    e ∙ extendee_stops (seen c.args.scope.now) (list_of c.args.scope.now.list) (field_of c.args.row.now c.args.scope.now.own.pool.now) c.args.file c.args.at c.index_default.ensures c.in_ok-d.was c.index_extendee.ensures (field_words (seen c.args.scope.now) (list_of c.args.scope.now.list) (field_of c.args.row.now c.args.scope.now.own.pool.now) c.args.home c.args.container) c.in_err-e.was

pub returns-in_err-t : goal.returns-in_err-t
returns-in_err-t c =
    let e : c.from_residual-in_err-t.result ≡ Err c.in_err-t.field-0.0 = search rules in
    e ∙ type_stops (seen c.args.scope.now) (list_of c.args.scope.now.list) (field_of c.args.row.now c.args.scope.now.own.pool.now) c.args.file c.args.at c.index_default.ensures c.in_ok-d.was c.index_extendee.ensures c.in_ok-e.was c.index_type.ensures (field_words (seen c.args.scope.now) (list_of c.args.scope.now.list) (field_of c.args.row.now c.args.scope.now.own.pool.now) c.args.home c.args.container) c.in_err-t.was

pub returns : goal.returns
returns c =
    let a = c.args in
    let s = seen a.scope.now in
    let l = list_of a.scope.now.list in
    let f = field_of a.row.now a.scope.now.own.pool.now in
    let d = step_value (default_lines s l f a.at) [] (default_part s l f) c.index_default.ensures c.in_ok-d.was in
    let e = step_value (extendee_lines s l f a.file a.at) [] (extendee_part s l f) c.index_extendee.ensures c.in_ok-e.was in
    let t = step_value (type_lines s l f a.at) [] (type_part s l f) c.index_type.ensures c.in_ok-t.was in
    field_passes s l f a.file a.at c.index_default.ensures c.in_ok-d.was c.index_extendee.ensures c.in_ok-e.was c.index_type.ensures c.in_ok-t.was
    (field_words_of s l f a.home a.container c.in_ok-d.d c.in_ok-e.e c.in_ok-t.t c.kind_of.ensures d e t)
