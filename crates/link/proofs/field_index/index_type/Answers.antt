-- `link::field_index::index_type` meets its contract. Assumes nothing.
use mathlib.Core.Path.{◌≡◌, ◌∙◌}
use borrow.Author.Tests.{eq-eqb, ne_eqb}
use Rattle.std.proofs.Common.{rules}
use Rattle.std.specs.Prelude.{Err}
use Rattle.image.specs.Schema.{field_of}
use Rattle.link.specs.Scope.{seen}
use Rattle.link.specs.Search.{list_of}
use Rattle.link.proofs.SearchLaws.{all_below}
use Rattle.link.proofs.LinkedLaws.{type_stops, type_singular, type_repeated, own_in-reach}
use Rattle.link.proofs.field_index.index_type.Goals as goal

pub returns-in_err-own : goal.returns-in_err-own
returns-in_err-own c =
    let e : c.from_residual.result ≡ Err c.in_err-own.field-0.0 = search rules in
    e ∙ type_stops (seen c.args.scope.now) (list_of c.args.scope.now.list) (field_of c.args.row.now c.args.texts.now) c.args.at c.index_element.ensures c.in_err-own.was

pub returns-then-word_at-ne3 : goal.returns-then-word_at-ne3
returns-then-word_at-ne3 c = type_singular (seen c.args.scope.now) (list_of c.args.scope.now.list) (field_of c.args.row.now c.args.texts.now) c.args.at c.index_element.ensures c.in_ok-own.was c.word_at-t.ensures (rw c.word_at.ensures at (ne_eqb _ _ c.if-word_at-ne3.true))

pub index_repeated-requires : goal.index_repeated-requires
index_repeated-requires c i =
    let s = c.args.scope.now in
    own_in-reach s.shelf.words.now s.shelf.bytes.now s.shelf.places s.n s.own.image.now s.own.pool.now s.own.links.now (list_of s.list) (all_below s.n (list_of s.list) s.below) (field_of c.args.row.now c.args.texts.now) c.args.at c.index_element.ensures c.in_ok-own.was c.word_at-t.ensures i

pub returns : goal.returns
returns c =
    c.index_repeated.ensures
    ∙ type_repeated (seen c.args.scope.now) (list_of c.args.scope.now.list) (field_of c.args.row.now c.args.texts.now) c.args.at c.index_element.ensures c.in_ok-own.was c.word_at-t.ensures (rw c.word_at.ensures at (eq-eqb _ _ c.if-word_at-ne3.false))
