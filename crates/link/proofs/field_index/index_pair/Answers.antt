-- `link::field_index::index_pair` meets its contract. Assumes nothing.
use mathlib.Core.Path.{◌≡◌, ◌∙◌}
use Rattle.std.proofs.Common.{rules}
use Rattle.std.specs.Prelude.{Err}
use Rattle.image.specs.Schema.{field_of}
use Rattle.link.specs.Scope.{seen}
use Rattle.link.specs.Search.{list_of}
use Rattle.link.proofs.LinkedLaws.{map_key_stops, map_value_stops, map_passes}
use Rattle.link.proofs.field_index.index_pair.Goals as goal

pub returns-in_err-k : goal.returns-in_err-k
returns-in_err-k c =
    let e : c.from_residual.result ≡ Err c.in_err-k.field-0.0 = search rules in
    e ∙ map_key_stops (seen c.args.scope.now) (list_of c.args.scope.now.list) (field_of c.args.key.now c.args.texts.now) (field_of c.args.value.now c.args.texts.now) c.args.at c.index_element.ensures c.in_err-k.was

pub returns-in_err-v : goal.returns-in_err-v
returns-in_err-v c =
    let e : c.from_residual-in_err-v.result ≡ Err c.in_err-v.field-0.0 = search rules in
    e ∙ map_value_stops (seen c.args.scope.now) (list_of c.args.scope.now.list) (field_of c.args.key.now c.args.texts.now) (field_of c.args.value.now c.args.texts.now) c.args.at c.index_element.ensures c.in_ok-k.was c.index_element-2.ensures c.in_err-v.was

pub returns : goal.returns
returns c = map_passes (seen c.args.scope.now) (list_of c.args.scope.now.list) (field_of c.args.key.now c.args.texts.now) (field_of c.args.value.now c.args.texts.now) c.args.at c.index_element.ensures c.in_ok-k.was c.index_element-2.ensures c.in_ok-v.was c.word_at.ensures c.word_at-2.ensures
