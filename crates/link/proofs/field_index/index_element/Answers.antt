-- `link::field_index::index_element` meets its contract. Assumes nothing.
use Rattle.std.proofs.Common.{rules, tests}
use Rattle.image.specs.Schema.{field_of}
use Rattle.link.specs.Scope.{seen}
use Rattle.link.specs.Search.{list_of}
use Rattle.link.proofs.LinkedLaws.{element_by}
use Rattle.link.proofs.field_index.index_element.Goals as goal

pub returns : goal.returns
returns c =
    element_by (seen c.args.scope.now) (list_of c.args.scope.now.list) (field_of c.args.row.now c.args.texts.now) c.args.at c.resolve_type.result (rw (c.text_of-name.ensures, c.word_at-t.ensures) at c.resolve_type.ensures) (λ a e. search (rules, tests)) (λ e. search (rules, tests))
