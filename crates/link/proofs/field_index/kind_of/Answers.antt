-- `link::field_index::kind_of` meets its contract. Assumes nothing.
use mathlib.Core.Path.{◌≡◌, ap, ◌∙◌}
use Rattle.lists.specs.Lists.{is_empty}
use Rattle.lists.proofs.Cases.{by}
use Rattle.lists.proofs.StdLaws.{empty_length}
use Rattle.image.specs.Texts.{text_of}
use Rattle.link.proofs.field_index.kind_of.Goals as goal

pub returns : goal.returns
returns c =
    let name = text_of c.args.row.now c.args.texts.now 7 in
    let e : c.is_empty.result ≡ is_empty name = c.is_empty.ensures ∙ empty_length _ ∙ ap is_empty c.text_of.ensures in
    c.from.ensures ∙ rw e (by (is_empty name) (λ t. rw t) (λ t. rw t))
