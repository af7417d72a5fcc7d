-- `image::full_name::named_up` meets its contract. Assumes nothing.
use mathlib.Core.Path.{sym, ap, ◌∙◌}
use borrow.Author.Tests.{eqb-true, eqb-false}
use lib.ListN.{length}
use Rattle.image.specs.Schema.{schema}
use Rattle.image.specs.Links.{message_up}
use Rattle.image.specs.Climb.{name_of}
use Rattle.image.proofs.PathLaws.{named_flat, named_top, named_none, named_some}
use Rattle.image.proofs.full_name.named_up.Goals as goal
use Rattle.image.proofs.full_name.named_up.Goals.{then-levels-eq0-via-then-levels-eq0, then-levels-eq0-via-else-levels-eq0+then-up-eq0, then-levels-eq0-via-else-levels-eq0+else-up-eq0+then-is_empty}

pub returns-then-levels-eq0 : goal.returns-then-levels-eq0
returns-then-levels-eq0 c =
    let a = c.args in
    let name = name_of (schema a.image.now) a.links.now in
    let up = message_up a.links.now in
    elim c.then-levels-eq0.branch [
      | then-levels-eq0-via-then-levels-eq0 w ↦ sym (named_flat name up a.levels a.up w.if-levels-eq0.true)
      | then-levels-eq0-via-else-levels-eq0+then-up-eq0 w ↦ sym (named_top name up a.levels a.up w.if-up-eq0.true)
      | then-levels-eq0-via-else-levels-eq0+else-up-eq0+then-is_empty w ↦ sym (named_none name up a.levels a.up w.if-levels-eq0.false w.if-up-eq0.false (sym (ap length w.message_name.ensures) ∙ eqb-true _ 0 (sym w.is_empty.ensures ∙ w.if-is_empty.true)))
    ]

pub returns : goal.returns
returns c =
    let a = c.args in
    sym (named_some (name_of (schema a.image.now) a.links.now) (message_up a.links.now) a.levels a.up c.if-levels-eq0.false c.if-up-eq0.false (λ z. eqb-false _ 0 (sym c.is_empty.ensures ∙ c.if-is_empty.false) (ap length c.message_name.ensures ∙ z)))
