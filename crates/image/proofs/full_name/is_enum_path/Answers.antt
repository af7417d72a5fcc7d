-- `image::full_name::is_enum_path` meets its contract. Assumes nothing.
use mathlib.Core.Path.{sym, ◌∙◌}
use Rattle.image.specs.Schema.{schema}
use Rattle.image.specs.Links.{enum_up}
use Rattle.image.specs.Climb.{message_above, path_above}
use Rattle.image.proofs.PathTexts.{may_not}
use Rattle.image.proofs.full_name.is_enum_path.Goals as goal

pub returns-then-may_end_in : goal.returns-then-may_end_in
unfolding path_above
returns-then-may_end_in c = rw (← c.enum_up.ensures, ← c.enum_name-name.ensures) c.is_path_beneath.ensures

pub returns-else-may_end_in : goal.returns-else-may_end_in
unfolding path_above
returns-else-may_end_in c = let a = c.args in
    let g = schema a.image.now in
    rw (← c.enum_name-name.ensures)
    (c.if-may_end_in.false ∙ sym (may_not a.wanted.now (message_above g a.links.now 16 (enum_up g a.links.now a.e.0)) c.enum_name-name.result.now (sym c.may_end_in.ensures ∙ c.if-may_end_in.false)))
