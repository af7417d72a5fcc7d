-- `image::full_name::is_message_path` meets its contract. Assumes nothing.
use mathlib.Core.Path.{sym, ◌∙◌}
use Rattle.image.specs.Schema.{schema}
use Rattle.image.specs.Links.{message_up}
use Rattle.image.specs.Climb.{message_above, name_of}
use Rattle.image.proofs.PathLaws.{path_above_lem}
use Rattle.image.proofs.PathTexts.{may_not}
use Rattle.image.proofs.full_name.is_message_path.Goals as goal

pub returns-then-may_end_in : goal.returns-then-may_end_in
returns-then-may_end_in c = let a = c.args in
    rw (path_above_lem (name_of (schema a.image.now) a.links.now) (message_up a.links.now) a.depth a.m.0, ← c.message_up.ensures, ← c.message_name-name.ensures)
    c.is_path_beneath.ensures

pub returns-else-may_end_in : goal.returns-else-may_end_in
returns-else-may_end_in c = let a = c.args in
    let g = schema a.image.now in
    rw (path_above_lem (name_of g a.links.now) (message_up a.links.now) a.depth a.m.0, ← c.message_name-name.ensures)
    (c.if-may_end_in.false ∙ sym (may_not a.wanted.now (message_above g a.links.now a.depth (message_up a.links.now a.m.0)) c.message_name-name.result.now (sym c.may_end_in.ensures ∙ c.if-may_end_in.false)))
