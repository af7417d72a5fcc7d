-- `link::audit::carried_at` meets its contract. Assumes nothing.
use mathlib.Core.Path.{ap, ◌∙◌}
use Rattle.std.specs.Prelude.{Some}
use Rattle.image.specs.Places.{file_of}
use Rattle.link.specs.declared.audit.Carried.{Carried}
use Rattle.link.proofs.AuditLaws.{at_field}
use Rattle.link.proofs.audit.carried_at.Goals as goal

pub returns : goal.returns
returns c = let a = c.args in
    ap (λ (x : Carried). Some x) c.by_label.ensures
    ∙ at_field (file_of a.file.now) a.m.0 a.j c.field_in-field.result c.message_link_row-link.ensures c.shape_at-shape.ensures c.field_in-field.ensures
