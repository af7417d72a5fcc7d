-- `link::audit::passes_without` meets its contract. Assumes nothing.
use mathlib.Core.Path.{◌≡◌, ap, ◌∙◌}
use lib.Dec.{eqb}
use Rattle.std.specs.Prelude.{ℕ}
use Rattle.link.specs.declared.audit.Carried.TheVariants.{Required}
use Rattle.link.proofs.AuditLaws.{syntax_alone}
use Rattle.link.proofs.audit.passes_without.Goals as goal

pub returns-in-Some-Required : goal.returns-in-Some-Required
returns-in-Some-Required c =
    let e : c.in-Some-Required.field-0 ≡ Required c.in-Some-Required.field-0-0 = rw c.in-Some-Required.is at c.in-Some-Required.field-0-is in
    rw (c.in-Some-Required.is, e) (ap (λ (w : ℕ). eqb w 3) (c.trailer_word.ensures ∙ syntax_alone c.args.image.now))
