-- `link::audit::carried_under` meets its contract. Assumes nothing.
use mathlib.Core.Path.{sym, ◌∙◌}
use borrow.Author.Tests.{lt-ltb, le-ltb}
use Rattle.image.specs.Schema.{schema_in, schema_of}
use Rattle.link.specs.Audit.{carried_under}
use Rattle.link.proofs.audit.carried_under.Goals as goal

pub returns-then-image-m : goal.returns-then-image-m
unfolding carried_under schema_of schema_in
returns-then-image-m c = simp (le-ltb _ _ (rw c.read-image.ensures at c.if-image-m.true))

pub returns-in_err-j : goal.returns-in_err-j
unfolding carried_under schema_of schema_in
returns-in_err-j c = simp (lt-ltb _ _ (rw c.read-image.ensures at c.if-image-m.false), sym (rw (c.message_row-row.ensures, c.read-image.ensures) at c.field_by_name.ensures) ∙ c.in_err-j.was) c.from_residual.ensures

pub returns : goal.returns
unfolding carried_under schema_of schema_in
returns c = simp (lt-ltb _ _ (rw c.read-image.ensures at c.if-image-m.false), sym (rw (c.message_row-row.ensures, c.read-image.ensures) at c.field_by_name.ensures) ∙ c.in_ok-j.was) c.carried_at.ensures
