-- `link::audit::shape_at` meets its contract. Assumes nothing.
use mathlib.Core.Path.{ap}
use borrow.Author.Tests.{lt-ltb, le-ltb}
use lib.ListN.{get_or}
use Rattle.std.specs.Prelude.{List, ℕ}
use Rattle.image.specs.Schema.{schema_in, schema_of}
use Rattle.link.specs.Audit.{shape_at}
use Rattle.link.proofs.audit.shape_at.Goals as goal

pub returns-then-image-k : goal.returns-then-image-k
unfolding shape_at schema_of schema_in
returns-then-image-k c = simp (le-ltb _ _ (rw c.read-image.ensures at c.if-image-k.true))

pub returns : goal.returns
unfolding shape_at schema_of schema_in
returns c = simp (lt-ltb _ _ (rw c.read-image.ensures at c.if-image-k.false)) (ap (λ (x : List ℕ). get_or x 5 0) (rw c.read-image.ensures at c.field_link_row-link.ensures))
