-- `image::siblings::shares_name_seen` meets its contract: no item before the present one has a twin, and each has left its mark; rule 8 is that
-- none has a twin. Assumes nothing.
use Prim.Native.Nat.{ℕ}
use mathlib.Core.Path.{◌≡◌}
use mathlib.Core.Bool.{Bool, false}
use mathlib.Core.List.{List}
use lib.ListN.{length}
use Rattle.lists.specs.Below.{any_below}
use Rattle.image.specs.Schema.{schema_in}
use Rattle.image.specs.Chained.{siblings}
use Rattle.image.specs.declared.rows.Sections.{Sections}
use Rattle.image.proofs.SeenLaws.{Marked}
use Rattle.image.proofs.TwinLaws.{ItemSeen}
use Rattle.image.proofs.siblings.shares_name_seen.Given as goal

-- an item before item i is a twin of it
abbrev pub twin : List ℕ → Sections → List ℕ → List ℕ → ℕ → Bool
twin image s pool links i = any_below i (siblings (schema_in image s pool) links i)

abbrev pub invariant-loop-i : goal.invariant-loop-i
invariant-loop-i l =
    (any_below l.i (twin l.image.rows.words.now l.image.rows.sections l.image.pool.now l.links) ≡ false) × Marked (ItemSeen (schema_in l.image.rows.words.now l.image.rows.sections l.image.pool.now) l.links) (length l.initial.seen) l.seen l.i
