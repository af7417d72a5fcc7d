-- `image::owners::owned` meets its contract: one marking behind another. Assumes nothing.
use Prim.Native.Nat.{ℕ, ◌+◌}
use native.Mathlib.Omega.{arith}
use mathlib.Core.Path.{sym, ◌∙◌}
use Rattle.lists.specs.Below.{bit, count_below}
use Rattle.image.specs.Words.{range_at, section_of, row_at}
use Rattle.image.specs.Layout.{covers}
use Rattle.image.specs.Marks.{Free, Marked}
use Rattle.image.proofs.OwnerLaws.{filled_free, marked_stop, marked_then, owned_not, owned_is}
use Rattle.image.proofs.owners.owned.Goals as goal
use Rattle.image.proofs.owners.owned.Goals.{Start, After-fill, then-mark_range, else-mark_range, Joined-mark_range}

-- how many owners row j has
abbrev total : Start → ℕ → ℕ
total c j =
    bit (covers c.args.own j)
    + count_below (section_of c.args.image.now.sections c.args.kind).count (λ p. covers (range_at c.args.image.now.words.now (row_at c.args.image.now.sections c.args.kind p + c.args.offset)) j)

free : (c : After-fill) → Free c.fill.new.self
free c = filled_free _ (c.fill.ensures.after (λ y e. e))

-- what both markings have done
marked : (c : Joined-mark_range) → Marked c.if-mark_range.value c.fill.new.self c.if-mark_range.marks (total (goal.at.Joined-mark_range c).Start)
marked c = elim c.if-mark_range.branch [
  | then-mark_range w ↦ rw (w.value-is, w.marks-is) (marked_then c.mark_range.auto.marks w.if-mark_range.true c.mark_range.ensures w.mark_held.ensures)
  | else-mark_range w ↦ rw (w.value-is, w.marks-is) (marked_stop w.if-mark_range.false (λ j. omega arith) c.mark_range.ensures)
]

pub returns-then-mark_held : goal.returns-then-mark_held
returns-then-mark_held c = c.all_marked.ensures
    ∙ rw (← c.fill.auto.self) (owned_is (free (goal.at.returns-then-mark_held c).After-fill) (marked (goal.at.returns-then-mark_held c).Joined-mark_range) c.if-mark_held.true (c.if-mark_range.auto.marks ∙ c.mark_range.auto.marks))

pub returns-else-mark_held : goal.returns-else-mark_held
returns-else-mark_held c = c.if-mark_held.false
    ∙ rw (← c.fill.auto.self) (sym (owned_not (free (goal.at.returns-else-mark_held c).After-fill) (marked (goal.at.returns-else-mark_held c).Joined-mark_range) (total (goal.at.returns-else-mark_held c).Start) (λ j. omega arith) c.if-mark_held.false))
