-- `image::owners::fields_owned` meets its contract: one marking behind another. Assumes nothing.
use Prim.Native.Nat.{ℕ, ◌+◌}
use native.Mathlib.Omega.{arith}
use mathlib.Core.Path.{sym, ◌∙◌}
use Rattle.lists.specs.Below.{bit}
use Rattle.image.specs.Words.{fields_of, extensions_of}
use Rattle.image.specs.Layout.{covers, holders}
use Rattle.image.specs.Marks.{Free, Marked}
use Rattle.image.proofs.OwnerLaws.{filled_free, marked_stop, marked_then, owned_not, owned_is}
use Rattle.image.proofs.owners.fields_owned.Goals as goal
use Rattle.image.proofs.owners.fields_owned.Goals.{Start, After-fill, then-mark_range, else-mark_range, Joined-mark_range, then-mark_held, else-mark_held, Joined-mark_held}

-- how many owners row j has as a field, and in all
abbrev some : Start → ℕ → ℕ
some c j = bit (covers c.args.own j) + holders c.args.image.now.sections (fields_of c.args.image.now.words.now c.args.image.now.sections) j

abbrev total : Start → ℕ → ℕ
total c j = some c j + holders c.args.image.now.sections (extensions_of c.args.image.now.words.now c.args.image.now.sections) j

free : (c : After-fill) → Free c.fill.new.self
free c = filled_free _ (c.fill.ensures.after (λ y e. e))

-- what the first two markings have done, and all three
both : (c : Joined-mark_range) → Marked c.if-mark_range.value c.fill.new.self c.if-mark_range.marks (some (goal.at.Joined-mark_range c).Start)
both c = elim c.if-mark_range.branch [
  | then-mark_range w ↦ rw (w.value-is, w.marks-is) (marked_then c.mark_range.auto.marks w.if-mark_range.true c.mark_range.ensures w.mark_held.ensures)
  | else-mark_range w ↦ rw (w.value-is, w.marks-is) (marked_stop w.if-mark_range.false (λ j. omega arith) c.mark_range.ensures)
]

marked : (c : Joined-mark_held) → Marked c.if-mark_held.value c.fill.new.self c.if-mark_held.marks (total (goal.at.Joined-mark_held c).Start)
marked c = elim c.if-mark_held.branch [
  | then-mark_held w ↦ rw (w.value-is, w.marks-is) (marked_then (c.if-mark_range.auto.marks ∙ c.mark_range.auto.marks) w.if-mark_held.true (both (goal.at.Joined-mark_held c).Joined-mark_range) w.mark_held-then-mark_held.ensures)
  | else-mark_held w ↦ rw (w.value-is, w.marks-is) (marked_stop w.if-mark_held.false (λ j. omega arith) (both (goal.at.Joined-mark_held c).Joined-mark_range))
]

pub returns-then-mark_held-2 : goal.returns-then-mark_held-2
returns-then-mark_held-2 c = c.all_marked.ensures
    ∙ rw (← c.fill.auto.self) (owned_is (free (goal.at.returns-then-mark_held-2 c).After-fill) (marked (goal.at.returns-then-mark_held-2 c).Joined-mark_held) c.if-mark_held-2.true (c.if-mark_held.auto.marks ∙ c.if-mark_range.auto.marks ∙ c.mark_range.auto.marks))

pub returns-else-mark_held-2 : goal.returns-else-mark_held-2
returns-else-mark_held-2 c = c.if-mark_held-2.false
    ∙ rw (← c.fill.auto.self) (sym (owned_not (free (goal.at.returns-else-mark_held-2 c).After-fill) (marked (goal.at.returns-else-mark_held-2 c).Joined-mark_held) (total (goal.at.returns-else-mark_held-2 c).Start) (λ j. omega arith) c.if-mark_held-2.false))
