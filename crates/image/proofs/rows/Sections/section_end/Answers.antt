-- `image::rows::Sections::section_end` meets its contract. Assumes nothing.
use Prim.Native.Nat.{ℕ}
use mathlib.Core.Path.{ap, ◌∙◌}
use Rattle.image.specs.Words.{row_at, section_end}
use Rattle.image.specs.declared.rows.Section.{Section}
use Rattle.image.proofs.rows.Sections.section_end.Goals as goal

pub returns : goal.returns
unfolding section_end
returns c = let a = c.args in
    c.row_at.ensures.0 ∙ ap (λ (n : ℕ). row_at a.self.now a.kind n) (ap (λ (x : Section). x.count) c.section_of-section.ensures)
