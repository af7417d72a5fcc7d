-- `image::full_name::ends_in` meets its contract. Assumes nothing.
use mathlib.Core.Path.{◌≡◌, sym, ◌∙◌}
use borrow.Author.Tests.{eq-eqb, ne_eqb}
use native.Mathlib.Omega.{arith}
use Prim.Native.Nat.{◌-◌}
use lib.ListN.{length, drop}
use Rattle.lists.specs.Lists.{same, part}
use Rattle.lists.proofs.ListLaws.{part_all}
use Rattle.lists.proofs.StdLaws.{same_pointwise}
use Rattle.image.proofs.PathTexts.{ends-dot}
use Rattle.image.proofs.full_name.ends_in.Goals as goal

pub returns-then-text-start-eq46 : goal.returns-then-text-start-eq46
returns-then-text-start-eq46 c = let a = c.args in
    let e : c.eq.result ≡ same (drop (length a.text.now - length a.name.now) a.text.now) a.name.now = simp part_all at (c.eq.ensures ∙ same_pointwise (part (length a.text.now - length a.name.now) (length a.text.now - (length a.text.now - length a.name.now)) a.text.now) a.name.now) in
    e ∙ sym (ends-dot a.text.now a.name.now (omega arith) ∙ rw (eq-eqb _ 46 c.if-text-start-eq46.true))

pub returns-else-text-start-eq46 : goal.returns-else-text-start-eq46
returns-else-text-start-eq46 c = let a = c.args in
    rw (ne_eqb _ 46 c.if-text-start-eq46.false) (sym (ends-dot a.text.now a.name.now (omega arith) ∙ rw (ne_eqb _ 46 c.if-text-start-eq46.false)))
