-- `names::runtime_type_box::bool_default` meets its contract. Assumes nothing.
use Rattle.std.proofs.Common.{◌≡◌, true, false, sym, ◌∙◌}
use Rattle.lists.specs.Lists.{same}
use Rattle.lists.proofs.StdLaws.{same_pointwise}
use Rattle.names.specs.Default.{bool_default, true_text, false_text}
use Rattle.names.proofs.runtime_type_box.bool_default.Goals as goal

pub returns-then-eq : goal.returns-then-eq
unfolding bool_default
returns-then-eq c =
    let h : same c.args.value.now true_text ≡ true = sym (rw c.as_slice.ensures at c.eq.ensures ∙ same_pointwise c.args.value.now true_text) ∙ c.if-eq.true in
    simp (h, c.from.ensures)

pub returns-then-eq-2 : goal.returns-then-eq-2
unfolding bool_default
returns-then-eq-2 c =
    let h : same c.args.value.now true_text ≡ false = sym (rw c.as_slice.ensures at c.eq.ensures ∙ same_pointwise c.args.value.now true_text) ∙ c.if-eq.false in
    let k : same c.args.value.now false_text ≡ true = sym (rw c.as_slice-2.ensures at c.eq-2.ensures ∙ same_pointwise c.args.value.now false_text) ∙ c.if-eq-2.true in
    simp (h, k, c.from-then-eq-2.ensures)

pub returns : goal.returns
unfolding bool_default
returns c =
    let h : same c.args.value.now true_text ≡ false = sym (rw c.as_slice.ensures at c.eq.ensures ∙ same_pointwise c.args.value.now true_text) ∙ c.if-eq.false in
    let k : same c.args.value.now false_text ≡ false = sym (rw c.as_slice-2.ensures at c.eq-2.ensures ∙ same_pointwise c.args.value.now false_text) ∙ c.if-eq-2.false in
    simp (h, k)
