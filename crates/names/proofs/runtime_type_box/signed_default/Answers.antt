-- `names::runtime_type_box::signed_default` meets its contract. Assumes nothing.
use Rattle.std.proofs.Common.{rules, ◌≡◌, Some, None, Err, w64, ◌∙◌}
use mir.Val.{SFits}
use Rattle.std.proofs.lemmas.Int.{to_z-of_z}
use Rattle.names.specs.Integer.{signed, twos_complement}
use Rattle.names.specs.Default.{integer_default}
use Rattle.names.specs.declared.runtime_type_box.DefaultRefused.TheVariants.{Unreadable}
use Rattle.names.proofs.SignLaws.{complement}
use Rattle.names.proofs.runtime_type_box.signed_default.Goals as goal

pub returns-in_err-v : goal.returns-in_err-v
unfolding integer_default
returns-in_err-v c =
    let e : signed c.args.half c.args.value.now ≡ None = search rules in
    let h : c.from_residual.result ≡ Err Unreadable = search rules in
    rw e h

pub returns : goal.returns
unfolding integer_default
returns c =
    let e : signed c.args.half c.args.value.now ≡ Some c.in_ok-v.v = search rules in
    let f : SFits w64 c.in_ok-v.v = search rules in
    let u : c.cast_unsigned.result ≡ twos_complement c.in_ok-v.v = rw (to_z-of_z w64 c.in_ok-v.v f) at c.cast_unsigned.ensures ∙ complement c.in_ok-v.v in
    rw (e, c.from.ensures, u)
