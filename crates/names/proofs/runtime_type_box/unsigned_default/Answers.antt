-- `names::runtime_type_box::unsigned_default` meets its contract. Assumes nothing.
use Rattle.std.proofs.Common.{rules, ◌≡◌, Some, None, Err}
use Rattle.names.specs.Integer.{unsigned, as_integer, twos_complement}
use Rattle.names.specs.Default.{integer_default}
use Rattle.names.specs.declared.runtime_type_box.DefaultRefused.TheVariants.{Unreadable}
use Rattle.names.proofs.runtime_type_box.unsigned_default.Goals as goal

pub returns-in_err-n : goal.returns-in_err-n
unfolding integer_default as_integer
returns-in_err-n c =
    let e : unsigned c.args.limit c.args.value.now ≡ None = search rules in
    let h : c.from_residual.result ≡ Err Unreadable = search rules in
    rw e h

pub returns : goal.returns
unfolding integer_default as_integer twos_complement
returns c =
    let e : unsigned c.args.limit c.args.value.now ≡ Some c.in_ok-n.n = search rules in
    rw (e, c.from.ensures)
