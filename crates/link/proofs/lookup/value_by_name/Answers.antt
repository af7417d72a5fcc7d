-- `link::lookup::value_by_name` meets its contract. Assumes nothing.
use mathlib.Core.Path.{◌≡◌, ◌∙◌}
use Rattle.std.proofs.Common.{rules}
use Rattle.std.specs.Prelude.{Err}
use Rattle.link.specs.Lookup.{asked_of, value_named}
use Rattle.link.proofs.LookupLaws.{looked_refused, looked_none, looked_there}
use Rattle.link.proofs.lookup.value_by_name.Goals as goal

pub returns-in_err-file : goal.returns-in_err-file
returns-in_err-file c =
    let h : c.from_residual.result ≡ Err c.in_err-file.field-0.0 = search rules in
    h ∙ looked_refused (asked_of c.args.lent.now) c.args.file c.open_file.ensures (λ x. value_named x c.args.index c.args.name.now) c.in_err-file.was

pub returns-in_default : goal.returns-in_default
returns-in_default c = looked_none (asked_of c.args.lent.now) c.args.file c.open_file.ensures (λ x. value_named x c.args.index c.args.name.now) c.in_ok-file.was c.in_default.is

pub returns : goal.returns
returns c = looked_there (asked_of c.args.lent.now) c.args.file c.open_file.ensures (λ x. value_named x c.args.index c.args.name.now) c.in_ok-file.was c.in-Some.is c.value_by_name.ensures
