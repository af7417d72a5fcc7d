-- `link::link::link_in` meets its contract. Assumes nothing.
use mathlib.Core.Path.{◌≡◌, sym, ◌∙◌}
use Rattle.std.proofs.Common.{rules}
use Rattle.std.specs.Prelude.{Err}
use Rattle.link.specs.Phases.{call_to, from_opening}
use Rattle.link.proofs.PhaseLaws.{fields_front, outcome_stopped, outcome_passed}
use Rattle.link.proofs.link.link_in.Goals as goal

pub returns-in_err-judge_opened : goal.returns-in_err-judge_opened
returns-in_err-judge_opened c =
    let k = (call_to c.args.words.now c.args.bytes.now c.args.new.now) in
    let e : c.from_residual.result ≡ Err c.in_err-judge_opened.field-0.0 = search rules in
    rw e (outcome_stopped k (from_opening k) c.judge_opened.ensures.value c.in_err-judge_opened.was)

pub accept-requires-clause-rows_value : goal.accept-requires-clause-rows_value
accept-requires-clause-rows_value c =
    let passed = c.in_ok-judge_opened.was in
    fields_front (call_to c.args.words.now c.args.bytes.now c.args.new.now) (sym c.judge_opened.ensures.value ∙ passed) _ (c.judge_opened.ensures.rows_after passed)

pub returns : goal.returns
returns c =
    let k = (call_to c.args.words.now c.args.bytes.now c.args.new.now) in
    outcome_passed k (from_opening k) c.judge_opened.ensures.value c.in_ok-judge_opened.was c.accept.ensures.value c.accept.ensures.words_after c.accept.ensures.bytes_after
