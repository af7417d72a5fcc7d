-- `link::link::link` meets its contract. Assumes nothing.
use mathlib.Core.Path.{◌≡◌, refl, sym, ap, ◌∙◌}
use mathlib.Core.List.{◌++◌}
use Rattle.std.proofs.Common.{rules}
use Rattle.std.specs.Prelude.{Err}
use Rattle.link.specs.Refusals.{length_lines, shelf_lines}
use Rattle.link.specs.Link.{outcome}
use Rattle.link.specs.Phases.{call_of, from_opening}
use Rattle.link.proofs.PhaseLaws.{stops_here, goes_on_lem, shelf_broken, shelf_formed, shelf_fine, outcome_stopped, linked-from}
use Rattle.link.proofs.link.link.Goals as goal

pub returns-in_err-judge_lengths : goal.returns-in_err-judge_lengths
returns-in_err-judge_lengths c =
    let k = (call_of c.args.words.now c.args.bytes.now c.args.used c.args.image.now c.args.pool.now) in
    let rest = shelf_lines k ++ from_opening k in
    let e : c.from_residual.result ≡ Err c.in_err-judge_lengths.field-0.0 = search rules in
    rw e (outcome_stopped k (length_lines k ++ rest) (stops_here (length_lines k) rest c.judge_lengths.ensures c.in_err-judge_lengths.was) refl) ∙ linked-from k

pub returns-in_default : goal.returns-in_default
returns-in_default c =
    let k = (call_of c.args.words.now c.args.bytes.now c.args.used c.args.image.now c.args.pool.now) in
    let rest = shelf_lines k ++ from_opening k in
    let broken = shelf_broken k c.read_shelf.ensures c.in_default.is in
    rw c.at.ensures (outcome_stopped k (length_lines k ++ rest) (goes_on_lem (length_lines k) rest c.judge_lengths.ensures c.in_ok-judge_lengths.was (stops_here (shelf_lines k) (from_opening k) broken refl)) refl) ∙ linked-from k

pub link_shelved-requires : goal.link_shelved-requires
link_shelved-requires c = record {
  lengths = sym c.judge_lengths.ensures ∙ c.in_ok-judge_lengths.was;
  formed = shelf_formed (call_of c.args.words.now c.args.bytes.now c.args.used c.args.image.now c.args.pool.now) c.read_shelf.ensures c.in-Some.is;
  places = sym c.in-Some.is ∙ c.read_shelf.ensures;
}

pub returns : goal.returns
returns c =
    let k = (call_of c.args.words.now c.args.bytes.now c.args.used c.args.image.now c.args.pool.now) in
    let rest = shelf_lines k ++ from_opening k in
    let fine = shelf_fine k c.read_shelf.ensures c.in-Some.is in
    c.link_shelved.ensures
    ∙ ap (outcome k) (goes_on_lem (length_lines k) rest c.judge_lengths.ensures c.in_ok-judge_lengths.was (goes_on_lem (shelf_lines k) (from_opening k) (sym fine) refl refl))
    ∙ linked-from k
