-- `image::judge::judge_map_entries` meets its contract: no message before the present one breaks a rule. Assumes nothing.
use Prim.Native.Nat.{ℕ, ◌<◌}
use native.Mathlib.Omega.{arith}
use mathlib.Core.Path.{◌≡◌, sym, ap, ◌∙◌}
use Rattle.std.proofs.Common.{rules, tests}
use Rattle.image.specs.Schema.{schema}
use Rattle.image.specs.MapEntry.{entry_lines}
use Rattle.image.specs.Verdict.{first, in_order}
use Rattle.image.specs.Judge.{map_entry_lines}
use Rattle.image.proofs.SchemaLaws.{messages_in}
use Rattle.image.proofs.VerdictLaws.{order_start, order_more, order_stop}
use Rattle.image.proofs.judge.judge_map_entries.Invariants.{lines_of}
use Rattle.image.proofs.judge.judge_map_entries.Goals as goal
use Rattle.image.proofs.judge.judge_map_entries.Goals.{After-judge_map_entry}

-- what the call answers, in the lines of the message
told : (c : After-judge_map_entry) → c.judge_map_entry.result ≡ first (lines_of (schema c.args.image.now) c.args.links.now c.loop-m.m)
told c = c.judge_map_entry.ensures ∙ ap (λ (r : ℕ). first (entry_lines (schema c.args.image.now) r c.loop-m.m)) c.message_row-row.ensures

pub loop-m-init : goal.loop-m-init
loop-m-init c = order_start (lines_of (schema c.args.image.now) c.args.links.now)

pub returns-in_err-judge_map_entry : goal.returns-in_err-judge_map_entry
unfolding map_entry_lines
returns-in_err-judge_map_entry c =
    let a = c.args in
    let g = schema a.image.now in
    let m = c.loop-m.m in
    let e : c.from_residual.result ≡ c.judge_map_entry.result = search (rules, tests) in
    let below : m < g.messages = omega (arith, messages_in a.image.now.rows.words.now a.image.now.rows.sections a.image.now.pool.now, c.loop-m-test.true) in
    let was = c.in_err-judge_map_entry.was in
    e ∙ was ∙ sym (order_stop g.messages (lines_of g a.links.now) m _ below c.loop-m.invariant (sym (told (goal.at.returns-in_err-judge_map_entry c).After-judge_map_entry) ∙ was))

pub loop-m-preserved : goal.loop-m-preserved
loop-m-preserved c = order_more c.loop-m.m (lines_of (schema c.args.image.now) c.args.links.now) c.loop-m.invariant (sym (told (goal.at.loop-m-preserved c).After-judge_map_entry) ∙ c.in_ok-judge_map_entry.was)

pub returns : goal.returns
unfolding map_entry_lines
returns c =
    let g = schema c.args.image.now in
    let e : c.loop-m.m ≡ g.messages = omega (arith, messages_in c.args.image.now.rows.words.now c.args.image.now.rows.sections c.args.image.now.pool.now, c.loop-m.auto.m-end) in
    sym (ap (λ (n : ℕ). first (in_order n (lines_of g c.args.links.now))) (sym e) ∙ c.loop-m.invariant)
