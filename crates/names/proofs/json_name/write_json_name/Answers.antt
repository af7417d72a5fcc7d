-- `names::json_name::write_json_name` meets its contract: what is written is a splice of the first bytes of the derived name. Assumes nothing.
use Rattle.std.proofs.Common.{rules, arith, ◌≡◌, ◌<◌, ◌≤◌, ◌^◌, ◌+◌, length, List, ℕ, ap, sym, ◌∙◌, zero-add, length-drop}
use mathlib.Core.Logic.{inl}
use Rattle.std.proofs.lemmas.Iterator.Consumers.{YieldsList-from_first, count_from_yields_List}
use Rattle.lists.proofs.ListLaws.{drop_first}
use Rattle.lists.proofs.SpliceLaws.{splice_nil, splice_more, splice_all, fronted_fits, fronted_short}
use Rattle.names.specs.Json.{derived_json_name, json_left}
use Rattle.names.proofs.JsonLaws.{length_derived}
use Rattle.names.proofs.json_name.write_json_name.Goals as goal
use Rattle.names.proofs.json_name.write_json_name.Goals.{After-count-n}

-- what is counted
counted : (c : After-count-n) → c.count-n.result ≡ length (derived_json_name c.args.name.now)
counted c = count_from_yields_List c.new.result c.count-n.result c.count-n.ensures.ran (YieldsList-from_first (λ x. x) json_left (derived_json_name c.args.name.now) c.new.ensures)

pub count-n-requires-clause-fits : goal.count-n-requires-clause-fits
count-n-requires-clause-fits c =
    let h : length c.args.name.now < 2 ^ 64 = search rules in
    inl (omega (arith, ap length c.new.ensures, length_derived c.args.name.now, h))

pub returns-then-out-n-clause-out_after : goal.returns-then-out-n-clause-out_after
returns-then-out-n-clause-out_after c = sym (fronted_short _ _ (omega (arith, counted (goal.at.returns-then-out-n-clause-out_after c).After-count-n, c.if-out-n.true)))

pub loop-j-init : goal.loop-j-init
loop-j-init c =
    let whole = derived_json_name c.args.name.now in
    let e = c.enumerate-j-items.ensures in
    let i = c.into_iter-j-iterator.ensures.into_iter_gives in
    let none : c.into_iter-j-iterator.result.count ≡ 0 = ap (λ it. it.count) i ∙ e.count in
    let all : json_left c.into_iter-j-iterator.result.iter ≡ whole = ap (λ it. json_left it.iter) i ∙ ap json_left e.source ∙ c.new-2.ensures in
    (rw none all, rw none (sym (splice_nil c.args.out.now 0)))

pub loop-j-preserved : goal.loop-j-preserved
loop-j-preserved c =
    let whole = derived_json_name c.args.name.now in
    let j = c.loop-j.j-iterator.count in
    let h = c.in-Some.ensures.steps in
    let i = c.loop-j.invariant in
    let f = drop_first whole j c.in-Some.b (json_left c.next.new.self.iter) 0 (sym i.0 ∙ h.0) in
    let room : 0 + j < length c.args.out.now = omega (arith, f.0, counted (goal.at.loop-j-preserved c).After-count-n, c.if-out-n.false) in
    (rw h.2 (sym f.2), rw (h.1, h.2, i.1, ← f.1) (rw zero-add at (splice_more c.args.out.now 0 whole j 0 room f.0)))

pub returns-clause-out_after : goal.returns-clause-out_after
returns-clause-out_after c =
    let whole = derived_json_name c.args.name.now in
    let j = c.loop-j.j-iterator.count in
    let i = c.loop-j.invariant in
    let fits : length whole ≤ length c.args.out.now = omega (arith, counted (goal.at.returns-clause-out_after c).After-count-n, c.if-out-n.false) in
    let e : length whole ≤ j = omega (arith, simp length-drop at (ap (λ (l : List ℕ). length l) (sym i.0 ∙ c.in-None.ensures.steps.0.0))) in
    i.1 ∙ splice_all c.args.out.now 0 whole j e ∙ sym (fronted_fits c.args.out.now whole fits)
