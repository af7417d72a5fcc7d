-- `names::name::strip_package` meets its contract. Assumes nothing.
use Rattle.std.proofs.Common.{rules, ◌≡◌, false, length, drop, [], ◌∷◌, sym, ap, ◌∙◌}
use borrow.Author.Tests.{tests}
use Rattle.std.specs.Option.{option_map}
use Rattle.lists.specs.Lists.{is_prefix_of}
use Rattle.lists.proofs.StdLaws.{prefix_taken}
use Rattle.names.proofs.PackageLaws.{lies_root, lies_more, lies_dot, lead_root, stripped_none, stripped_some, stripped_last}
use Rattle.names.proofs.name.strip_package.Goals as goal

pub returns-in_err-tail : goal.returns-in_err-tail
returns-in_err-tail c =
    let s = c.args.name.now in
    let p = c.args.package.now in
    ap (option_map (λ rest. rest.now)) c.from_residual.ensures ∙ stripped_none s p (lies_dot s p (sym (prefix_taken (46 ∷ []) s) ∙ c.in_err-tail.ensures.cases))

pub returns-then-is_empty : goal.returns-then-is_empty
returns-then-is_empty c =
    let s = c.args.name.now in
    let p = c.args.package.now in
    let t = c.in_ok-tail.ensures.cases in
    let z : length p ≡ 0 = search (rules, tests) in
    stripped_some s p c.in_ok-tail.tail.now (lies_root s p z ∙ sym (prefix_taken (46 ∷ []) s) ∙ t.0) (t.1 ∙ ap (λ k. drop k s) (sym (lead_root p z)))

pub returns-in_err-strip_prefix : goal.returns-in_err-strip_prefix
returns-in_err-strip_prefix c =
    let s = c.args.name.now in
    let p = c.args.package.now in
    let n : length p ≡ 0 → ⊥ = λ z. search (rules, tests, z) in
    let e : is_prefix_of p (drop 1 s) ≡ false = rw (← c.in_ok-tail.ensures.cases.1) (sym (prefix_taken p c.in_ok-tail.tail.now) ∙ c.in_err-strip_prefix.ensures.cases) in
    let d = sym (prefix_taken (46 ∷ []) s) ∙ c.in_ok-tail.ensures.cases.0 in
    ap (option_map (λ rest. rest.now)) c.from_residual-in_err-strip_prefix.ensures ∙ stripped_none s p (lies_more s p n ∙ simp (d, e))

pub returns : goal.returns
returns c =
    let s = c.args.name.now in
    let p = c.args.package.now in
    let t = c.in_ok-tail.ensures.cases in
    let u = c.in_ok-strip_prefix.ensures.cases in
    let n : length p ≡ 0 → ⊥ = λ z. search (rules, tests, z) in
    stripped_last s p c.in_ok-strip_prefix.field-0.now c.strip_prefix-3.result n (sym (prefix_taken (46 ∷ []) s) ∙ t.0) (rw (← t.1) (sym (prefix_taken p c.in_ok-tail.tail.now) ∙ u.0)) (rw (← t.1) u.1) c.strip_prefix-3.ensures.cases
