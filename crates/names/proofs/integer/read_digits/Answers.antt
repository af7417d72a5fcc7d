-- `names::integer::read_digits` meets its contract: what is left answers for the whole, and what went past 64 bits stays past the limit. Assumes nothing.
use Rattle.std.proofs.Common.{rules, arith, ◌≡◌, ◌+◌, ◌*◌, ◌-◌, ◌<◌, true, false, length, drop, get_or, ap, ◌∙◌, sym}
use borrow.Author.Tests.{tests}
use Rattle.names.specs.Bytes.{is_digit}
use Rattle.names.specs.Integer.{within, decimal_from}
use Rattle.names.proofs.IntegerLaws.{decimal_at, decimal_stop, decimal_end, decimal_none, decimal_some, within_none, within_some, within_over, digit_over}
use Rattle.names.proofs.integer.read_digits.Goals as goal

pub returns-then-is_empty : goal.returns-then-is_empty
returns-then-is_empty c =
    let h : length c.args.s.now ≡ 0 = search (rules, tests) in
    simp (decimal_none c.args.s.now h, within_none)

pub loop-b-init : goal.loop-b-init
loop-b-init c = decimal_some c.args.s.now (λ e. search (rules, tests, e))

pub returns-then-not-is_ascii_digit : goal.returns-then-not-is_ascii_digit
returns-then-not-is_ascii_digit c =
    let s = c.args.s.now in
    let l = c.loop-b in
    let e : is_digit (get_or s l.b-index 0) ≡ false = search (rules, tests) in
    simp (l.invariant, decimal_stop l.n s l.b-index c.loop-b-test.true e, within_none)

pub returns-in_err-checked_mul : goal.returns-in_err-checked_mul
returns-in_err-checked_mul c =
    let s = c.args.s.now in
    let l = c.loop-b in
    let e : is_digit (get_or s l.b-index 0) ≡ true = search (rules, tests) in
    let h = c.in_err-checked_mul.ensures in
    let k : c.args.limit < l.n * 10 + (get_or s l.b-index 0 - 48) = omega (arith, h, c.ranges.limit.fits) in
    c.from_residual.ensures ∙ sym (digit_over c.args.limit l.n s l.b-index c.loop-b-test.true e l.invariant k)

pub returns-in_err-n : goal.returns-in_err-n
returns-in_err-n c =
    let s = c.args.s.now in
    let l = c.loop-b in
    let e : is_digit (get_or s l.b-index 0) ≡ true = search (rules, tests) in
    let h = c.in_err-n.ensures in
    let m = c.in_ok-checked_mul.ensures.1 in
    let k : c.args.limit < l.n * 10 + (get_or s l.b-index 0 - 48) = omega (arith, h, m, c.from.ensures, c.ranges.limit.fits) in
    c.from_residual-in_err-n.ensures ∙ sym (digit_over c.args.limit l.n s l.b-index c.loop-b-test.true e l.invariant k)

pub loop-b-preserved : goal.loop-b-preserved
loop-b-preserved c =
    let s = c.args.s.now in
    let l = c.loop-b in
    let e : is_digit (get_or s l.b-index 0) ≡ true = search (rules, tests) in
    let h = c.in_ok-n.ensures.1 in
    let m = c.in_ok-checked_mul.ensures.1 in
    let k : l.n * 10 + (get_or s l.b-index 0 - 48) ≡ c.in_ok-n.n = omega (arith, h, m, c.from.ensures) in
    l.invariant ∙ decimal_at l.n s l.b-index c.loop-b-test.true e ∙ ap (λ n. decimal_from n (drop (l.b-index + 1) s)) k

pub returns-then-n-limit : goal.returns-then-n-limit
returns-then-n-limit c =
    let l = c.loop-b in
    simp (l.invariant, decimal_end l.n c.args.s.now l.b-index c.loop-b-test.false, within_some c.args.limit l.n c.if-n-limit.true)

pub returns-else-n-limit : goal.returns-else-n-limit
returns-else-n-limit c =
    let l = c.loop-b in
    sym (ap (within c.args.limit) l.invariant ∙ within_over c.args.limit l.n (drop l.b-index c.args.s.now) c.if-n-limit.false)
