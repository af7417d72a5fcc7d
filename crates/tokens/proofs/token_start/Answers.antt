-- `tokens::token_start` meets its contract: from each place on the answer is the same. Assumes nothing.
use native.Mathlib.Nat.{add-zero}
use native.Mathlib.Omega.{arith}
use mathlib.Core.Bool.{false}
use mathlib.Core.Path.{sym, ◌∙◌}
use lib.ListN.{length}
use Rattle.lists.proofs.Cases.{order}
use Rattle.tokens.proofs.TokenLaws.{passed_more, passed_stop, passed_end}
use Rattle.tokens.proofs.token_start.Goals as goal

pub returns-then-not-is_passed_over : goal.returns-then-not-is_passed_over
returns-then-not-is_passed_over c =
    let l = c.loop-i in
    let e = sym c.is_passed_over.ensures ∙ c.if-not-is_passed_over.true in
    sym (l.invariant ∙ rw (passed_stop l.comment c.in_comment-comment.result c.args.text.now l.i c.loop-i-test.true c.in_comment-comment.ensures e) (add-zero l.i))

pub loop-i-preserved : goal.loop-i-preserved
loop-i-preserved c =
    let l = c.loop-i in
    let e = sym c.is_passed_over.ensures ∙ c.if-not-is_passed_over.false in
    l.invariant ∙ rw (passed_more l.comment c.in_comment-comment.result c.args.text.now l.i c.loop-i-test.true c.in_comment-comment.ensures e) (omega arith)

pub returns : goal.returns
returns c =
    let a = c.args in
    let l = c.loop-i in
    order (length a.text.now) a.at
    (λ h. omega (arith, c.max.ensures, passed_end false a.text.now a.at (omega arith)))
    (λ h. omega (arith, c.max.ensures, l.invariant, passed_end l.comment a.text.now l.i c.loop-i-test.false))
