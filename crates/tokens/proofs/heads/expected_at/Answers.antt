-- `tokens::heads::expected_at` meets its contract. Assumes nothing.
use mathlib.Core.Path.{sym, ◌∙◌}
use Rattle.tokens.specs.Heads.{expected_at}
use Rattle.tokens.proofs.heads.expected_at.Goals as goal

pub returns-then-is : goal.returns-then-is
unfolding expected_at
returns-then-is c = rw (sym c.is.ensures ∙ c.if-is.true, c.number.ensures, c.next-n.ensures)

pub returns-then-is-2 : goal.returns-then-is-2
unfolding expected_at
returns-then-is-2 c = rw (sym c.is.ensures ∙ c.if-is.false, sym c.is-2.ensures ∙ c.if-is-2.true, c.number-then-is-2-2.ensures, c.number-then-is-2.ensures, c.next-p.ensures, c.next-n.ensures)

pub returns-then-is-3 : goal.returns-then-is-3
unfolding expected_at
returns-then-is-3 c = rw (sym c.is.ensures ∙ c.if-is.false, sym c.is-2.ensures ∙ c.if-is-2.false, sym c.is-3.ensures ∙ c.if-is-3.true)

pub returns : goal.returns
unfolding expected_at
returns c = rw (sym c.is.ensures ∙ c.if-is.false, sym c.is-2.ensures ∙ c.if-is-2.false, sym c.is-3.ensures ∙ c.if-is-3.false)
