-- `tokens::heads::head_of` meets its contract. Assumes nothing.
use Rattle.tokens.specs.Heads.{head_of}
use Rattle.tokens.proofs.heads.head_of.Goals as goal

pub returns : goal.returns
unfolding head_of
returns c = rw (c.number-2.ensures, c.number.ensures, c.expected_at-expect.ensures, c.next.ensures, c.next-b.ensures, c.next-w.ensures)
