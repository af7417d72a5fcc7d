-- `tokens::next` meets its contract. Assumes nothing.
use Rattle.tokens.specs.Tokens.{next_token}
use Rattle.tokens.proofs.next.Goals as goal

pub returns : goal.returns
unfolding next_token
returns c = rw (c.token_end-end.ensures, c.token_start-start.ensures)
