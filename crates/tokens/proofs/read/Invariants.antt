-- `tokens::read` meets its contract: what is left of the text gives what is left to read. Assumes nothing.
use Rattle.tokens.specs.Tokens.{number_of}
use Rattle.tokens.proofs.ReadingLaws.{Reading}
use Rattle.tokens.proofs.read.Given as goal

abbrev pub invariant-loop-i : goal.invariant-loop-i
invariant-loop-i g l = Reading (λ t. g.T.FromNumber.of_number (number_of l.text t)) l.text l.at l.n l.initial.items l.items l.end l.i
