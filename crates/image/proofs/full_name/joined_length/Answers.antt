-- `image::full_name::joined_length` meets its contract. Assumes nothing.
use borrow.Author.Tests.{eq-eqb, ne_eqb}
use Rattle.image.proofs.full_name.joined_length.Goals as goal

pub returns-then-second-eq0 : goal.returns-then-second-eq0
returns-then-second-eq0 c = rw (eq-eqb c.args.second 0 c.if-second-eq0.true)

pub returns-then-first-eq0 : goal.returns-then-first-eq0
returns-then-first-eq0 c = rw (ne_eqb c.args.second 0 c.if-second-eq0.false, eq-eqb c.args.first 0 c.if-first-eq0.true)

pub returns : goal.returns
returns c = rw (ne_eqb c.args.second 0 c.if-second-eq0.false, ne_eqb c.args.first 0 c.if-first-eq0.false)
