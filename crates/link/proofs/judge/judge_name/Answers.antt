-- `link::judge::judge_name` meets its contract. Assumes nothing.
use Rattle.image.specs.Verdict.{first}
use Rattle.link.specs.Refusals.{name_lines}
use Rattle.link.proofs.judge.judge_name.Goals as goal

pub returns-then-is_some : goal.returns-then-is_some
unfolding first name_lines
returns-then-is_some c = simp (← c.file_name.ensures, ← c.file_named.ensures, ← c.is_some.ensures, c.if-is_some.true, c.at.ensures)

pub returns : goal.returns
unfolding first name_lines
returns c = simp (← c.file_name.ensures, ← c.file_named.ensures, ← c.is_some.ensures, c.if-is_some.false)
