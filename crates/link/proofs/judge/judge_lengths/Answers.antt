-- `link::judge::judge_lengths` meets its contract. Assumes nothing.
use Rattle.std.proofs.Common.{arith}
use Rattle.std.proofs.lemmas.Grind.{common_steps}
use Rattle.image.specs.Verdict.{first}
use Rattle.link.specs.Refusals.{length_lines}
use Rattle.link.proofs.judge.judge_lengths.Goals as goal

pub returns-then-pool-le32768 : goal.returns-then-pool-le32768
unfolding first length_lines
returns-then-pool-le32768 c = grind (arith, common_steps)

pub returns : goal.returns
unfolding first length_lines
returns c = grind (arith, common_steps)
