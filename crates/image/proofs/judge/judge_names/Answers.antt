-- `image::judge::judge_names` meets its contract. Assumes nothing.
use mathlib.Core.Path.{sym, ap, ◌∙◌}
use Rattle.std.specs.Prelude.{Err}
use Rattle.image.specs.declared.verdict.Refused.{Refused}
use Rattle.image.specs.Verdict.{first}
use Rattle.image.specs.Judge.{naming_lines}
use Rattle.image.proofs.judge.judge_names.Goals as goal

pub returns-then-shares_name : goal.returns-then-shares_name
unfolding naming_lines first
returns-then-shares_name c = ap (λ (r : Refused). Err r) c.at.ensures ∙ sym (simp (← c.shares_name.ensures, c.if-shares_name.true))

pub returns : goal.returns
unfolding naming_lines first
returns c = c.judge_map_entries.ensures ∙ sym (simp (← c.shares_name.ensures, c.if-shares_name.false))
