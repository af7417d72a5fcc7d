-- `link::judge::judge_imports` meets its contract: each import before the present one is on the shelf. Assumes nothing.
use mathlib.Core.Path.{◌≡◌}
use Rattle.std.specs.Prelude.{Ok}
use Rattle.image.specs.Schema.{schema}
use Rattle.image.specs.Places.{shelf_files}
use Rattle.image.specs.Verdict.{first, in_order}
use Rattle.link.proofs.FirstLaws.{import_line}
use Rattle.link.proofs.judge.judge_imports.Given as goal

abbrev pub invariant-loop-i : goal.invariant-loop-i
invariant-loop-i l = first (in_order l.i (import_line (shelf_files l.shelf l.n) (schema l.image))) ≡ Ok tt
