-- `image::owners::all_marked` meets its contract. Assumes nothing.
use Rattle.std.proofs.Common.{rules, tests, eqb}
use Rattle.std.proofs.lemmas.Iterator.{YieldsList-from_slice}
use Rattle.std.proofs.lemmas.Iterator.Search.{all_from_yields_List}
use mathlib.Core.Path.{◌∙◌}
use Rattle.lists.proofs.StdLaws.{list_all_below}
use Rattle.image.proofs.owners.all_marked.Goals as goal

pub returns : goal.returns
returns c = all_from_yields_List (λ m. eqb m 1) _ _ _ c.all.ensures.ran (YieldsList-from_slice c.args.marks.now cc) (λ x b q k. search (rules, tests)) ∙ list_all_below _ c.args.marks.now 0
