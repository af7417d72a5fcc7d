-- `image::well_formed::file_named` meets its contract: the first file whose name is that. Assumes nothing.
use mathlib.Core.Path.{◌∙◌}
use Rattle.std.proofs.Common.{rules, tests}
use Rattle.lists.proofs.StdLaws.{same_pointwise}
use Rattle.image.proofs.SearchLaws.{find_of_range}
use Rattle.image.proofs.FileNameLaws.{named, named_first}
use Rattle.image.proofs.well_formed.file_named.Goals as goal

pub returns : goal.returns
returns c =
    let a = c.args in
    let s = a.shelf.now in
    find_of_range _ (named s.words.now s.bytes.now s.places a.n a.name.now) _ _ _ c.find.ensures.ran (λ x b q k. search (rules, tests, same_pointwise))
    ∙ named_first s.words.now s.bytes.now s.places a.n a.name.now
