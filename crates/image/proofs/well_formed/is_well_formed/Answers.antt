-- `image::well_formed::is_well_formed` meets its contract. Assumes nothing.
use mathlib.Core.Path.{ap, ◌∙◌}
use Rattle.std.specs.Prelude.{is_some}
use Rattle.image.proofs.ReadLaws.{read_whole}
use Rattle.image.proofs.well_formed.is_well_formed.Goals as goal

pub returns : goal.returns
returns c = let a = c.args in
    c.is_some.ensures ∙ ap is_some c.read_shelf.ensures ∙ read_whole a.words.now a.bytes.now a.used
