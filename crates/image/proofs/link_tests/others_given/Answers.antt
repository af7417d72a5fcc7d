-- `image::link_tests::others_given` meets its contract. Assumes nothing.
use mathlib.Core.Path.{sym, ◌∙◌}
use Rattle.image.proofs.LinkTestLaws.{others_in}
use Rattle.image.proofs.link_tests.others_given.Goals as goal

pub returns : goal.returns
returns c = let a = c.args in
    c.same_part.ensures ∙ sym (others_in a.image.now.rows.words.now a.image.now.rows.sections a.image.now.pool.now a.links.now c.requires)
