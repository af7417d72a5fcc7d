-- `image::link_tests::messages_given` meets its contract. Assumes nothing.
use mathlib.Core.Path.{sym, ◌∙◌}
use Rattle.std.proofs.Common.{rules, tests}
use Rattle.lists.proofs.StdLaws.{all_of_range}
use Rattle.image.proofs.LinkTestLaws.{fronts_agree, given_in}
use Rattle.image.proofs.link_tests.messages_given.Goals as goal

pub returns : goal.returns
returns c = let a = c.args in
    all_of_range _ (fronts_agree a.links.now a.own.now) _ _ _ c.all.ensures.ran (λ x b q k. search (rules, tests))
    ∙ sym (given_in a.image.now.rows.words.now a.image.now.rows.sections a.image.now.pool.now a.links.now c.requires)
