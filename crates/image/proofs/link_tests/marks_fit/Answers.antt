-- `image::link_tests::marks_fit` meets its contract. Assumes nothing.
use Rattle.std.proofs.Common.{rules, tests}
use Rattle.lists.proofs.StdLaws.{all_of_range}
use Rattle.image.specs.Schema.{schema_in}
use Rattle.image.specs.LinkTests.{marks_fit}
use Rattle.image.proofs.link_tests.marks_fit.Goals as goal

pub returns : goal.returns
unfolding marks_fit schema_in
returns c = all_of_range _ _ _ _ _ c.all.ensures.ran (λ x b q k. search (rules, tests))
