-- `names::bytes::is_printable` meets its contract. Assumes nothing.
use Rattle.std.proofs.Common.{rules, ◌∙◌}
use borrow.Author.Tests.{tests}
use Rattle.std.proofs.lemmas.Iterator.{YieldsList-from_slice}
use Rattle.std.proofs.lemmas.Iterator.Search.{all_from_yields_List}
use Rattle.lists.specs.Lists.{between}
use Rattle.lists.proofs.StdLaws.{all_list_all}
use Rattle.names.specs.Bytes.{is_printable}
use Rattle.names.proofs.bytes.is_printable.Goals as goal

pub returns : goal.returns
unfolding is_printable
returns c = all_from_yields_List (between 32 126) _ _ c.all.result c.all.ensures.ran (YieldsList-from_slice c.args.s.now cc) (λ x b q k. search (rules, tests)) ∙ all_list_all (between 32 126) c.args.s.now
