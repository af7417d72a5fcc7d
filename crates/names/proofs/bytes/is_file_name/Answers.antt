-- `names::bytes::is_file_name` meets its contract. Assumes nothing.
use Rattle.std.proofs.Common.{rules, ◌∙◌}
use borrow.Author.Tests.{tests}
use Rattle.std.proofs.lemmas.Iterator.{YieldsList-from_slice}
use Rattle.std.proofs.lemmas.Iterator.Search.{all_from_yields_List}
use Rattle.lists.specs.Lists.{between}
use Rattle.lists.proofs.StdLaws.{empty_length, all_list_all}
use Rattle.names.specs.Bytes.{is_file_name}
use Rattle.names.proofs.bytes.is_file_name.Goals as goal

pub returns-then-not-is_empty : goal.returns-then-not-is_empty
unfolding is_file_name
returns-then-not-is_empty c =
    let s = c.args.s.now in
    simp (← empty_length s, ← c.is_empty.ensures, c.if-not-is_empty.true)
    (all_from_yields_List (between 33 126) _ _ c.all.result c.all.ensures.ran (YieldsList-from_slice s cc) (λ x b q k. search (rules, tests)) ∙ all_list_all (between 33 126) s)

pub returns-else-not-is_empty : goal.returns-else-not-is_empty
unfolding is_file_name
returns-else-not-is_empty c = simp (← empty_length c.args.s.now, ← c.is_empty.ensures, c.if-not-is_empty.false)
