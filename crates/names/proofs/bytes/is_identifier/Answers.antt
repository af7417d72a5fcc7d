-- `names::bytes::is_identifier` meets its contract. Assumes nothing.
use Rattle.std.proofs.Common.{rules, arith, ◌<◌, sym, ◌∙◌, length, drop}
use borrow.Author.Tests.{tests}
use Rattle.std.proofs.lemmas.Iterator.{YieldsList-from_slice}
use Rattle.std.proofs.lemmas.Iterator.Search.{all_from_yields_List}
use Rattle.lists.proofs.StdLaws.{all_list_all}
use Rattle.lists.proofs.ListLaws.{part_all}
use Rattle.names.specs.Bytes.{continues_identifier}
use Rattle.names.proofs.BytesLaws.{identifier_none, identifier_at}
use Rattle.names.proofs.bytes.is_identifier.Goals as goal

pub returns-in-empty : goal.returns-in-empty
returns-in-empty c = sym (identifier_none c.args.s.now (omega arith))

pub returns-then-starts_identifier : goal.returns-then-starts_identifier
returns-then-starts_identifier c =
    let s = c.args.s.now in
    let h : 0 < length s = omega arith in
    simp (identifier_at s h, ← c.starts_identifier.ensures, c.if-starts_identifier.true)
    (all_from_yields_List continues_identifier _ _ c.all.result c.all.ensures.ran (YieldsList-from_slice (drop 1 s) (c.iter.ensures.rest ∙ part_all s 1)) (λ x b q k. search (rules, tests)) ∙ all_list_all continues_identifier (drop 1 s))

pub returns-else-starts_identifier : goal.returns-else-starts_identifier
returns-else-starts_identifier c =
    let s = c.args.s.now in
    let h : 0 < length s = omega arith in
    simp (identifier_at s h, ← c.starts_identifier.ensures, c.if-starts_identifier.false)
