-- `names::bytes::is_type_name` meets its contract. Assumes nothing.
use Rattle.std.proofs.Common.{rules, arith, ◌≡◌, get_or, sym}
use borrow.Author.Tests.{eq-eqb, ne_eqb}
use Rattle.lists.proofs.ListLaws.{part_all}
use Rattle.names.proofs.BytesLaws.{type_name_none, type_name_at_lem}
use Rattle.names.proofs.bytes.is_type_name.Goals as goal

pub returns-in-46 : goal.returns-in-46
returns-in-46 c =
    let s = c.args.s.now in
    let e : get_or s 0 0 ≡ 46 = search rules in
    simp (type_name_at_lem s (λ z. omega (arith, z, c.in-46.len_at_least)), eq-eqb _ _ e, c.is_identifier_list.ensures, part_all)

pub returns-in_default : goal.returns-in_default
returns-in_default c = sym (type_name_none c.args.s.now (omega arith))

pub returns-in_default-2 : goal.returns-in_default-2
returns-in_default-2 c =
    let s = c.args.s.now in
    let n : get_or s 0 0 ≡ 46 → ⊥ = search rules in
    simp (type_name_at_lem s (λ z. omega (arith, z, c.in_default.len_at_least)), ne_eqb _ _ n)
