-- `names::name::concat_paths` meets its contract. Assumes nothing.
use Rattle.std.proofs.Common.{arith, ◌≡◌, ◌<◌, ◌≤◌, ◌+◌, ◌-◌, length, take, set, [], sym, ap, ◌∙◌}
use borrow.Author.Tests.{tests}
use Rattle.std.proofs.Common.{rules}
use borrow.Rule.Slice.PartMut.{put_same}
use Rattle.lists.proofs.SpliceLaws.{fronted_fits, fronted_short, put_behind, set-splice}
use Rattle.names.specs.Package.{concat_paths}
use Rattle.names.proofs.PackageLaws.{concat_second, concat_start, concat_past, length-concat, splice-concat, front_fits, front_short, front_none, front_some, length-behind, fronted_nil}
use Rattle.names.proofs.name.concat_paths.Goals as goal

-- no first name: the second is put in front
pub returns-then-n-eq0 : goal.returns-then-n-eq0
returns-then-n-eq0 c =
    let a = c.args in
    let e = concat_start a.out.now a.second.now a.n c.if-n-eq0.true in
    record { value = rw e c.put_front.ensures.value; out_after = rw e c.put_front.ensures.out_after }

-- no second name: nothing is
pub returns-then-is_empty : goal.returns-then-is_empty
returns-then-is_empty c =
    let a = c.args in
    let z : length a.second.now ≡ 0 = search (rules, tests) in
    let e = concat_second (take a.n a.out.now) a.second.now z in
    record { value = rw e (sym (front_fits a.out.now [] (omega arith))); out_after = rw e (sym (fronted_nil a.out.now)) }

-- no room behind the first name
pub returns-then-out-n : goal.returns-then-out-n
returns-then-out-n c =
    let a = c.args in
    let some : length a.second.now ≡ 0 → ⊥ = λ z. search (rules, tests, z) in
    let h = concat_past a.out.now a.second.now a.n c.if-n-eq0.false some c.if-out-n.true in
    record { value = sym (front_short a.out.now (concat_paths (take a.n a.out.now) a.second.now) h); out_after = sym (fronted_short a.out.now (concat_paths (take a.n a.out.now) a.second.now) h) }

-- no room for the second name
pub returns-in_err-m : goal.returns-in_err-m
returns-in_err-m c =
    let a = c.args in
    let d = a.out.now in
    let t = a.second.now in
    let joined = concat_paths (take a.n d) t in
    let some : length t ≡ 0 → ⊥ = λ z. search (rules, tests, z) in
    let e = length-concat d t a.n c.if-n-eq0.false some c.if-out-n.false in
    let short = front_none _ t c.in_err-m.ensures.value in
    let h : length d < length joined = rw e (omega (arith, length-behind d (a.n + 1), short)) in
    record {
      value = c.from_residual.ensures ∙ sym (front_short d joined h);
      out_after = rw (c.in_err-m.ensures.out_after, fronted_short _ t short, put_same (a.n + 1) (length d - (a.n + 1)) d) (sym (fronted_short d joined h));
    }

pub returns : goal.returns
returns c =
    let a = c.args in
    let d = a.out.now in
    let t = a.second.now in
    let joined = concat_paths (take a.n d) t in
    let some : length t ≡ 0 → ⊥ = λ z. search (rules, tests, z) in
    let e = length-concat d t a.n c.if-n-eq0.false some c.if-out-n.false in
    let m = front_some _ t c.in_ok-m.m c.in_ok-m.ensures.value in
    let fits : a.n + 1 + length t ≤ length d = omega (arith, length-behind d (a.n + 1), m.1, c.if-out-n.false) in
    let h : length joined ≤ length d = rw e fits in
    record {
      value = rw (m.0, ← e) (sym (front_fits d joined h));
      out_after = ap (λ l. set l a.n 46) (put_behind d (a.n + 1) t _ fits c.in_ok-m.ensures.out_after) ∙ set-splice d (a.n + 1) t a.n 46 (omega arith) (omega (arith, c.if-out-n.false))
          ∙ splice-concat d t a.n c.if-n-eq0.false some c.if-out-n.false fits ∙ sym (fronted_fits d joined h);
    }
