-- `names::integer::read_signed` meets its contract. Assumes nothing.
use Rattle.std.proofs.Common.{arith, ◌≡◌, ◌≤◌, ◌<◌, ◌^◌, ◌-◌, w64, None, Some, sym, ◌∙◌}
use Rattle.std.proofs.lemmas.Int.{to_z-of_z}
use lib.IntN.{pos, neg_ℤ}
use mir.ValLaws.{to_z_pos}
use Rattle.names.specs.Integer.{within, decimal, unsigned, as_integer, as_negated}
use Rattle.names.proofs.SignLaws.{negated_fits}
use Rattle.names.proofs.IntegerLaws.{within_le, unsigned_le, signed_minus, signed_bare}
use Rattle.names.proofs.integer.read_signed.Goals as goal
use Rattle.names.proofs.integer.read_signed.Goals.{In_ok-read_digits-in-Some, In_ok-read_unsigned-in-None}

-- what the digits behind a minus said, and those behind none
minus : (c : In_ok-read_digits-in-Some) → within c.args.half (decimal c.in-Some.digits.now) ≡ Some c.in_ok-read_digits-in-Some.field-0
minus c = sym c.read_digits.ensures ∙ c.in_ok-read_digits-in-Some.was

bare : (c : In_ok-read_unsigned-in-None) → unsigned (c.args.half - 1) c.args.s.now ≡ Some c.in_ok-read_unsigned-in-None.field-0
bare c = sym c.read_unsigned.ensures ∙ c.in_ok-read_unsigned-in-None.was

pub returns-in_err-read_digits-in-Some : goal.returns-in_err-read_digits-in-Some
unfolding as_negated
returns-in_err-read_digits-in-Some c =
    let e : within c.args.half (decimal c.in-Some.digits.now) ≡ None = sym c.read_digits.ensures ∙ c.in_err-read_digits-in-Some.was in
    c.from_residual.ensures ∙ sym (signed_minus c.args.half c.args.s.now c.in-Some.digits.now c.in-Some.ensures.cases.0 c.in-Some.ensures.cases.1 ∙ simp e)

pub negated-requires : goal.negated-requires
negated-requires c = omega (arith, within_le c.args.half _ _ (minus c), c.requires.half_bound)

pub returns-in_ok-read_digits-in-Some : goal.returns-in_ok-read_digits-in-Some
unfolding as_negated
returns-in_ok-read_digits-in-Some c =
    let n = c.in_ok-read_digits-in-Some.field-0 in
    let e = minus (goal.at.returns-in_ok-read_digits-in-Some c).In_ok-read_digits-in-Some in
    let h : n ≤ 2 ^ 63 = omega (arith, within_le c.args.half _ _ e, c.requires.half_bound) in
    sym (signed_minus c.args.half c.args.s.now c.in-Some.digits.now c.in-Some.ensures.cases.0 c.in-Some.ensures.cases.1 ∙ simp (e, c.negated.ensures, to_z-of_z w64 (neg_ℤ (pos n)) (negated_fits n h)))

pub returns-in_err-read_unsigned-in-None : goal.returns-in_err-read_unsigned-in-None
unfolding as_integer
returns-in_err-read_unsigned-in-None c =
    let e : unsigned (c.args.half - 1) c.args.s.now ≡ None = sym c.read_unsigned.ensures ∙ c.in_err-read_unsigned-in-None.was in
    c.from_residual-in_err-read_unsigned-in-None.ensures ∙ sym (signed_bare c.args.half c.args.s.now c.in-None.ensures.cases ∙ simp e)

pub overflow_cast-result : goal.overflow_cast-result
overflow_cast-result c = record { sfits = omega (arith, unsigned_le _ _ _ (bare (goal.at.overflow_cast-result c).In_ok-read_unsigned-in-None), c.requires.half_bound, c.requires.half_nonzero) }

pub returns-in_ok-read_unsigned-in-None : goal.returns-in_ok-read_unsigned-in-None
unfolding as_integer
returns-in_ok-read_unsigned-in-None c =
    let n = c.in_ok-read_unsigned-in-None.field-0 in
    let e = bare (goal.at.returns-in_ok-read_unsigned-in-None c).In_ok-read_unsigned-in-None in
    let h : n < 2 ^ 63 = omega (arith, unsigned_le _ _ _ e, c.requires.half_bound, c.requires.half_nonzero) in
    sym (signed_bare c.args.half c.args.s.now c.in-None.ensures.cases ∙ simp (e, to_z_pos w64 n h))
