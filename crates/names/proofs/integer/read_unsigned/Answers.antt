-- `names::integer::read_unsigned` meets its contract. Assumes nothing.
use Rattle.std.proofs.Common.{refl, ap, sym, ◌∙◌}
use Rattle.names.specs.Integer.{within, decimal}
use Rattle.names.proofs.IntegerLaws.{unsigned_stripped}
use Rattle.names.proofs.integer.read_unsigned.Goals as goal

pub returns : goal.returns
returns c =
    let a = c.args in
    c.read_digits.ensures ∙ ap (λ r. within a.limit (decimal r.now)) c.unwrap_or.ensures ∙ sym (unsigned_stripped a.limit a.s.now c.strip_prefix.result _ refl c.strip_prefix.ensures.cases)
