-- `tokens::number` meets its contract. Assumes nothing.
use Prim.Native.Nat.{◌-◌, ◌^◌}
use mathlib.Core.Path.{◌∙◌}
use Rattle.names.specs.Default.{default_of}
use Rattle.names.proofs.IntegerLaws.{unsigned_le}
use Rattle.tokens.specs.Tokens.{bytes_of, number_of}
use Rattle.tokens.proofs.NumberLaws.{low_read}
use Rattle.tokens.proofs.number.Goals as goal

pub returns : goal.returns
unfolding number_of default_of
returns c = c.low_of.ensures ∙ rw (c.parse_proto_default_value.ensures, c.bytes_of.ensures) (low_read _ (λ n e. unsigned_le (2 ^ 32 - 1) n (bytes_of c.args.text.now c.args.t) e))
