-- `tokens::token_end` meets its contract: the bytes from the front on at which no token ends are counted. Assumes nothing.
use native.Mathlib.Omega.{arith}
use mathlib.Core.Bool.{not, ◌||◌}
use mathlib.Core.List.{List}
use mathlib.Core.Path.{◌≡◌, sym, ap, ◌∙◌}
use Prim.Native.Nat.{ℕ, ◌+◌, ◌-◌, min}
use lib.Dec.{eqb}
use lib.ListN.{length, take, drop, drop_of_length-le}
use Rattle.std.proofs.Common.{rules, tests}
use Rattle.std.proofs.lemmas.Iterator.{YieldsList-from_slice}
use Rattle.std.proofs.lemmas.Iterator.Consumers.{count_from_yields_List}
use Rattle.std.proofs.lemmas.Iterator.Search.{YieldsList-from_take_while}
use Rattle.std.proofs.lemmas.List.Folds.{length-prefix_len}
use Rattle.lists.proofs.Cases.{order}
use Rattle.lists.proofs.ListLaws.{part_all}
use Rattle.tokens.specs.Tokens.{hash, is_space, token_length}
use Rattle.tokens.proofs.TokenLaws.{prefix_len-token_length}
use Rattle.tokens.proofs.token_end.Goals as goal

part_min : (s : List ℕ) (at k : ℕ) → k ≡ min at (length s) → take (length s - k) (drop k s) ≡ drop at s
part_min s at k e =
    part_all s k ∙ order at (length s)
    (λ h. ap (λ n. drop n s) (omega arith))
    (λ h. drop_of_length-le s (omega arith) ∙ sym (drop_of_length-le s h))

pub returns : goal.returns
returns c =
    let s = c.args.text.now in
    let rest = take (length s - c.min.result) (drop c.min.result s) in
    let test = λ (b : ℕ). not (is_space b || eqb b hash) in
    let counted = count_from_yields_List c.take_while.result _ c.count.ensures.ran (YieldsList-from_take_while _ test (YieldsList-from_slice rest cc) c.take_while.ensures.closure c.take_while.ensures.done (λ x b q k. search (rules, tests))) in
    ap (λ n. c.args.at + n) (counted ∙ length-prefix_len test rest ∙ prefix_len-token_length rest ∙ ap token_length (part_min s c.args.at c.min.result c.min.ensures))
