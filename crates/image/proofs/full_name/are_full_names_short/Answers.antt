-- `image::full_name::are_full_names_short` meets its contract: those of the messages, then those of the enums. Assumes nothing.
use mathlib.Core.Path.{◌≡◌, sym, ◌∙◌}
use mathlib.Core.Bool.{Bool}
use Prim.Native.Nat.{ℕ, ◌+◌}
use lib.Dec.{leb}
use lib.ListN.{length}
use Rattle.std.proofs.Common.{rules, tests}
use Rattle.lists.specs.Below.{all_below}
use Rattle.lists.proofs.StdLaws.{all_of_range}
use Rattle.image.specs.Schema.{schema, schema_in}
use Rattle.image.specs.FullName.{full_name, full_names_short}
use Rattle.image.proofs.ShortLaws.{all_below_first, all_below_rest}
use Rattle.image.proofs.full_name.are_full_names_short.Goals as goal

pub returns-then-all : goal.returns-then-all
unfolding full_names_short schema_in
returns-then-all c =
    let a = c.args in
    let g = schema a.image.now in
    let fits : ℕ → Bool = λ i. leb (length (full_name g a.links.now i)) 512 in
    let first : c.all.result ≡ all_below g.messages fits = all_of_range _ _ _ _ _ c.all.ensures.ran (λ x b q k. search (rules, tests)) in
    let rest : c.all-then-all.result ≡ all_below g.enums (λ i. fits (g.messages + i)) = all_of_range _ _ _ _ _ c.all-then-all.ensures.ran (λ x b q k. search (rules, tests)) in
    rest ∙ sym (all_below_rest g.messages g.enums fits (sym first ∙ c.if-all.true))

pub returns-else-all : goal.returns-else-all
unfolding full_names_short schema_in
returns-else-all c =
    let a = c.args in
    let g = schema a.image.now in
    let fits : ℕ → Bool = λ i. leb (length (full_name g a.links.now i)) 512 in
    let first : c.all.result ≡ all_below g.messages fits = all_of_range _ _ _ _ _ c.all.ensures.ran (λ x b q k. search (rules, tests)) in
    c.if-all.false ∙ sym (all_below_first g.messages g.enums fits (sym first ∙ c.if-all.false))
