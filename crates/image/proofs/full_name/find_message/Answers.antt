-- `image::full_name::find_message` meets its contract: it is the first number whose test succeeds. Assumes nothing.
use mathlib.Core.Path.{◌≡◌, ap, ◌∙◌}
use mathlib.Core.Bool.{Bool}
use Prim.Native.Nat.{ℕ}
use Rattle.std.proofs.Common.{rules, tests}
use Rattle.std.specs.Prelude.{option_map}
use Rattle.lists.specs.Below.{first_below, found_below}
use Rattle.lists.specs.Lists.{same}
use Rattle.image.specs.Schema.{schema, schema_in}
use Rattle.image.specs.FullName.{message_path}
use Rattle.image.specs.Lookup.{first_flat, message_by_path}
use Rattle.image.proofs.SearchLaws.{find_of_range}
use Rattle.image.proofs.full_name.find_message.Goals as goal

pub returns : goal.returns
unfolding message_by_path first_flat schema_in
returns c =
    let a = c.args in
    let n = a.image.now.rows.sections.messages.count in
    let p : ℕ → Bool = λ k. same a.wanted.now (message_path (schema a.image.now) a.links.now 16 k) in
    let found : c.find.result ≡ found_below n (first_below n p n) = find_of_range n p _ _ _ c.find.ensures.ran (λ x b q k. search (rules, tests)) in
    let flat : c.map.result ≡ option_map (λ (k : ℕ). record { 0 = k }) c.find.result = search (rules, tests) in
    flat ∙ ap (option_map (λ (k : ℕ). record { 0 = k })) found
