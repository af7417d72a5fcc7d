-- `names::key::json_key` meets its contract. Assumes nothing.
use Rattle.std.proofs.Common.{rules, ◌∙◌}
use borrow.Author.Tests.{tests}
use Rattle.std.proofs.lemmas.Iterator.Consumers.{YieldsList-from_first, fold_from_yields_List}
use Rattle.names.specs.Json.{derived_json_name, json_left}
use Rattle.names.specs.Key.{key_behind, text_key}
use Rattle.names.proofs.KeyLaws.{key_fold}
use Rattle.names.proofs.key.json_key.Goals as goal

pub returns : goal.returns
unfolding text_key
returns c =
    let s = derived_json_name c.args.name.now in
    fold_from_yields_List _ key_behind 0 c.fold.result c.fold.ensures.ran (YieldsList-from_first (λ x. x) json_left s c.new.ensures) (λ a x b q k. search (rules, tests)) ∙ key_fold 0 s
