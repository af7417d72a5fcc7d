-- `names::key::key_from` meets its contract. Assumes nothing.
use Rattle.std.proofs.Common.{rules, ◌≡◌, ◌∙◌}
use Rattle.std.specs.List.{fold}
use Rattle.names.specs.Key.{key_behind}
use Rattle.names.proofs.KeyLaws.{key_fold}
use Rattle.names.proofs.key.key_from.Goals as goal

pub returns : goal.returns
returns c =
    let e : c.fold.result ≡ fold key_behind c.args.start c.args.s.now = search rules in
    e ∙ key_fold c.args.start c.args.s.now
