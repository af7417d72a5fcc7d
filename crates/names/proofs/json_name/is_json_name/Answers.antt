-- `names::json_name::is_json_name` meets its contract. Assumes nothing.
use Rattle.std.proofs.Common.{◌≡◌}
use Rattle.std.proofs.lemmas.Iterator.{YieldsList-from_slice}
use Rattle.std.proofs.lemmas.Iterator.Consumers.{YieldsList-at, YieldsList-from_first, YieldsList-from_copied}
use Rattle.lists.proofs.EqLaws.{same_from_eq}
use Rattle.names.specs.Json.{derived_json_name, json_left}
use Rattle.names.proofs.json_name.is_json_name.Goals as goal

pub returns : goal.returns
returns c =
    same_from_eq (λ x y. y ≡ x) c.copied.result c.eq.result c.eq.ensures.ran
    (YieldsList-from_first (λ x. x) json_left (derived_json_name c.args.name.now) c.new.ensures)
    (λ it b. YieldsList-at {t = c.copied.result} b (YieldsList-from_copied (YieldsList-from_slice c.args.text.now cc)))
