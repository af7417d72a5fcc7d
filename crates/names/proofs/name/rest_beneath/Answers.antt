-- `names::name::rest_beneath` meets its contract. Assumes nothing.
use Rattle.std.proofs.Common.{refl, ap, ◌∙◌}
use Rattle.names.specs.Package.{lies_beneath, rest_beneath}
use Rattle.names.proofs.PackageLaws.{unwrapped, rest_none}
use Rattle.names.proofs.name.rest_beneath.Goals as goal

pub returns : goal.returns
returns c =
    let s = c.args.name.now in
    let p = c.args.package.now in
    ap (λ r. r.now) c.unwrap_or.ensures ∙ unwrapped c.strip_package.result _ (lies_beneath s p) (rest_beneath s p) c.strip_package.ensures (rest_none s p) refl
