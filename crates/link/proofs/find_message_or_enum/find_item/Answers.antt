-- `link::find_message_or_enum::find_item` meets its contract. Assumes nothing.
use mathlib.Core.Path.{◌≡◌, sym, ap, ◌∙◌}
use Rattle.names.specs.Package.{lies_beneath}
use Rattle.image.specs.Schema.{schema_of}
use Rattle.image.specs.Record.{says}
use Rattle.image.specs.Places.{file_of}
use Rattle.link.proofs.ResolveLaws.{item_not, item_message, item_enum}
use Rattle.link.proofs.find_message_or_enum.find_item.Goals as goal
use Rattle.link.proofs.find_message_or_enum.find_item.Goals.{After-package_name-package}

-- the package that was read
read : (c : After-package_name-package) → c.package_name-package.result.now ≡ (says (file_of c.args.file.now)).«package»
unfolding schema_of
read c = rw c.read-image.ensures at c.package_name-package.ensures

pub returns-then-not-lies_beneath : goal.returns-then-not-lies_beneath
returns-then-not-lies_beneath c =
    item_not (file_of c.args.file.now) c.args.full.now c.args.wanted
    (ap (lies_beneath c.args.full.now) (sym (read (goal.at.returns-then-not-lies_beneath c).After-package_name-package)) ∙ sym c.lies_beneath.ensures ∙ c.if-not-lies_beneath.true)

pub returns-in-Message : goal.returns-in-Message
unfolding schema_of
returns-in-Message c =
    let p = read (goal.at.returns-in-Message c).After-package_name-package in
    let l = ap (lies_beneath c.args.full.now) (sym p) ∙ sym c.lies_beneath.ensures ∙ c.if-not-lies_beneath.false in
    item_message (file_of c.args.file.now) c.args.full.now l c.args.wanted c.in-Message.is (rw (c.read-image.ensures, c.rest_beneath-rest.ensures, p) at c.find_message.ensures)

pub returns-in-Enum : goal.returns-in-Enum
unfolding schema_of
returns-in-Enum c =
    let p = read (goal.at.returns-in-Enum c).After-package_name-package in
    let l = ap (lies_beneath c.args.full.now) (sym p) ∙ sym c.lies_beneath.ensures ∙ c.if-not-lies_beneath.false in
    item_enum (file_of c.args.file.now) c.args.full.now l c.args.wanted c.in-Enum.is (rw (c.read-image.ensures, c.rest_beneath-rest.ensures, p) at c.find_enum.ensures)
