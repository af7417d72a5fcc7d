-- `image::owners::owned_once` meets its contract. Assumes nothing.
use native.Mathlib.Omega.{arith}
use mathlib.Core.Path.{◌≡◌, ◌∙◌}
use lib.ListN.{length, take}
use borrow.Author.Tests.{leb-true}
use Rattle.lists.specs.Below.{count_below}
use Rattle.lists.proofs.Cases.{each}
use Rattle.image.specs.Words.{file_extensions, oneofs_of, section_of, top_enums, top_messages, values_of}
use Rattle.image.specs.Layout.{covers, file_tests, file_ranges_fit, holders, owned_once}
use Rattle.image.specs.declared.rows.Kind.{Kind}
use Rattle.image.specs.declared.rows.Kind.TheVariants.{Message, Enum, Value, Oneof, Field}
use Rattle.image.proofs.RangeLaws.{held_messages, held_enums, held_values, held_oneofs, held_fields, held_extensions, marks_of, none_owned, own_none, range_inside}
use Rattle.image.proofs.owners.owned_once.Goals as goal
use Rattle.image.proofs.owners.owned_once.Goals.{After-count_of-n}

-- the marks of the rows
size : (c : After-count_of-n) (k : Kind) → c.args.kind ≡ k → length (take c.count_of-n.result c.args.marks.now) ≡ (section_of c.args.image.now.sections k).count
size c k e = rw (← e, c.count_of-n.ensures) (marks_of c.args.image.now.sections c.args.marks.now c.requires.roomy c.args.kind)

pub returns-in-Import : goal.returns-in-Import
unfolding owned_once
returns-in-Import c = rw (c.count_of-n.ensures, c.in-Import.is) (none_owned c.args.image.now.sections.imports.count)

pub owned-requires-clause-count_in_bounds : goal.owned-requires-clause-count_in_bounds
unfolding file_ranges_fit
owned-requires-clause-count_in_bounds c = let top = leb-true (top_messages c.args.image.now.words.now) c.args.image.now.sections.messages.count (each (file_tests c.args.image.now.words.now c.args.image.now.sections) c.requires.ranged.files).0 in
    rw (size (goal.at.owned-requires-clause-count_in_bounds c).After-count_of-n Message c.in-Message.is, c.from_first-top.ensures, c.trailer_word.ensures) (omega arith)

pub owned-requires-clause-held : goal.owned-requires-clause-held
owned-requires-clause-held c = rw (size (goal.at.owned-requires-clause-held c).After-count_of-n Message c.in-Message.is) (held_messages c.args.image.now.words.now c.args.image.now.sections c.args.pool c.requires.ranged.messages)

pub returns-in-Message : goal.returns-in-Message
unfolding owned_once
returns-in-Message c = rw c.in-Message.is ((rw (size (goal.at.returns-in-Message c).After-count_of-n Message c.in-Message.is, c.from_first-top.ensures, c.trailer_word.ensures) at c.owned.ensures))

pub owned-requires-in-Enum-clause-count_in_bounds : goal.owned-requires-in-Enum-clause-count_in_bounds
unfolding file_ranges_fit
owned-requires-in-Enum-clause-count_in_bounds c = let top = leb-true (top_enums c.args.image.now.words.now) c.args.image.now.sections.enums.count (each (file_tests c.args.image.now.words.now c.args.image.now.sections) c.requires.ranged.files).1.0 in
    rw (size (goal.at.owned-requires-in-Enum-clause-count_in_bounds c).After-count_of-n Enum c.in-Enum.is, c.from_first-top-in-Enum.ensures, c.trailer_word-in-Enum.ensures) (omega arith)

pub owned-requires-in-Enum-clause-held : goal.owned-requires-in-Enum-clause-held
owned-requires-in-Enum-clause-held c = rw (size (goal.at.owned-requires-in-Enum-clause-held c).After-count_of-n Enum c.in-Enum.is) (held_enums c.args.image.now.words.now c.args.image.now.sections c.args.pool c.requires.ranged.messages)

pub returns-in-Enum : goal.returns-in-Enum
unfolding owned_once
returns-in-Enum c = rw c.in-Enum.is ((rw (size (goal.at.returns-in-Enum c).After-count_of-n Enum c.in-Enum.is, c.from_first-top-in-Enum.ensures, c.trailer_word-in-Enum.ensures) at c.owned-in-Enum.ensures))

pub owned-requires-in-Value-clause-held : goal.owned-requires-in-Value-clause-held
owned-requires-in-Value-clause-held c = rw (size (goal.at.owned-requires-in-Value-clause-held c).After-count_of-n Value c.in-Value.is) (held_values c.args.image.now.words.now c.args.image.now.sections c.args.pool c.requires.ranged.enums)

pub returns-in-Value : goal.returns-in-Value
unfolding owned_once
returns-in-Value c = rw c.in-Value.is ((rw (size (goal.at.returns-in-Value c).After-count_of-n Value c.in-Value.is, c.from_first.ensures) at c.owned-in-Value.ensures) ∙ own_none c.args.image.now.sections.values.count (λ j. count_below c.args.image.now.sections.enums.count (λ p. covers (values_of c.args.image.now.words.now c.args.image.now.sections p) j)))

pub owned-requires-in-Oneof-clause-held : goal.owned-requires-in-Oneof-clause-held
owned-requires-in-Oneof-clause-held c = rw (size (goal.at.owned-requires-in-Oneof-clause-held c).After-count_of-n Oneof c.in-Oneof.is) (held_oneofs c.args.image.now.words.now c.args.image.now.sections c.args.pool c.requires.ranged.messages)

pub returns-in-Oneof : goal.returns-in-Oneof
unfolding owned_once
returns-in-Oneof c = rw c.in-Oneof.is ((rw (size (goal.at.returns-in-Oneof c).After-count_of-n Oneof c.in-Oneof.is, c.from_first-in-Oneof.ensures) at c.owned-in-Oneof.ensures) ∙ own_none c.args.image.now.sections.oneofs.count (holders c.args.image.now.sections (oneofs_of c.args.image.now.words.now c.args.image.now.sections)))

pub fields_owned-requires-clause-count_in_bounds : goal.fields_owned-requires-clause-count_in_bounds
unfolding file_ranges_fit
fields_owned-requires-clause-count_in_bounds c = let own = range_inside c.args.image.now.sections.fields.count (file_extensions c.args.image.now.words.now) (each (file_tests c.args.image.now.words.now c.args.image.now.sections) c.requires.ranged.files).1.1.0 in
    rw (size (goal.at.fields_owned-requires-clause-count_in_bounds c).After-count_of-n Field c.in-Field.is, c.file_extensions-own.ensures) own

pub fields_owned-requires-clause-held : goal.fields_owned-requires-clause-held
fields_owned-requires-clause-held c = rw (size (goal.at.fields_owned-requires-clause-held c).After-count_of-n Field c.in-Field.is) (held_fields c.args.image.now.words.now c.args.image.now.sections c.args.pool c.requires.ranged.messages)

pub fields_owned-requires-clause-held_2 : goal.fields_owned-requires-clause-held_2
fields_owned-requires-clause-held_2 c = rw (size (goal.at.fields_owned-requires-clause-held_2 c).After-count_of-n Field c.in-Field.is) (held_extensions c.args.image.now.words.now c.args.image.now.sections c.args.pool c.requires.ranged.messages)

pub returns-in-Field : goal.returns-in-Field
unfolding owned_once
returns-in-Field c = rw c.in-Field.is ((rw (size (goal.at.returns-in-Field c).After-count_of-n Field c.in-Field.is, c.file_extensions-own.ensures) at c.fields_owned.ensures))
