-- `image::flat::tally_behind` meets its contract: each step adds what it takes. Assumes nothing.
use mathlib.Core.Path.{ap}
use native.Mathlib.Omega.{arith}
use Rattle.image.specs.declared.flat.Tally.{Tally}
use Rattle.image.specs.declared.rows.Range.{Range}
use Rattle.image.specs.Schema.{schema_in}
use Rattle.image.proofs.flat.tally_behind.Goals as goal

pub take_message-requires : goal.take_message-requires
take_message-requires c = c.requires.messages

pub take_enums-requires : goal.take_enums-requires
unfolding schema_in
take_enums-requires c = let p = ap (λ (x : Tally). x.enums) c.take_message.ensures in
    let q = ap (λ (x : Range). x.count) c.enums_of-enums.ensures in
    omega (arith, c.requires.enums)

pub take_oneofs-u-requires : goal.take_oneofs-u-requires
unfolding schema_in
take_oneofs-u-requires c = let p = ap (λ (x : Tally). x.oneofs) (rw c.take_message.ensures at c.take_enums.ensures) in
    let q = ap (λ (x : Range). x.count) c.oneofs_of-oneofs.ensures in
    omega (arith, c.requires.oneofs)

pub take_fields-requires : goal.take_fields-requires
unfolding schema_in
take_fields-requires c = let p = ap (λ (x : Tally). x.fields) (rw (c.take_enums.ensures, c.take_message.ensures) at c.take_oneofs-u.ensures) in
    let q = ap (λ (x : Range). x.count) c.fields_of-fields.ensures in
    omega (arith, c.requires.fields)

pub take_fields-requires-2 : goal.take_fields-requires-2
unfolding schema_in
take_fields-requires-2 c = let p = ap (λ (x : Tally). x.fields) (rw (c.take_oneofs-u.ensures, c.take_enums.ensures, c.take_message.ensures) at c.take_fields.ensures) in
    let q = ap (λ (x : Range). x.count) c.fields_of-fields.ensures in
    let r = ap (λ (x : Range). x.count) c.extensions_of-extensions.ensures in
    omega (arith, c.requires.fields)

pub returns : goal.returns
unfolding schema_in
returns c = rw
    (c.take_fields-2.ensures, c.take_fields.ensures, c.take_oneofs-u.ensures, c.take_enums.ensures, c.take_message.ensures, c.enums_of-enums.ensures, c.oneofs_of-oneofs.ensures, c.fields_of-fields.ensures, c.extensions_of-extensions.ensures)
