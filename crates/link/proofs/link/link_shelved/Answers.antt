-- `link::link::link_shelved` meets its contract: there is scratch for few link rows, or for as many as any image has. Assumes nothing.
use mathlib.Core.Path.{sym, ◌∙◌}
use Prim.Native.Nat.{◌+◌, ◌*◌}
use native.Mathlib.Omega.{arith}
use lib.Dec.{leb}
use borrow.Author.Tests.{leb-true}
use Rattle.lists.proofs.Cases.{left, right}
use Rattle.image.proofs.JudgeLaws.{links-few}
use Rattle.link.specs.Refusals.{said}
use Rattle.link.specs.Phases.{call_to}
use Rattle.link.proofs.PhaseLaws.{front_words, fields_words, sound_said}
use Rattle.link.proofs.link.link_shelved.Goals as goal

pub link_in-requires-clause-room_for_links : goal.link_in-requires-clause-room_for_links
link_in-requires-clause-room_for_links c =
    let a = c.args.new.now in
    let s = c.read.result in
    let q = c.read.ensures in
    let n = s.messages.count * 10 + (s.enums.count * 2 + s.oneofs.count * 4) in
    let h = sym c.has_few_links.ensures ∙ c.if-has_few_links.true in
    record {
      link_room = λ _. omega (arith, front_words a.image.now a.pool.now q, leb-true n 512 (left (leb n 512) (leb s.fields.count 128) h));
      field_room = λ _. omega (arith, fields_words a.image.now a.pool.now q, leb-true s.fields.count 128 (right (leb n 512) (leb s.fields.count 128) h));
    }

pub link_in-requires-2-clause-room_for_links : goal.link_in-requires-2-clause-room_for_links
link_in-requires-2-clause-room_for_links c =
    let k = call_to c.args.words.now c.args.bytes.now c.args.new.now in
    record { link_room = λ e. omega (arith, links-few (said k) (sound_said k e)); field_room = λ e. omega (arith, (sound_said k e).few_fields) }
