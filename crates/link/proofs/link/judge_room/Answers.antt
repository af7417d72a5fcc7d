-- `link::link::judge_room` meets its contract. Assumes nothing.
use mathlib.Core.Path.{◌∙◌}
use native.Mathlib.Omega.{arith}
use Rattle.image.proofs.JudgeLaws.{links-few}
use Rattle.link.specs.Refusals.{said}
use Rattle.link.specs.Phases.{call_to}
use Rattle.link.proofs.PhaseLaws.{image_short, words_short, front_words, fields_words, no_words, no_bytes, room_enough}
use Rattle.link.proofs.link.judge_room.Goals as goal

pub overflow_add-n : goal.overflow_add-n
overflow_add-n c =
    let k = call_to c.args.shelf.now.words.now c.args.shelf.now.bytes.now c.args.new.now in
    let front = c.link_words-n.ensures ∙ front_words k.image k.pool c.read-s.ensures in
    let behind = c.field_words-k.ensures ∙ fields_words k.image k.pool c.read-s.ensures in
    omega (arith, front, behind, links-few (said k) c.requires.sound, c.requires.sound.few_fields, image_short k c.requires.lengths, words_short k c.requires.lengths)

pub overflow_add-new : goal.overflow_add-new
overflow_add-new c =
    let k = call_to c.args.shelf.now.words.now c.args.shelf.now.bytes.now c.args.new.now in
    let front = c.link_words-n.ensures ∙ front_words k.image k.pool c.read-s.ensures in
    let behind = c.field_words-k.ensures ∙ fields_words k.image k.pool c.read-s.ensures in
    omega (arith, front, behind, links-few (said k) c.requires.sound, c.requires.sound.few_fields, image_short k c.requires.lengths, words_short k c.requires.lengths)

pub overflow_add-new-2 : goal.overflow_add-new-2
overflow_add-new-2 c =
    let k = call_to c.args.shelf.now.words.now c.args.shelf.now.bytes.now c.args.new.now in
    let front = c.link_words-n.ensures ∙ front_words k.image k.pool c.read-s.ensures in
    let behind = c.field_words-k.ensures ∙ fields_words k.image k.pool c.read-s.ensures in
    omega (arith, front, behind, links-few (said k) c.requires.sound, c.requires.sound.few_fields, image_short k c.requires.lengths, words_short k c.requires.lengths)

pub returns-then-shelf-new : goal.returns-then-shelf-new
returns-then-shelf-new c =
    let k = call_to c.args.shelf.now.words.now c.args.shelf.now.bytes.now c.args.new.now in
    let front = c.link_words-n.ensures ∙ front_words k.image k.pool c.read-s.ensures in
    let behind = c.field_words-k.ensures ∙ fields_words k.image k.pool c.read-s.ensures in
    rw c.at.ensures (no_words k c.requires.sound front behind c.if-shelf-new.true)

pub returns-then-shelf-new-2 : goal.returns-then-shelf-new-2
returns-then-shelf-new-2 c =
    let k = call_to c.args.shelf.now.words.now c.args.shelf.now.bytes.now c.args.new.now in
    let front = c.link_words-n.ensures ∙ front_words k.image k.pool c.read-s.ensures in
    let behind = c.field_words-k.ensures ∙ fields_words k.image k.pool c.read-s.ensures in
    rw c.at-then-shelf-new-2.ensures (no_bytes k c.requires.sound front behind c.if-shelf-new.false c.if-shelf-new-2.true)

pub returns : goal.returns
returns c =
    let k = call_to c.args.shelf.now.words.now c.args.shelf.now.bytes.now c.args.new.now in
    let front = c.link_words-n.ensures ∙ front_words k.image k.pool c.read-s.ensures in
    let behind = c.field_words-k.ensures ∙ fields_words k.image k.pool c.read-s.ensures in
    room_enough k c.requires.sound front behind c.if-shelf-new.false c.if-shelf-new-2.false
