-- `link::link::judge_opened` meets its contract. Assumes nothing.
use mathlib.Core.Path.{◌≡◌, refl, sym, ap, ◌∙◌}
use Prim.Native.Nat.{ℕ, ◌≤◌}
use native.Mathlib.Omega.{arith}
use lib.ListN.{length, take}
use lib.Seq.{length-take-le}
use Rattle.std.proofs.Common.{rules}
use Rattle.std.specs.Prelude.{Err}
use Rattle.image.specs.Links.{link_words}
use Rattle.link.specs.Refusals.{said}
use Rattle.link.specs.Phases.{call_to}
use Rattle.link.proofs.PhaseLaws.{front_words, opened_stops, opened_passed, opened_decides, naming_judged, links-written}
use Rattle.link.proofs.link.judge_opened.Goals.{After-link_words-n}
use Rattle.link.proofs.link.judge_opened.Goals as goal

-- the words of link rows are counted, and there is room for them
counted : (c : After-link_words-n) → c.link_words-n.result ≡ link_words (said (call_to c.args.shelf.now.words.now c.args.shelf.now.bytes.now c.args.new.now))
counted c = let a = c.args.new.now in c.link_words-n.ensures ∙ front_words a.image.now a.pool.now c.read.ensures

room : (c : After-link_words-n) → c.link_words-n.result ≤ length c.judge_image.new.links
room c = omega (arith, counted c, c.requires.room_for_links.link_room (opened_passed (call_to c.args.shelf.now.words.now c.args.shelf.now.bytes.now c.args.new.now) refl c.judge_image.ensures.value c.in_ok-naming.was), c.judge_image.auto.links)

pub returns-in_err-naming-clause-value : goal.returns-in_err-naming-clause-value
returns-in_err-naming-clause-value c =
    let e : c.from_residual.result ≡ Err c.in_err-naming.field-0.0 = search rules in
    e ∙ opened_stops (call_to c.args.shelf.now.words.now c.args.shelf.now.bytes.now c.args.new.now) refl c.judge_image.ensures.value c.in_err-naming.was

pub slice_bounds-judge_seen-end : goal.slice_bounds-judge_seen-end
slice_bounds-judge_seen-end c = room (goal.at.slice_bounds-judge_seen-end c).After-link_words-n

pub slice_bounds-judge_seen-end-2 : goal.slice_bounds-judge_seen-end-2
slice_bounds-judge_seen-end-2 c = sym (length-take-le c.link_words-n.result c.judge_image.new.links (room (goal.at.slice_bounds-judge_seen-end-2 c).After-link_words-n))

pub judge_seen-requires : goal.judge_seen-requires
judge_seen-requires c =
    let k = (call_to c.args.shelf.now.words.now c.args.shelf.now.bytes.now c.args.new.now) in
    let opened = opened_passed k refl c.judge_image.ensures.value c.in_ok-naming.was in
    record {
      standing = c.requires.standing;
      opening = opened;
      naming_value = naming_judged k refl c.judge_image.ensures.value c.in_ok-naming.was;
      links_value = ap (λ (n : ℕ). take n c.judge_image.new.links) (counted (goal.at.judge_seen-requires c).After-link_words-n) ∙ links-written k refl c.judge_image.ensures.value c.in_ok-naming.was c.args.links.now (c.requires.room_for_links.link_room opened) c.judge_image.ensures.links_after;
      fields_in_bounds = c.requires.room_for_links.field_room opened;
    }

pub returns : goal.returns
returns c =
    let k = (call_to c.args.shelf.now.words.now c.args.shelf.now.bytes.now c.args.new.now) in
    let opened = opened_passed k refl c.judge_image.ensures.value c.in_ok-naming.was in
    record {
      value = opened_decides k refl c.judge_image.ensures.value c.in_ok-naming.was c.judge_seen.ensures.value;
      links_after = λ _. links-written k refl c.judge_image.ensures.value c.in_ok-naming.was c.args.links.now (c.requires.room_for_links.link_room opened) c.judge_image.ensures.links_after;
      rows_after = c.judge_seen.ensures.rows_after;
    }
