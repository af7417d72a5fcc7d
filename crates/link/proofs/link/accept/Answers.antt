-- `link::link::accept` meets its contract. Assumes nothing.
use mathlib.Core.Path.{◌≡◌, sym, ap, ◌∙◌}
use mathlib.Core.List.{List, ◌++◌}
use Prim.Native.Nat.{ℕ, ◌*◌, ◌≤◌}
use native.Mathlib.Omega.{arith}
use lib.ListN.{length, take}
use lib.Seq.{length-take-le}
use Rattle.lists.specs.Splice.{splice}
use Rattle.image.specs.Links.{link_words}
use Rattle.image.specs.Record.{record_words}
use Rattle.image.proofs.JudgeLaws.{links-few}
use Rattle.link.specs.Search.{searched}
use Rattle.link.specs.Rows.{all_links}
use Rattle.link.specs.Refusals.{said, seen}
use Rattle.link.specs.Phases.{call_to}
use Rattle.link.proofs.PhaseLaws.{words_short, bytes_short, image_short, pool_short, front_words, fields_words, messages_words, few_files, all_opened, all_sound, all_words, all_bytes, all_files, used_is, own_taken, links_done}
use Rattle.link.proofs.link.accept.Goals.{After-field_words-k, After-put_marks}
use Rattle.link.proofs.link.accept.Goals as goal

-- the two counts are those of the link rows, and there is room for them
front : (c : After-field_words-k) → c.link_words-n.result ≡ link_words (said (call_to c.args.words.now c.args.bytes.now c.args.new.now))
front c = let a = c.args.new.now in c.link_words-n.ensures ∙ front_words a.image.now a.pool.now c.read-s.ensures

behind : (c : After-field_words-k) → c.field_words-k.result ≡ (said (call_to c.args.words.now c.args.bytes.now c.args.new.now)).fields * 16
behind c = let a = c.args.new.now in c.field_words-k.ensures ∙ fields_words a.image.now a.pool.now c.read-s.ensures

links-room : (c : After-field_words-k) → c.link_words-n.result ≤ length c.args.links.now
links-room c = omega (arith, front c, c.requires.room_for_links.link_room (all_opened (call_to c.args.words.now c.args.bytes.now c.args.new.now) c.requires.passed))

rows-room : (c : After-field_words-k) → c.field_words-k.result ≤ length c.args.rows.now
rows-room c = omega (arith, behind c, c.requires.room_for_links.field_room (all_opened (call_to c.args.words.now c.args.bytes.now c.args.new.now) c.requires.passed))

-- the same behind the marks
marked-room : (c : After-put_marks) → c.link_words-n.result ≤ length c.put_marks.new.links
marked-room c = omega (arith, links-room (goal.at.After-put_marks c).After-field_words-k, c.put_marks.auto.links)

counted : (c : After-field_words-k) → c.read-s.result.messages.count ≡ (said (call_to c.args.words.now c.args.bytes.now c.args.new.now)).messages
counted c = let a = c.args.new.now in messages_words a.image.now a.pool.now c.read-s.ensures

-- all link rows are there
done : (c : After-put_marks) →
    let k = (call_to c.args.words.now c.args.bytes.now c.args.new.now) in
    take c.link_words-n.result c.put_marks.new.links ++ take c.field_words-k.result c.args.rows.now ≡ all_links (seen k) (searched (seen k))
done c =
    let r = (goal.at.After-put_marks c).After-field_words-k in
    links_done (call_to c.args.words.now c.args.bytes.now c.args.new.now) c.requires.passed (front r) (behind r) c.requires.standing c.args.links.now c.args.rows.now c.requires.links_value c.requires.rows_value c.compute_marks-d.result (counted r) c.compute_marks-d.ensures c.put_marks.ensures

pub slice_bounds-own-end : goal.slice_bounds-own-end
slice_bounds-own-end c = links-room (goal.at.slice_bounds-own-end c).After-field_words-k

pub slice_bounds-own-end-2 : goal.slice_bounds-own-end-2
slice_bounds-own-end-2 c = sym (length-take-le c.link_words-n.result c.args.links.now (links-room (goal.at.slice_bounds-own-end-2 c).After-field_words-k))

pub slice_bounds-compute_marks-end : goal.slice_bounds-compute_marks-end
slice_bounds-compute_marks-end c = sym (length-take-le c.field_words-k.result c.args.rows.now (rows-room (goal.at.slice_bounds-compute_marks-end c).After-field_words-k))

pub compute_marks-d-requires : goal.compute_marks-d-requires
compute_marks-d-requires c =
    let k = (call_to c.args.words.now c.args.bytes.now c.args.new.now) in
    let r = (goal.at.compute_marks-d-requires c).After-field_words-k in
    record { n_bound = few_files k c.requires.standing; sound = all_sound k c.requires.passed; links_value = own_taken k c.requires.passed (front r) (behind r) c.requires.standing c.args.links.now c.args.rows.now c.requires.links_value c.requires.rows_value }

pub put_marks-requires : goal.put_marks-requires
put_marks-requires c =
    let k = (call_to c.args.words.now c.args.bytes.now c.args.new.now) in
    let n = counted (goal.at.put_marks-requires c).After-field_words-k in
    let ok = all_sound k c.requires.passed in
    record { n_bound = omega (arith, n, ok.few-messages); n_in_bounds = omega (arith, n, c.requires.room_for_links.link_room (all_opened k c.requires.passed)) }

pub slice_bounds-write-end : goal.slice_bounds-write-end
slice_bounds-write-end c = marked-room (goal.at.slice_bounds-write-end c).After-put_marks

pub slice_bounds-write-end-2 : goal.slice_bounds-write-end-2
slice_bounds-write-end-2 c = sym (length-take-le c.link_words-n.result c.put_marks.new.links (marked-room (goal.at.slice_bounds-write-end-2 c).After-put_marks))

pub slice_bounds-write-end-3 : goal.slice_bounds-write-end-3
slice_bounds-write-end-3 c = sym (length-take-le c.field_words-k.result c.args.rows.now (rows-room (goal.at.slice_bounds-write-end-3 c).After-field_words-k))

pub write-requires : goal.write-requires
write-requires c =
    let k = (call_to c.args.words.now c.args.bytes.now c.args.new.now) in
    let all = c.requires.passed in
    let r = (goal.at.write-requires c).After-field_words-k in
    let n = length-take-le c.link_words-n.result c.put_marks.new.links (marked-room (goal.at.write-requires c).After-put_marks) in
    let m = length-take-le c.field_words-k.result c.args.rows.now (rows-room r) in
    record {
      image_len_bound = image_short k c.requires.standing.lengths;
      pool_len_bound = pool_short k c.requires.standing.lengths;
      fields_in_bounds = omega (arith, all_words k all, front r, behind r, n, m);
      pool_in_bounds = all_bytes k all;
    }

pub overflow_add-n : goal.overflow_add-n
overflow_add-n c =
    let k = (call_to c.args.words.now c.args.bytes.now c.args.new.now) in
    let r = (goal.at.overflow_add-n c).After-field_words-k in
    omega (arith, front r, behind r, links-few (said k) (all_sound k c.requires.passed), (all_sound k c.requires.passed).few_fields)

pub used_after-requires : goal.used_after-requires
used_after-requires c =
    let k = (call_to c.args.words.now c.args.bytes.now c.args.new.now) in
    let all = c.requires.passed in
    let h = c.requires.standing.lengths in
    let r = (goal.at.used_after-requires c).After-field_words-k in
    record {
      words_bound = omega (arith, all_words k all, front r, behind r, words_short k h);
      bytes_bound = omega (arith, all_bytes k all, bytes_short k h);
      files_bound = all_files k all;
    }

pub returns : goal.returns
returns c =
    let a = c.args in
    let n = a.new.now in
    let r = (goal.at.returns c).After-field_words-k in
    record {
      value = used_is (call_to c.args.words.now c.args.bytes.now c.args.new.now) c.requires.passed (front r) (behind r) c.used_after.ensures;
      words_after = c.write.ensures.words_after ∙ ap (λ (l : List ℕ). splice a.words.now n.used.words (record_words (record { image = n.image.now; pool = n.pool.now; links = l }) n.used.words n.used.bytes)) (done (goal.at.returns c).After-put_marks);
      bytes_after = c.write.ensures.bytes_after;
    }
