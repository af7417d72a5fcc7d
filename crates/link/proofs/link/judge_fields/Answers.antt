-- `link::link::judge_fields` meets its contract. Assumes nothing.
use mathlib.Core.Path.{◌≡◌, refl, ◌∙◌}
use Rattle.std.proofs.Common.{rules}
use Rattle.std.specs.Prelude.{Err}
use Rattle.link.specs.Search.{list_of, searched}
use Rattle.link.specs.Refusals.{seen, all_field_lines, room_lines}
use Rattle.link.specs.Phases.{call_to}
use Rattle.link.proofs.SearchLaws.{below_at}
use Rattle.link.proofs.PhaseLaws.{stops_here, goes_on_lem, sound_said, few_files, can_search_in, list_few, list_inside, fields_judged, fields_written}
use Rattle.link.proofs.link.judge_fields.Goals as goal

pub search_list-requires : goal.search_list-requires
search_list-requires c =
    let k = call_to c.args.shelf.now.words.now c.args.shelf.now.bytes.now c.args.new.now in
    rw c.read.ensures (can_search_in k c.requires.standing refl c.requires.opening c.requires.imports)

pub invariant_of-scope : goal.invariant_of-scope
invariant_of-scope c =
    let k = call_to c.args.shelf.now.words.now c.args.shelf.now.bytes.now c.args.new.now in
    let e = (rw c.read.ensures at c.search_list.ensures) in
    record { n_bound = few_files k c.requires.standing; count_bound = list_few k c.requires.standing refl c.requires.opening c.requires.imports e; below = λ i h. below_at k.used.files (list_of c.search_list.result) i (list_inside k c.requires.standing refl c.requires.opening c.requires.imports e) h }

pub index_file-requires-clause-sound : goal.index_file-requires-clause-sound
index_file-requires-clause-sound c =
    let k = call_to c.args.shelf.now.words.now c.args.shelf.now.bytes.now c.args.new.now in
    sound_said k c.requires.opening

pub returns-in_err-index_file-clause-value : goal.returns-in_err-index_file-clause-value
returns-in_err-index_file-clause-value c =
    let k = call_to c.args.shelf.now.words.now c.args.shelf.now.bytes.now c.args.new.now in
    let e : c.from_residual.result ≡ Err c.in_err-index_file.field-0.0 = search rules in
    e ∙ stops_here (all_field_lines (seen k) (searched (seen k))) (room_lines k) (fields_judged k c.requires.standing refl c.requires.opening c.requires.imports (rw c.read.ensures at c.search_list.ensures) c.requires.links_value c.index_file.ensures.value) c.in_err-index_file.was

pub judge_room-requires-clause-sound : goal.judge_room-requires-clause-sound
judge_room-requires-clause-sound c =
    let k = call_to c.args.shelf.now.words.now c.args.shelf.now.bytes.now c.args.new.now in
    sound_said k c.requires.opening

pub returns : goal.returns
returns c =
    let k = call_to c.args.shelf.now.words.now c.args.shelf.now.bytes.now c.args.new.now in
    let e = (rw c.read.ensures at c.search_list.ensures) in
    record {
      value = goes_on_lem (all_field_lines (seen k) (searched (seen k))) (room_lines k) (fields_judged k c.requires.standing refl c.requires.opening c.requires.imports e c.requires.links_value c.index_file.ensures.value) c.in_ok-index_file.was c.judge_room.ensures;
      rows_after = λ _. fields_written k c.requires.standing refl c.requires.opening c.requires.imports e c.requires.links_value c.args.rows.now (c.index_file.ensures.rows_after c.in_ok-index_file.was);
    }
