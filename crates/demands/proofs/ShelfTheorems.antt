-- An accepted file leaves a well-formed shelf, which has one file more: so the next call is not refused by 2. Assumes nothing.
use mathlib.Core.Path.{◌≡◌, ap}
use mathlib.Core.Bool.{true, not}
use mathlib.Core.List.{List, [], ◌∷◌, ◌++◌}
use Prim.Native.Nat.{ℕ, ◌<◌}
use lib.Dec.{leb}
use lib.ListN.{length}
use borrow.Author.Tests.{not-false}
use Rattle.std.specs.Prelude.{Ok, is_some, is_none}
use Rattle.lists.proofs.Cases.{right, all_of_lem}
use Rattle.lists.proofs.BelowLaws.{all_below_intro}
use Rattle.image.specs.Layout.{image_limit, laid_out, laid_out_within_limit}
use Rattle.image.specs.Laid.{Sound}
use Rattle.image.specs.Links.{links_of}
use Rattle.image.specs.Record.{all_link_words}
use Rattle.image.specs.LinkTests.{link_tests, links_fit}
use Rattle.image.specs.Shelf.{file_limit, file_named, image_tests, image_obeys, imports_named, shelved_tests, file_fits, well_formed}
use Rattle.image.specs.Verdict.{first, passes}
use Rattle.image.specs.Judge.{map_entry_lines, naming_lines}
use Rattle.image.specs.declared.shelf.Used.{Used}
use Rattle.image.proofs.ObeyLaws.{Opened}
use Rattle.image.proofs.AppendLaws.{files_with, still_well_formed}
use Rattle.link.specs.Search.{searched}
use Rattle.link.specs.Given.{NoneGiven}
use Rattle.link.specs.Refusals.{Call, said, shelved_files, seen, name_lines, new_file, length_lines, shelf_lines, table}
use Rattle.link.specs.Link.{linked}
use Rattle.link.specs.Phases.{call_of, from_opening}
use Rattle.demands.specs.Demands.{AcceptanceFits, AcceptanceAdds}
use Rattle.link.proofs.TableLaws.{name_group, naming_group, AllPassed, all_passed, none_given, given_none, shelf_pass}
use Rattle.link.proofs.ShelfFacts.{opened_full, imports_found}
use Rattle.link.proofs.PhaseLaws.{both_passed, all_opened, all_sound, all_files, all_links-length}
use Rattle.demands.proofs.DefaultFacts.{default-within}
use Rattle.demands.proofs.RowFacts.{messages_given_lem, others_given_lem, marks_fit_lem, enum_row_kept}
use Rattle.demands.proofs.FieldFacts.{clash_free_lem, fields_fit}
use Rattle.demands.proofs.Demands.{accepted_verdict, accepted_outcome, accepted_fits}

-- ---- the refusals and rule 2 meet: a file that draws none is in order behind the shelved files

module _ (c : Call) (passed : first (table c) ≡ Ok tt) where
  from_opening_lem : first (from_opening c) ≡ Ok tt
  unfolding table
  from_opening_lem = (both_passed (shelf_lines c) (from_opening c) (both_passed (length_lines c) (shelf_lines c ++ from_opening c) passed).1).1

  groups : AllPassed c
  groups = all_passed c passed

  pub passed_sound : Sound (said c)
  passed_sound = all_sound c from_opening_lem

  few_files : c.used.files < file_limit
  few_files = all_files c from_opening_lem

  opened : Opened c.image c.pool
  opened = opened_full c.image c.pool (leb file_limit c.used.files) (all_opened c from_opening_lem)

  laid : laid_out c.image (length c.pool) ≡ true
  unfolding laid_out_within_limit
  laid = right (leb (length c.image) image_limit) (laid_out c.image (length c.pool)) opened.laid_within

  -- 3, 4, 5, 8, 9 to 11 and 17
  image_obeys_lem : image_obeys c.image c.pool ≡ true
  unfolding image_obeys naming_lines
  image_obeys_lem =
      let naming = none_given (naming_group c) groups.naming in
      all_of_lem (image_tests c.image c.pool)
      (laid, (opened.within, (opened.texts, (ap not naming.0, (ap passes (given_none (map_entry_lines (said c) (links_of (said c))) naming.1), (clash_free_lem (seen c) (searched (seen c)) passed_sound groups.fields, tt))))))

  -- 6 and 7
  name_fresh : is_none (file_named (shelved_files c) (said c).file_name) ≡ true
  unfolding name_lines
  name_fresh = ap not (none_given (name_group c) groups.name).0

  imports_named_lem : imports_named (shelved_files c) (new_file c) ≡ true
  unfolding imports_named
  imports_named_lem =
      all_below_intro (said c).imports (λ i. is_some (file_named (shelved_files c) ((said c).import_name i)))
      (λ i l. not-false (is_some (file_named (shelved_files c) ((said c).import_name i))) (imports_found (shelved_files c) (said c) groups.imports i l))

  -- 12 to 16, and the marks
  link_room : links_fit (shelved_files c ++ (new_file c ∷ [])) (new_file c) ≡ true
  unfolding links_fit
  link_room =
      let s = seen c in
      let list = searched s in
      let ok = passed_sound in
      all_of_lem (link_tests (shelved_files c ++ (new_file c ∷ [])) (new_file c))
      (messages_given_lem s list, (others_given_lem s list ok, (marks_fit_lem s list ok, (fields_fit s list ok groups.fields (default-within c.image c.pool laid) (enum_row_kept s list ok), tt))))

  pub file_fits_lem : file_fits (shelved_files c) (new_file c) ≡ true
  unfolding file_fits
  file_fits_lem = all_of_lem (shelved_tests (shelved_files c) (new_file c)) (image_obeys_lem, (name_fresh, (imports_named_lem, (link_room, tt))))

  rows_counted : length (new_file c).links ≡ all_link_words (said c)
  rows_counted = all_links-length (seen c) (searched (seen c)) passed_sound

  was_formed : well_formed c.words c.bytes c.used ≡ true
  was_formed = shelf_pass c groups.shelf

-- ---- the theorems

pub accepted_well_formed : (c : Call) → AcceptanceFits c
accepted_well_formed c u h =
    let passed = (accepted_verdict c h).0 in
    let new = accepted_outcome c u h in
    let room = accepted_fits c u h in
    rw (new.0, new.1, new.2)
    (still_well_formed c.words c.bytes c.used (new_file c) (rows_counted c passed) (was_formed c passed) room.0 room.1 (few_files c passed) (file_fits_lem c passed))

pub accepted_files : (c : Call) → AcceptanceAdds c
accepted_files c u h =
    let passed = (accepted_verdict c h).0 in
    let new = accepted_outcome c u h in
    let room = accepted_fits c u h in
    rw (new.0, new.1, new.2)
    (files_with c.words c.bytes c.used (new_file c) (rows_counted c passed) (was_formed c passed) room.0 room.1)

-- So in the next call, whatever file it brings, the line of 2 is not given.
pub next_shelf_passes : (c : Call) (u : Used) → (linked c).answer ≡ Ok u → (image pool : List ℕ)
    → NoneGiven (shelf_lines (call_of (linked c).words (linked c).bytes u image pool))
unfolding shelf_lines
next_shelf_passes c u h image pool = (ap not (accepted_well_formed c u h), tt)
