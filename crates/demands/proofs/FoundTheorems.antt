-- Of demand 2: what linking numbered is found by its full name, and nothing else is. Assumes nothing.
use mathlib.Core.Path.{◌≡◌, refl, sym, ap, ◌∙◌}
use mathlib.Core.Logic.{◌↔◌}
use mathlib.Core.Bool.{true, not}
use mathlib.Core.List.{List, [], ◌∷◌, ◌++◌}
use Prim.Native.Nat.{ℕ, ◌+◌, ◌<◌}
use native.Mathlib.Omega.{arith}
use lib.Dec.{leb}
use lib.ListN.{get_or, length}
use lib.Seq.{get_or-append-add}
use Rattle.std.specs.Prelude.{Some, Ok}
use Rattle.lists.specs.Below.{all_of}
use Rattle.lists.proofs.Cases.{all_of_lem}
use Rattle.names.specs.Bytes.{dot}
use Rattle.image.specs.FullName.{full_name}
use Rattle.image.specs.Record.{File, no_file}
use Rattle.image.specs.Shelf.{used_part}
use Rattle.image.specs.declared.shelf.Used.{Used}
use Rattle.link.specs.Refusals.{Call, said, shelved_files, new_file, word_limit, byte_limit, length_tests, length_lines, shelf_lines}
use Rattle.link.specs.Link.{linked}
use Rattle.link.specs.Lookup.{asked, item_named, count_of, item_of, shelf_verdict, shelved_file, looked_up}
use Rattle.link.specs.declared.building.Wanted.{Wanted}
use Rattle.link.specs.declared.building.Wanted.TheVariants.{Message, Enum}
use Rattle.link.proofs.TableLaws.{all_passed, given_none, lengths_pass}
use Rattle.link.proofs.ShelfFacts.{files_length}
use Rattle.link.proofs.FileLookupLaws.{item_in_lem}
use Rattle.link.proofs.GivenLaws.{fit_full}
use Rattle.demands.specs.Demands.{GoesOn, given_name, NumberedIsFound}
use Rattle.demands.proofs.Demands.{accepted_verdict, accepted_outcome, acceptance_appends, used_after_lem}
use Rattle.demands.proofs.ShelfTheorems.{file_fits_lem, accepted_well_formed, accepted_files}
use Rattle.demands.proofs.LookupTheorems.{item_found_if}

module _ (c : Call) (u : Used) (h : (linked c).answer ≡ Ok u) where
  -- the shelf that is left, and the number of the new file
  abbrev left : Call
  left = asked (linked c).words (linked c).bytes u

  abbrev new : ℕ
  new = c.used.files

  -- ---- the way there

  -- the slices are as long as before, when they passed 1
  lengths_kept : all_of (length_tests left) ≡ true
  lengths_kept =
      let passed = lengths_pass c (all_passed c (accepted_verdict c h).0).lengths in
      let now = acceptance_appends c u h in
      all_of_lem (length_tests left)
      (ap (λ (n : ℕ). leb n word_limit) now.words.size ∙ passed.0, (ap (λ (n : ℕ). leb n byte_limit) now.bytes.size ∙ passed.1.0, (refl, (refl, tt))))

  shelf_passes : shelf_verdict left ≡ Ok tt
  unfolding shelf_verdict length_lines shelf_lines
  shelf_passes = given_none (length_lines left ++ shelf_lines left) (ap not lengths_kept, (ap not (accepted_well_formed c u h), tt))

  way_there : GoesOn left new
  way_there = let more : u.files ≡ new + 1 = ap (λ (x : Used). x.files) (accepted_outcome c u h).0 in (shelf_passes, omega (arith, more))

  -- ---- the file there

  new_there : shelved_file left new ≡ new_file c
  new_there =
      let files = shelved_files c in
      let size : length files ≡ new = files_length new (used_part c.words c.bytes c.used) in
      let e : new ≡ length files + 0 = omega (arith, size) in
      ap (λ (x : List File). get_or x new no_file) (accepted_files c u h)
      ∙ ap (λ (k : ℕ). get_or (files ++ (new_file c ∷ [])) k no_file) e
      ∙ get_or-append-add files (new_file c ∷ []) 0 no_file

  -- its full names are those that the image gives
  name_kept : (wanted : Wanted) (i : ℕ) → i < count_of wanted (said c) → full_name (said c) (new_file c).links (item_of wanted (said c) i) ≡ given_name c (item_of wanted (said c) i)
  name_kept wanted i l = fit_full (shelved_files c) (new_file c) (file_fits_lem c (accepted_verdict c h).0) (item_of wanted (said c) i) (item_in_lem wanted (said c) i l)

  -- ---- what is found there

  found_new : (wanted : Wanted) (name : List ℕ) (i : ℕ)
      → (looked_up left new (λ x. item_named wanted x name) ≡ Ok (Some i))
      ↔ (GoesOn left new × (i < count_of wanted (said c)) × (name ≡ dot ∷ full_name (said c) (new_file c).links (item_of wanted (said c) i)))
  found_new wanted name i = rw new_there at (item_found_if left new wanted name i)

  found_given : (wanted : Wanted) (name : List ℕ) (i : ℕ)
      → (looked_up left new (λ x. item_named wanted x name) ≡ Ok (Some i)) ↔ ((i < count_of wanted (said c)) × (name ≡ dot ∷ given_name c (item_of wanted (said c) i)))
  found_given wanted name i =
      let found = found_new wanted name i in (
        (λ t. let f = found.0 t in (f.1, f.2 ∙ ap (λ (l : List ℕ). dot ∷ l) (name_kept wanted i f.1))),
        (λ t. found.1 (way_there, t.0, t.1 ∙ ap (λ (l : List ℕ). dot ∷ l) (sym (name_kept wanted i t.0)))),
      )

pub numbered_is_found : (c : Call) → NumberedIsFound c
numbered_is_found c u h =
    rw (used_after_lem c u h)
    (record { goes_on = way_there c u h; is_new = new_there c u h; messages = found_given c u h Message; enums = found_given c u h Enum })
