-- Lookups for a file of a shelf: the verdict of 1 and 2, the way to a file, and what is answered, by what the code has read. Assumes nothing.
use mathlib.Core.Path.{◌≡◌, refl, sym, ap, ◌∙◌}
use mathlib.Core.Bool.{Bool, true, false}
use mathlib.Core.List.{List}
use Prim.Native.Nat.{ℕ, ◌≤◌, ◌<◌}
use lib.Dec.{ltb}
use lib.ListN.{get_or, take}
use borrow.Author.Tests.{lt-ltb, le-ltb, ltb-true}
use Rattle.std.specs.Prelude.{Option, Some, None, Result, Ok, Err}
use Rattle.lists.proofs.Cases.{by}
use Rattle.lists.proofs.TableLaws.{get_or_table}
use Rattle.image.specs.Record.{File, no_file}
use Rattle.image.specs.Shelf.{used_part, file_fits, well_formed}
use Rattle.image.specs.Places.{file_of, file_in, places_of, read_shelf}
use Rattle.image.specs.Verdict.{Verdict, first}
use Rattle.image.specs.declared.shelf.Places.{Places}
use Rattle.image.specs.declared.shelf.File as lent_file
use Rattle.image.specs.declared.verdict.Refusal.{Refusal}
use Rattle.image.specs.declared.verdict.Refusal.TheVariants.{ShelfBroken}
use Rattle.image.specs.declared.verdict.Refused.{Refused}
use Rattle.image.proofs.ReadLaws.{formed, not-formed}
use Rattle.image.proofs.VerdictLaws.{first_append}
use Rattle.link.specs.Refusals.{Call, shelved_files, length_lines, shelf_lines}
use Rattle.link.specs.Lookup.{shelf_verdict, placed_shelf, opened_by, opened_file, open_as, shelved_file, looked_up, Naming, unwritten, name_written}
use Rattle.link.proofs.JudgedLaws.{judged_passed, judged_value, judged_stopped, first_stops, first_passes}
use Rattle.link.proofs.ShelfFacts.{places_files, formed_fits}
use Rattle.link.proofs.TableLaws.{pass_both, shelf_pass}

module _ (c : Call) where
  abbrev places : Places
  places = places_of c.used.files (used_part c.words c.bytes c.used)

  not_read : None ≡ read_shelf c.words c.bytes c.used → well_formed c.words c.bytes c.used ≡ false
  not_read n =
      by (well_formed c.words c.bytes c.used)
      (λ t. let e : ◌≡◌ {A = Option Places} None (Some places) = n ∙ sym (formed c.words c.bytes c.used t) in cc)
      (λ t. t)

  read_well : {p : Places} → Some p ≡ read_shelf c.words c.bytes c.used → (well_formed c.words c.bytes c.used ≡ true) × (p ≡ places)
  read_well {p} s =
      by (well_formed c.words c.bytes c.used)
      (λ t. let e : ◌≡◌ {A = Option Places} (Some p) (Some places) = s ∙ sym (formed c.words c.bytes c.used t) in (t, cc))
      (λ t. let e : ◌≡◌ {A = Option Places} (Some p) None = s ∙ sym (not-formed c.words c.bytes c.used t) in cc)

  -- ---- 1 and 2. `v` is the verdict of 1

  module _ {v : Verdict} (h : v ≡ first (length_lines c)) where
    pub checked_long : {r : Refused} → v ≡ Err r → Err r ≡ placed_shelf c
    unfolding shelf_verdict
    checked_long {r} e = rw (first_stops (length_lines c) (shelf_lines c) r (sym h ∙ e))

    pub checked_broken : v ≡ Ok tt → None ≡ read_shelf c.words c.bytes c.used → Err (record { refusal = ShelfBroken; place = 0 }) ≡ placed_shelf c
    unfolding shelf_verdict shelf_lines first
    checked_broken e n = rw (first_passes (length_lines c) (shelf_lines c) (sym h ∙ e), not_read n)

    pub checked_fine : v ≡ Ok tt → {p : Places} → Some p ≡ read_shelf c.words c.bytes c.used → Ok p ≡ placed_shelf c
    unfolding shelf_verdict shelf_lines first
    checked_fine e s = let w = read_well s in rw (first_passes (length_lines c) (shelf_lines c) (sym h ∙ e), w.0, w.1)

  -- neither is given: the shelf is well formed
  pub passed_formed : shelf_verdict c ≡ Ok tt → well_formed c.words c.bytes c.used ≡ true
  unfolding shelf_verdict
  passed_formed h = shelf_pass c (pass_both (first (length_lines c)) (first (shelf_lines c)) (sym (first_append (length_lines c) (shelf_lines c)) ∙ h)).1

  module _ (f : ℕ) where
    -- ---- the way to file f

    pub opened_refused : {r : Refused} → Err r ≡ placed_shelf c → Err r.refusal ≡ opened_file c f
    unfolding opened_file
    opened_refused e = rw (judged_stopped (shelf_verdict c) places (sym e))

    module _ {p : Places} (h : Ok p ≡ placed_shelf c) where
      checked : shelf_verdict c ≡ Ok tt
      checked = judged_passed (shelf_verdict c) places (sym h)

      pub opened_bad : c.used.files ≤ f → Ok None ≡ opened_file c f
      unfolding opened_file
      opened_bad l = rw (checked, le-ltb f c.used.files l)

      module _ (l : f < c.used.files) where
        shelved_at : shelved_file c f ≡ file_in c.words c.bytes p f
        shelved_at =
            let w = passed_formed checked in
            let q : Some p ≡ read_shelf c.words c.bytes c.used = rw (← judged_value (shelf_verdict c) places (sym h)) (formed c.words c.bytes c.used w) in
            ap (λ (l : List File). get_or l f no_file) (places_files c.words c.bytes c.used w q)
            ∙ get_or_table c.used.files (file_in c.words c.bytes p) f no_file l

        pub opened_there : {x : File} → x ≡ file_in c.words c.bytes p f → Ok (Some x) ≡ opened_file c f
        unfolding opened_file
        opened_there e = rw (checked, lt-ltb f c.used.files l, e, shelved_at)

    -- ---- what a file is that was opened: in order behind those before it

    opened_passed : (v : Verdict) (there : Bool) {file x : File} → opened_by v there file ≡ Ok (Some x) → (v ≡ Ok tt) × ((there ≡ true) × (x ≡ file))
    opened_passed (Ok u) true e = (refl, (refl, cc))
    opened_passed (Ok u) false e = cc
    opened_passed (Err r) there e = cc

    opened_fits : {x : File} → opened_file c f ≡ Ok (Some x) → file_fits (take f (shelved_files c)) x ≡ true
    unfolding opened_file
    opened_fits e =
        let t = opened_passed (shelf_verdict c) (ltb f c.used.files) e in
        rw t.1.1 (formed_fits c.words c.bytes c.used (passed_formed t.0) f (ltb-true f c.used.files t.1.0))

    -- ---- what is answered for a file that was opened, or not

    module _ {o : Result (Option lent_file.File) Refusal} (h : open_as o ≡ opened_file c f) where
      pub looked_refused : {r : Refusal} (seek : File → Option ℕ) → o ≡ Err r → Err r ≡ looked_up c f seek
      unfolding looked_up
      looked_refused seek e = rw (← h, e)

      module _ (out : List ℕ) (write : List ℕ → File → Naming) where
        pub name_refused : {r : Refusal} → o ≡ Err r → unwritten out (Err r) ≡ name_written c f out write
        unfolding name_written
        name_refused e = rw (← h, e)

      module _ {x : Option lent_file.File} where
        pub looked_none : (seek : File → Option ℕ) → o ≡ Ok x → x ≡ None → Ok None ≡ looked_up c f seek
        unfolding looked_up
        looked_none seek e n = rw (← h, e, n)

        pub name_none : (out : List ℕ) (write : List ℕ → File → Naming) → o ≡ Ok x → x ≡ None → unwritten out (Ok None) ≡ name_written c f out write
        unfolding name_written
        name_none out write e n = rw (← h, e, n)

        module _ {file : lent_file.File} where
          pub looked_there : (seek : File → Option ℕ) → o ≡ Ok x → x ≡ Some file → {r : Option ℕ} → r ≡ seek (file_of file) → Ok r ≡ looked_up c f seek
          unfolding looked_up
          looked_there seek e s q = rw (← h, e, s, q)

          pub name_there : (out : List ℕ) (write : List ℕ → File → Naming) → o ≡ Ok x → x ≡ Some file → {n : Naming} → n ≡ write out (file_of file) → n ≡ name_written c f out write
          unfolding name_written
          name_there out write e s q = rw (← h, e, s, q)

          -- the file is in order behind those before it
          pub there_fits : o ≡ Ok x → x ≡ Some file → file_fits (take f (shelved_files c)) (file_of file) ≡ true
          there_fits e s = opened_fits (sym h ∙ rw (e, s))
