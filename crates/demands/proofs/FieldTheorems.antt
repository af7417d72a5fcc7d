-- Each regular field of a shelved file is found by its number, by its own name and by its JSON name, as its flat number, and by nothing else.
-- Assumes nothing.
use mathlib.Core.Path.{◌≡◌, refl, sym, ap, ◌∙◌}
use mathlib.Core.Logic.{◌↔◌}
use mathlib.Core.Bool.{Bool, true, false}
use mathlib.Core.List.{List}
use Prim.Native.Nat.{ℕ, ◌+◌, ◌<◌}
use native.Mathlib.Omega.{arith}
use lib.Dec.{eqb}
use lib.ListN.{take}
use borrow.Author.Tests.{lt-ltb, eq-eqb, eqb-true}
use Rattle.std.specs.Prelude.{Option, Some, None, is_none, Ok}
use Rattle.lists.specs.Below.{first_below}
use Rattle.lists.specs.Lists.{same}
use Rattle.lists.proofs.Cases.{by, clash, each}
use Rattle.lists.proofs.BelowLaws.{all_below_elim, any_below_false, first_is, searched}
use Rattle.lists.proofs.ListLaws.{same_is, same_refl}
use Rattle.image.specs.Schema.{Schema, FieldSays}
use Rattle.image.specs.Flat.{row_of, first_field}
use Rattle.image.specs.Members.{regular}
use Rattle.image.specs.Clash as rule
use Rattle.image.specs.Clash.{json_name_of, is_called, clashes_earlier, first_regular, first_clash, field_by_number, field_by_name, field_by_name_or_json}
use Rattle.image.specs.Record.{File, says}
use Rattle.image.specs.Shelf.{clash_free, image_tests, image_obeys, file_fits}
use Rattle.image.proofs.FieldLaws.{clash-number, clash_name, clash_json}
use Rattle.image.proofs.Numbers.{row_in}
use Rattle.image.proofs.Owned.{fields_next, fields_mono, fields_end_lem}
use Rattle.link.specs.Refusals.{Call, shelved_files}
use Rattle.link.specs.Lookup.{flat_field, in_message, field_numbered, usual_mode, field_named, shelved_file, looked_up}
use Rattle.link.proofs.ShelfFacts.{fit_obeys, fit_sound}
use Rattle.link.proofs.GivenLaws.{fit_row, fit_first}
use Rattle.demands.specs.Demands.{GoesOn}
use Rattle.demands.proofs.LookupTheorems.{none_not, found_told, found_exactly_if, on_fits}

-- ---- a test that no two fields of a message meet without a clash

called_clashes : (f e : FieldSays) → is_called e f.name ≡ true → rule.clash f e ≡ true
called_clashes f e h = by (eqb f.number e.number) (clash-number f e) (λ n. clash_name f e n h)

json_clashes : (f e : FieldSays) → is_called e (json_name_of f) ≡ true → rule.clash f e ≡ true
json_clashes f e h =
    by (is_called e f.name) (called_clashes f e) (λ c. by (eqb f.number e.number) (clash-number f e) (λ n. clash_json f e n c ∙ h))

-- two fields that have p clash
abbrev Telling : (FieldSays → Bool) → Type 0
Telling p = (f e : FieldSays) → p f ≡ true → p e ≡ true → rule.clash f e ≡ true

number_tells : (n : ℕ) → Telling (λ f. eqb f.number n)
number_tells n f e p q = clash-number f e (eq-eqb f.number e.number (eqb-true f.number n p ∙ sym (eqb-true e.number n q)))

name_tells : (text : List ℕ) → Telling (λ f. same f.name text)
unfolding is_called
name_tells text f e p q =
    called_clashes f e (rw (same_is e.name text q, same_is f.name text p, same_refl text))

called_tells : (text : List ℕ) → Telling (λ f. is_called f text)
unfolding is_called
called_tells text f e p q =
    by (same f.name text)
    (λ s. called_clashes f e (rw (same_is f.name text s) q))
    (λ s. let j : same (json_name_of f) text ≡ true = simp s at p in json_clashes f e (rw (same_is (json_name_of f) text j) q))

-- ---- the first field with p, in a message row where none clashes with an earlier one

module _ (g : Schema) (r : ℕ) (free : is_none (first_clash g r) ≡ true) where
  abbrev count : ℕ
  count = (g.fields_in r).count

  none_clashes : (j : ℕ) → j < count → clashes_earlier g r j ≡ false
  unfolding first_clash
  none_clashes j l =
      searched count (clashes_earlier g r) count
      (λ s e. clash (is_none (first_clash g r)) free (rw (e, lt-ltb s.at count s.below)))
      (λ none e. none j l)

  apart : (i j : ℕ) → i < j → j < count → rule.clash (regular g r j) (regular g r i) ≡ false
  unfolding clashes_earlier
  apart i j l h = any_below_false j (λ k. rule.clash (regular g r j) (regular g r k)) (none_clashes j h) i l

  module _ (p : FieldSays → Bool) (tells : Telling p) (j : ℕ) (l : j < count) where
    abbrev has : ℕ → Bool
    has i = p (regular g r i)

    only_one : (first_regular g r has ≡ Some j) ↔ (has j ≡ true)
    only_one = (
      (λ h. let f = found_told count (first_below count has count) j h in
          searched count has count (λ s e. rw (sym e ∙ f.0) at s.has) (λ none e. absurd (omega (arith, e, f.0, f.1)))),
      (λ h. rw (
        first_is count has count j l h
            (λ i k. by (has i) (λ t. clash (rule.clash (regular g r j) (regular g r i)) (tells (regular g r j) (regular g r i) h t) (apart i j k l)) (λ t. t)),
        lt-ltb j count l,
      )),
    )

-- ---- in a file that is in order: places and flat numbers

module _ (earlier : List File) (x : File) (fits : file_fits earlier x ≡ true) (m : ℕ) (h : m < (says x).messages) where
  abbrev home : ℕ
  home = row_of (says x) m

  -- a place in a message, behind its first field, is a flat number of the file
  pub place_below : (k : ℕ) → k < ((says x).fields_in home).count → first_field (says x) m + k < (says x).fields
  place_below k l =
      let ok = fit_sound earlier x fits in
      omega (arith, fields_next (says x) ok m h, fields_mono (says x) ok (m + 1) (says x).messages (omega arith), fields_end_lem (says x) ok)

  in_message_lem : (seek : ℕ → Option ℕ) → in_message x m seek ≡ flat_field (says x).fields (first_field (says x) m) (seek home)
  in_message_lem seek = rw (lt-ltb m (says x).messages h, fit_row earlier x fits m h, fit_first earlier x fits m h)

  flat_of_lem : (found : Option ℕ) (j : ℕ) → flat_field (says x).fields (first_field (says x) m) found ≡ Some (first_field (says x) m + j) → found ≡ Some j
  flat_of_lem None j e = none_not (first_field (says x) m + j) e
  flat_of_lem (Some k) j e =
      let a = first_field (says x) m in
      let z = (found_told (says x).fields (a + k) (a + j) e).0 in
      let y : k ≡ j = omega (arith, z) in
      ap Some y

  flat_exactly : (seek : ℕ → Option ℕ) (j : ℕ) → j < ((says x).fields_in home).count → (in_message x m seek ≡ Some (first_field (says x) m + j)) ↔ (seek home ≡ Some j)
  flat_exactly seek j l = (
    (λ e. flat_of_lem (seek home) j (sym (in_message_lem seek) ∙ e)),
    (λ e. in_message_lem seek ∙ rw (e, lt-ltb (first_field (says x) m + j) (says x).fields (place_below j l))),
  )

  -- no field of it clashes with an earlier one
  home_free : is_none (first_clash (says x) home) ≡ true
  unfolding image_obeys clash_free
  home_free =
      all_below_elim (says x).messages (λ r. is_none (first_clash (says x) r))
      (each (image_tests x.image x.pool) (fit_obeys earlier x fits)).1.1.1.1.1.0
      home (row_in (says x) (fit_sound earlier x fits) m h)

-- ---- for a file of a shelf

module _ (c : Call) (f : ℕ) (on : GoesOn c f) (m : ℕ) (h : m < (says (shelved_file c f)).messages) where
  abbrev g : Schema
  g = says (shelved_file c f)

  -- regular field j of flat message m, and its flat number
  abbrev field : ℕ → FieldSays
  field j = regular g (row_of g m) j

  abbrev number : ℕ → ℕ
  number j = first_field g m + j

  field_found_if : (p : FieldSays → Bool) → Telling p → (seek : File → Option ℕ) → seek (shelved_file c f) ≡ in_message (shelved_file c f) m (λ r. first_regular g r (λ i. p (regular g r i)))
      → (j : ℕ) → j < (g.fields_in (row_of g m)).count → (looked_up c f seek ≡ Ok (Some (number j))) ↔ (p (field j) ≡ true)
  field_found_if p tells seek e j l =
      let fits = on_fits c f on in
      let before = take f (shelved_files c) in
      let place = flat_exactly before (shelved_file c f) fits m h (λ r. first_regular g r (λ i. p (regular g r i))) j l in
      let one = only_one g (row_of g m) (home_free before (shelved_file c f) fits m h) p tells j l in (
        (λ q. one.0 (place.0 (sym e ∙ ((found_exactly_if c f seek (number j)).0 q).1))),
        (λ q. (found_exactly_if c f seek (number j)).1 (on, e ∙ place.1 (one.1 q))),
      )

  module _ (j : ℕ) (l : j < (g.fields_in (row_of g m)).count) where
    -- By number it is found exactly by its own.
    pub number_exactly_if : (n : ℕ) → (looked_up c f (λ x. field_numbered x m n) ≡ Ok (Some (number j))) ↔ ((field j).number ≡ n)
    unfolding field_numbered field_by_number
    number_exactly_if n =
        let t = field_found_if (λ x. eqb x.number n) (number_tells n) (λ x. field_numbered x m n) refl j l in
        ((λ q. eqb-true (field j).number n (t.0 q)), (λ q. t.1 (eq-eqb (field j).number n q)))

    -- In mode 1 by its own name.
    pub own_name_exactly_if : (name : List ℕ) → (looked_up c f (λ x. field_named x m 1 name) ≡ Ok (Some (number j))) ↔ ((field j).name ≡ name)
    unfolding field_named field_by_name
    own_name_exactly_if name =
        let t = field_found_if (λ x. same x.name name) (name_tells name) (λ x. field_named x m 1 name) refl j l in
        ((λ q. same_is (field j).name name (t.0 q)), (λ q. t.1 (rw q (same_refl name))))

    -- In mode 2 by its own name or its JSON name.
    pub name_exactly_if : (name : List ℕ) → (looked_up c f (λ x. field_named x m 2 name) ≡ Ok (Some (number j))) ↔ (is_called (field j) name ≡ true)
    unfolding field_named field_by_name_or_json
    name_exactly_if name = field_found_if (λ x. is_called x name) (called_tells name) (λ x. field_named x m 2 name) refl j l

-- Mode 0 is the usual mode, in every file.
pub usual_mode_lem : (x : File) (m : ℕ) (name : List ℕ) → field_named x m 0 name ≡ field_named x m usual_mode name
unfolding field_named
usual_mode_lem x m name = refl
