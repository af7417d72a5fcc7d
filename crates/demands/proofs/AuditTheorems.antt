-- What the answers of the audit listing tell: of a mark, of a field, and of the completeness check. Assumes nothing.
use mathlib.Core.Path.{◌≡◌, refl, sym, ◌∙◌}
use mathlib.Core.Logic.{◌↔◌}
use mathlib.Core.List.{List}
use mathlib.Core.Bool.{true, false, not, ◌&&◌}
use Prim.Native.Nat.{ℕ, ◌+◌, ◌*◌, ◌<◌, ◌≤◌}
use native.Mathlib.Omega.{arith}
use lib.Dec.{eqb, ltb}
use borrow.Author.Tests.{lt-ltb, ltb-true, eq-eqb, ne_eqb, eqb-true, eqb-false}
use Rattle.std.specs.Prelude.{Option, Some, None, is_some, IsSomeAnd}
use Rattle.lists.specs.Below.{first_below}
use Rattle.lists.specs.Lists.{same}
use Rattle.lists.proofs.Cases.{by, clash, left, right, or-true}
use Rattle.lists.proofs.BelowLaws.{all_below_elim, any_below_hit}
use Rattle.image.specs.Words.{word_at}
use Rattle.image.specs.Schema.{Schema, schema_in, schema_of}
use Rattle.image.specs.Members.{regular}
use Rattle.image.specs.Links.{message_row}
use Rattle.image.specs.Clash.{field_by_name}
use Rattle.image.specs.Record.{File, says}
use Rattle.image.specs.LinkTests.{mark_fits, marks_fit, no_distance}
use Rattle.link.specs.Field.{field_in}
use Rattle.link.specs.Marks.{own_cause}
use Rattle.link.specs.Audit.{says_alone, always_of, distance_of, mark_by, read_mark, label_of, number_of, by_label, carried_at, carried_under, is_required, passes_without}
use Rattle.link.specs.declared.audit.Mark.TheVariants.{AlwaysInitialised, MayBeIncomplete}
use Rattle.link.specs.declared.audit.Carried.{Carried}
use Rattle.link.specs.declared.audit.Carried.TheVariants.{Required, Optional, Repeated, Map}
use Rattle.demands.proofs.LookupTheorems.{none_not, found_told}

-- ---- what an image says without its pool is what the file says

module _ (file : File) where
  pub file_messages : (says_alone file.image).messages ≡ (says file).messages
  unfolding schema_of schema_in
  file_messages = refl

  pub file_passes : (c : Option Carried) → passes_without (says_alone file.image) c ≡ passes_without (says file) c
  unfolding schema_of schema_in
  file_passes None = refl
  file_passes (Some c) = refl

-- ---- what a mark tells: the two words of the link row, and a distance below the file's messages

module _ (n always distance : ℕ) (fit : mark_fits n always distance ≡ true) where
  words_told : (always_of (mark_by always distance) ≡ always) × (distance_of (mark_by always distance) ≡ distance)
  unfolding mark_fits
  words_told =
      by
      (eqb always 0)
      (λ e. (rw e (sym (eqb-true always 0 e)), rw e))
      (λ e.
      let rest : (eqb always 1 && eqb distance no_distance) ≡ true = rw e at fit in
      (rw e (sym (eqb-true always 1 (left (eqb always 1) (eqb distance no_distance) rest))), rw e (sym (eqb-true distance no_distance (right (eqb always 1) (eqb distance no_distance) rest)))))

  near : (d : ℕ) → mark_by always distance ≡ MayBeIncomplete d → d < n
  unfolding mark_fits
  near d t =
      by
      (eqb always 0)
      (λ e.
      let alike : MayBeIncomplete distance ≡ MayBeIncomplete d = rw e at t in
      let is : distance ≡ d = cc in
      rw is at (ltb-true distance n (rw e at fit)))
      (λ e.
      let other : AlwaysInitialised ≡ MayBeIncomplete d = rw e at t in
      cc)

module _ (g : Schema) (links : List ℕ) (fit : marks_fit g links ≡ true) (m : ℕ) (h : m < g.messages) where
  mark_fits_lem : mark_fits g.messages (word_at links (m * 10 + 8)) (word_at links (m * 10 + 9)) ≡ true
  unfolding marks_fit
  mark_fits_lem = all_below_elim g.messages (λ k. mark_fits g.messages (word_at links (k * 10 + 8)) (word_at links (k * 10 + 9))) fit m h

  pub mark_told : (always_of (read_mark links m) ≡ word_at links (m * 10 + 8)) × (distance_of (read_mark links m) ≡ word_at links (m * 10 + 9))
  unfolding read_mark
  mark_told = words_told g.messages (word_at links (m * 10 + 8)) (word_at links (m * 10 + 9)) mark_fits_lem

  pub mark_near : (d : ℕ) → read_mark links m ≡ MayBeIncomplete d → d < g.messages
  unfolding read_mark
  mark_near = near g.messages (word_at links (m * 10 + 8)) (word_at links (m * 10 + 9)) mark_fits_lem

-- ---- what a message carries tells of the field: its label, its number, and whether it is a map

-- the cases of a field, by its label and shape
carried_cases : (P : Carried → Type 0) (label shape number : ℕ) → (label ≡ 2 → P (Required number)) → (label ≡ 3 → P (Repeated number)) → (label ≡ 3 → P (Map number))
    → ((label ≡ 2 → ⊥) → (label ≡ 3 → ⊥) → P (Optional number)) → P (by_label label shape number)
carried_cases P label shape number required repeated map optional =
    by
    (eqb label 2)
    (λ e. rw e (required (eqb-true label 2 e)))
    (λ e. by
    (eqb label 3)
    (λ f. by (eqb shape 2) (λ s. rw (e, f, s) (map (eqb-true label 3 f))) (λ s. rw (e, f, s) (repeated (eqb-true label 3 f))))
    (λ f. rw (e, f) (optional (eqb-false label 2 e) (eqb-false label 3 f))))

pub label_told : (label shape number : ℕ) → 1 ≤ label → label ≤ 3 → label_of (by_label label shape number) ≡ label
label_told label shape number low high =
    carried_cases (λ c. label_of c ≡ label) label shape number (λ e. sym e) (λ e. sym e) (λ e. sym e) (λ e f. omega (arith, e, f))

pub number_told : (label shape number : ℕ) → number_of (by_label label shape number) ≡ number
number_told label shape number = carried_cases (λ c. number_of c ≡ number) label shape number (λ e. refl) (λ e. refl) (λ e. refl) (λ e f. refl)

-- a repeated field is a map exactly if its shape word is 2
pub map_told : (shape number : ℕ) → (by_label 3 shape number ≡ Map number) ↔ (shape ≡ 2)
map_told shape number = (
  (λ t. by (eqb shape 2) (eqb-true shape 2) (λ s. let p : Repeated number ≡ Map number = rw s at t in cc)),
  (λ t. rw (eq-eqb shape 2 t)),
)

-- a field is required exactly if its label is 2, whatever its shape
field-required : (label shape number : ℕ) → is_required (by_label label shape number) ≡ eqb label 2
field-required label shape number =
    carried_cases (λ c. is_required c ≡ eqb label 2) label shape number
    (λ e. sym (eq-eqb label 2 e))
    (λ e. rw e)
    (λ e. rw e)
    (λ e f. sym (ne_eqb label 2 e))

module _ (file : File) (m : ℕ) (name : List ℕ) where
  found_required : (at : Option ℕ) → IsSomeAnd (carried_at file m at) (λ c. is_required c ≡ true) ↔ ((j : ℕ) × (at ≡ Some j) × ((field_in file m j).label ≡ 2))
  found_required None = ((λ t. absurd t), (λ t. none_not t.0 t.1))
  found_required (Some j) = (
    (λ t. (j, refl, eqb-true (field_in file m j).label 2 (sym (field-required (field_in file m j).label _ _) ∙ t))),
    (λ t. let is : j ≡ t.0 = let p = t.1 in cc in field-required (field_in file m j).label _ _ ∙ eq-eqb (field_in file m j).label 2 (rw is t.2)),
  )

  -- What a message carries under a name is required exactly if the first regular field of that name has label 2.
  pub required_told : m < (says file).messages
      → IsSomeAnd (carried_under file m name) (λ c. is_required c ≡ true)
      ↔ ((j : ℕ) × (field_by_name (says file) (message_row file.links m) name ≡ Some j) × ((field_in file m j).label ≡ 2))
  unfolding carried_under
  required_told h = rw (lt-ltb m (says file).messages h) (found_required (field_by_name (says file) (message_row file.links m) name))

-- ---- a field that the completeness check cannot pass without is a cause of its message's own

-- a field that is found is one of the message's
found_below_lem : (g : Schema) (r : ℕ) (name : List ℕ) (j : ℕ) → field_by_name g r name ≡ Some j → j < (g.fields_in r).count
unfolding field_by_name
found_below_lem g r name j t = (found_told (g.fields_in r).count (first_below (g.fields_in r).count (λ i. same (regular g r i).name name) (g.fields_in r).count) j t).1

required_is-cause : (g : Schema) (r j : ℕ) → j < (g.fields_in r).count → eqb (regular g r j).label 2 ≡ true → eqb g.syntax 3 ≡ false → own_cause g r ≡ true
unfolding own_cause
required_is-cause g r j h t x = rw (x, any_below_hit (g.fields_in r).count (λ k. eqb (regular g r k).label 2) j h t, or-true (not (eqb (g.extension_ranges r) 0)))

needed_required : (g : Schema) (c : Carried) → passes_without g (Some c) ≡ false → (is_required c ≡ true) × (eqb g.syntax 3 ≡ false)
needed_required g (Required n) p = (refl, p)
needed_required g (Optional n) p = clash true refl p
needed_required g (Repeated n) p = clash true refl p
needed_required g (Map n) p = clash true refl p

module _ (file : File) (m : ℕ) (name : List ℕ) where
  place_needed : (place : Option ℕ) → field_by_name (says file) (message_row file.links m) name ≡ place → is_some (carried_at file m place) ≡ true
      → passes_without (says file) (carried_at file m place) ≡ false → own_cause (says file) (message_row file.links m) ≡ true
  place_needed None e t p = clash false t refl
  place_needed (Some j) e t p =
      let r = message_row file.links m in
      let n = needed_required (says file) _ p in
      required_is-cause (says file) r j (found_below_lem (says file) r name j e) (sym (field-required (field_in file m j).label _ _) ∙ n.0) n.1

  pub needed_is_cause : is_some (carried_under file m name) ≡ true → passes_without (says file) (carried_under file m name) ≡ false
      → own_cause (says file) (message_row file.links m) ≡ true
  unfolding carried_under
  needed_is_cause t p =
      by
      (ltb m (says file).messages)
      (λ e. place_needed (field_by_name (says file) (message_row file.links m) name) refl (rw e at t) (rw e at p))
      (λ e. clash false (rw e at t) refl)
