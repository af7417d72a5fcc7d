-- The link row of a field that draws no refusal meets the tests of rule 2, among the shelved files and the file that is linked with whatever
-- link rows, as long as they have the image rows of its enums. Assumes nothing.
use mathlib.Core.Path.{◌≡◌, refl, sym, ap, ◌∙◌}
use mathlib.Core.Logic.{◌⊎◌, inl, inr}
use mathlib.Core.Bool.{Bool, true, false, cond, ◌&&◌}
use mathlib.Core.List.{List, [], ◌∷◌, ◌++◌}
use Prim.Native.Nat.{ℕ, zero, suc, ◌+◌, ◌<◌, ◌≤◌}
use native.Mathlib.Omega.{arith}
use lib.Dec.{eqb, ltb, leb}
use lib.ListN.{length, get_or}
use borrow.Author.Tests.{eq-eqb, ltb-true, lt-ltb, le-leb}
use Rattle.std.specs.Prelude.{Option, Some, None, is_none, unwrap_or, Ok, Err}
use Rattle.lists.specs.Below.{found_below}
use Rattle.lists.proofs.Cases.{by, either, clash, all_of_lem, and-true}
use Rattle.names.specs.Default.{DefaultRead}
use Rattle.names.specs.declared.runtime_type_box.ReadDefault.TheVariants.{Integer, Text, ValueName}
use Rattle.image.specs.Schema.{FieldSays}
use Rattle.image.specs.Links.{enum_row}
use Rattle.image.specs.Record.{File, no_file, says, FieldLink, field_link_of, value_count}
use Rattle.image.specs.LinkTests.{file_by, enum_exists, target_fits, extendee_fits, value_fits, enum_default_fits, default_fits, field_link_tests, field_link_fits}
use Rattle.image.specs.Verdict.{first}
use Rattle.link.specs.Sight.{Sight, in_sight, own_says}
use Rattle.link.specs.Field.{first_value, value_in, has_extendee, extendee_target, extendee_lines, extendee_part, element_lines, field_target, is_repeated, is_map, map_key, map_value, map_lines, map_part, type_lines, type_part, is_given, default_read, default_record, named_default, default_lines, default_part, field_lines, field_words}
use Rattle.link.specs.Lookup.{count_of}
use Rattle.link.specs.Resolve.{target_file, target_index, is_message_type, target, type_target}
use Rattle.link.specs.declared.building.Wanted.{Wanted}
use Rattle.link.specs.declared.building.Wanted.TheVariants.{Message, Enum}
use Rattle.link.specs.declared.building.Target.{Target}
use Rattle.link.proofs.TableLaws.{none_given}
use Rattle.link.proofs.PhaseLaws.{both_passed}
use Rattle.link.proofs.FileIndexLaws.{field_words_of}
use Rattle.demands.proofs.DefaultFacts.{text_inside, name_of_enum}
use Rattle.demands.proofs.TargetFacts.{Existing, Fitting, target_existing, type_fitting}

-- ---- files in sight

-- one file or another stands behind the same files: a number stands for the same file, or for the one and the other
last_or : (files : List File) (a b : File) (f : ℕ) →
    (get_or (files ++ (a ∷ [])) f no_file ≡ get_or (files ++ (b ∷ [])) f no_file)
    ⊎ ((get_or (files ++ (a ∷ [])) f no_file ≡ a) × (get_or (files ++ (b ∷ [])) f no_file ≡ b))
last_or [] a b zero = inr (refl, refl)
last_or [] a b (suc f) = inl refl
last_or (x ∷ files) a b zero = inl refl
last_or (x ∷ files) a b (suc f) = last_or files a b f

word_or : (files : List File) (a b : File) (word : ℕ) →
    (file_by (files ++ (a ∷ [])) word ≡ file_by (files ++ (b ∷ [])) word)
    ⊎ ((file_by (files ++ (a ∷ [])) word ≡ a) × (file_by (files ++ (b ∷ [])) word ≡ b))
unfolding file_by
word_or files a b zero = inl refl
word_or files a b (suc f) = last_or files a b f

-- the file that is linked, with other link rows, behind the shelved files
abbrev pub with_links : Sight → List ℕ → File
with_links s links = record { image = s.own.image; pool = s.own.pool; links = links }

abbrev pub shelf_with : Sight → List ℕ → List File
shelf_with s links = s.files ++ (with_links s links ∷ [])

-- they have the image rows of its enums
abbrev pub EnumsKept : Sight → List ℕ → Type 0
EnumsKept s links = (e : ℕ) → e < (own_says s).enums → enum_row (own_says s) links e ≡ enum_row (own_says s) s.own.links e

module _ (s : Sight) (links : List ℕ) where
  -- what a file says does not rest on its link rows
  says_kept : (word : ℕ) → says (file_by (in_sight s) word) ≡ says (file_by (shelf_with s links) word)
  says_kept word =
      either (word_or s.files s.own (with_links s links) word)
      (λ e. ap says e)
      (λ e. ap says e.0 ∙ sym (ap says e.1))

  target_kept : («type» word index : ℕ) → target_fits (in_sight s) «type» word index ≡ target_fits (shelf_with s links) «type» word index
  unfolding target_fits
  target_kept «type» word index = rw (says_kept word)

  -- how many values an enum has rests on its image row
  values_kept : EnumsKept s links → (word e : ℕ) → enum_exists (in_sight s) word e ≡ true
      → value_count (file_by (in_sight s) word) e ≡ value_count (file_by (shelf_with s links) word) e
  values_kept kept word e h =
      either (word_or s.files s.own (with_links s links) word)
      (λ q. ap (λ (x : File). value_count x e) q)
      (λ q. let l : e < (own_says s).enums = ltb-true e (own_says s).enums (rw q.0 at h) in
      ap (λ (x : File). value_count x e) q.0
      ∙ ap (λ (r : ℕ). ((own_says s).values_in r).count) (sym (kept e l))
      ∙ sym (ap (λ (x : File). value_count x e) q.1))

-- ---- targets

-- one that is not missing exists
not_missing : (wanted : Wanted) (files : List File) (t : Option Target) → is_none t ≡ false → Existing wanted files t
    → ltb (target_index t) (count_of wanted (says (file_by files (target_file t)))) ≡ true
not_missing wanted files (Some t) h e = e
not_missing wanted files None h e = clash true refl h

-- that of a type fits it, unless the type needs one and it is missing
fits_unless : (files : List File) («type» : ℕ) (t : Option Target) → (is_message_type «type» && is_none t) ≡ false → (eqb «type» 14 && is_none t) ≡ false
    → Fitting files «type» t → target_fits files «type» (target_file t) (target_index t) ≡ true
unfolding target_fits
fits_unless files «type» (Some t) m e h = h
fits_unless files «type» None m e h = rw (rw (and-true (is_message_type «type»)) at m, rw (and-true (eqb «type» 14)) at e)

-- the place of a value that was found is one of the enum's
found_place : (n k : ℕ) → is_none (found_below n k) ≡ false → unwrap_or (found_below n k) 0 < n
found_place n k h = by (ltb k n) (λ t. rw t (ltb-true k n t)) (λ t. clash true refl (rw t at h))

place_below : (file : File) (e : ℕ) (text : List ℕ) → is_none (value_in file e text) ≡ false → unwrap_or (value_in file e text) 0 < value_count file e
unfolding first_value
place_below file e text h = found_place (value_count file e) _ h

module _ (s : Sight) (list links : List ℕ) where
  element_fits : (f : FieldSays) (at : ℕ) → first (element_lines s list f at) ≡ Ok tt
      → target_fits (shelf_with s links) f.«type» (target_file (field_target s list f)) (target_index (field_target s list f)) ≡ true
  unfolding element_lines
  element_fits f at h =
      let t = field_target s list f in
      let given = none_given (element_lines s list f at) h in
      sym (target_kept s links f.«type» (target_file t) (target_index t))
      ∙ fits_unless (in_sight s) f.«type» t given.0 given.1.0 (type_fitting s list f.«type» f.type_name)

  -- ---- the link row of a field, word by word

  module _ (f : FieldSays) where
    abbrev extendee_word : ℕ → ℕ
    extendee_word k = get_or (extendee_part s list f) k 0

    abbrev type_word : ℕ → ℕ
    type_word k = get_or (type_part s list f) k 0

    abbrev default_word : ℕ → ℕ
    default_word k = get_or (default_part s list f) k 0

    abbrev written : ℕ → ℕ → FieldLink
    written row container =
        record {
          row = row;
          kind = cond (has_extendee f) 1 0;
          container = container;
          extendee_file = extendee_word 0;
          extendee_index = extendee_word 1;
          shape = type_word 0;
          «type» = type_word 1;
          type_file = type_word 2;
          type_index = type_word 3;
          value_type = type_word 4;
          value_file = type_word 5;
          value_index = type_word 6;
          default_kind = default_word 0;
          low = default_word 1;
          high = default_word 2;
        }

    written_is : (row container : ℕ) → written row container ≡ field_link_of (field_words s list f row container)
    written_is row container =
        ap field_link_of (field_words_of s list f row container (default_part s list f) (extendee_part s list f) (type_part s list f) refl refl refl refl)

    module _ (row container : ℕ) where
      kind-listed : leb (cond (has_extendee f) 1 0) 1 ≡ true
      kind-listed = by (has_extendee f) (λ t. rw t) (λ t. rw t)

      extendee_fits_lem : (ofFile : Bool) (at : ℕ) → first (extendee_lines s list f ofFile at) ≡ Ok tt → extendee_fits (shelf_with s links) (written row container) ≡ true
      unfolding extendee_fits extendee_part extendee_lines
      extendee_fits_lem ofFile at h =
          let given = none_given (extendee_lines s list f ofFile at) h in
          let t = extendee_target s list f in
          by (has_extendee f)
          (λ e. rw (e, ← says_kept s links (target_file t)) (not_missing Message (in_sight s) t (rw e at given.1.0) (target_existing s list f.extendee Message)))
          (λ e. rw e)

      -- ---- shape and types

      module _ (at : ℕ) (h : first (type_lines s list f at) ≡ Ok tt) where
        own_passed : first (element_lines s list f at) ≡ Ok tt
        unfolding type_lines
        own_passed = (both_passed (element_lines s list f at) (cond (is_map s list f) (map_lines s list (map_key s list f) (map_value s list f) at) []) h).0

        map_passed : is_map s list f ≡ true → (first (element_lines s list (map_key s list f) at) ≡ Ok tt) × (first (element_lines s list (map_value s list f) at) ≡ Ok tt)
        unfolding type_lines map_lines
        map_passed m =
            let behind = (both_passed (element_lines s list f at) (cond (is_map s list f) (map_lines s list (map_key s list f) (map_value s list f) at) []) h).1 in
            both_passed (element_lines s list (map_key s list f) at) (element_lines s list (map_value s list f) at) (rw m at behind)

        shape-listed : leb (type_word 0) 2 ≡ true
        unfolding type_part map_part
        shape-listed = by (is_map s list f) (λ m. rw m) (λ m. by (is_repeated f) (λ r. rw (m, r)) (λ r. rw (m, r)))

        type_fits : target_fits (shelf_with s links) (type_word 1) (type_word 2) (type_word 3) ≡ true
        unfolding type_part map_part
        type_fits = by (is_map s list f) (λ m. rw m (element_fits (map_key s list f) at (map_passed m).0)) (λ m. rw m (element_fits f at own_passed))

        value_fits_lem : value_fits (shelf_with s links) (written row container) ≡ true
        unfolding value_fits type_part map_part
        value_fits_lem =
            by (is_map s list f)
            (λ m. rw m (element_fits (map_value s list f) at (map_passed m).1))
            (λ m. by (is_repeated f) (λ r. rw (m, r)) (λ r. rw (m, r)))

      -- ---- default

      module _ (at : ℕ) (h : first (default_lines s list f at) ≡ Ok tt)
          (kept : EnumsKept s links)
        where
          abbrev named : Option Target
          named = target Enum s list f.type_name

          name_typed : f.«type» ≡ 14 → type_part s list f ≡ cond (is_repeated f) 1 0 ∷ 14 ∷ target_file named ∷ target_index named ∷ 0 ∷ 0 ∷ 0 ∷ []
          unfolding type_part is_map type_target
          name_typed e = by (is_repeated f) (λ r. rw (r, e)) (λ r. rw (r, e))

          default_is : {d : DefaultRead} → is_given f ≡ true → default_read f ≡ d → default_part s list f ≡ default_record (named_default s list f) d
          unfolding default_part
          default_is g e = rw (g, e)

          -- the value that a default names is one of the enum
          name_fits : is_given f ≡ true → default_read f ≡ Ok ValueName → enum_default_fits (shelf_with s links) (written row container) ≡ true
          unfolding enum_default_fits default_lines
          name_fits g e =
              let given = none_given (default_lines s list f at) h in
              let found : is_none named ≡ false = rw (g, e) at given.1.1.0 in
              let some : is_none (named_default s list f) ≡ false = rw (g, e) at given.1.1.1.0 in
              let there = not_missing Enum (in_sight s) named found (target_existing s list f.type_name Enum) in
              rw (default_is g e, name_typed (name_of_enum f e), ← values_kept s links kept (target_file named) (target_index named) there)
              (lt-ltb _ _ (place_below (file_by (in_sight s) (target_file named)) (target_index named) f.default some))

          read_fits : (pool : ℕ) → f.default_start + length f.default ≤ pool → is_given f ≡ true → (d : DefaultRead) → default_read f ≡ d
              → default_fits (shelf_with s links) pool (written row container) ≡ true
          unfolding default_fits
          read_fits pool inside g (Ok (Integer w)) e = rw (default_is g e)
          read_fits pool inside g (Ok (Text w)) e = rw (default_is g e) (le-leb (w.low + w.high) pool (omega (arith, text_inside f w e)))
          read_fits pool inside g (Ok ValueName) e = let kind : default_word 0 ≡ 4 = ap (λ (l : List ℕ). get_or l 0 0) (default_is g e) in rw kind (name_fits g e)
          read_fits pool inside g (Err r) e = rw (default_is g e)

          default_fits_lem : (pool : ℕ) → f.default_start + length f.default ≤ pool → default_fits (shelf_with s links) pool (written row container) ≡ true
          unfolding default_fits default_part
          default_fits_lem pool inside = by (is_given f) (λ g. read_fits pool inside g (default_read f) refl) (λ g. rw g)

      -- ---- all tests

      pub field_fits_lem : (pool : ℕ) (ofFile : Bool) (at : ℕ) → first (field_lines s list f ofFile at) ≡ Ok tt → f.default_start + length f.default ≤ pool
          → EnumsKept s links → field_link_fits (shelf_with s links) pool row container (field_link_of (field_words s list f row container)) ≡ true
      unfolding field_link_fits field_lines
      field_fits_lem pool ofFile at h inside kept =
          let d = both_passed (default_lines s list f at) (extendee_lines s list f ofFile at ++ type_lines s list f at) h in
          let t = both_passed (extendee_lines s list f ofFile at) (type_lines s list f at) d.1 in
          ap (field_link_fits (shelf_with s links) pool row container) (sym (written_is row container))
          ∙ all_of_lem (field_link_tests (shelf_with s links) pool row container (written row container))
          (eq-eqb row row refl, (eq-eqb container container refl, (kind-listed, (shape-listed at t.1, (extendee_fits_lem ofFile at t.0, (type_fits at t.1, (value_fits_lem at t.1, (default_fits_lem at d.0 kept pool inside, tt))))))))
