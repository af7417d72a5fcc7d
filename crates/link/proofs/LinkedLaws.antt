-- The extendee and the type of a field, case by case as the code goes. Assumes nothing.
use mathlib.Core.Path.{◌≡◌, refl, sym, ap, ◌∙◌, subst}
use mathlib.Core.List.{List, [], ◌∷◌}
use mathlib.Core.Bool.{Bool, true, false, cond, ◌&&◌}
use Prim.Native.Nat.{ℕ}
use lib.Dec.{eqb}
use borrow.Author.Tests.{eqb-true}
use Rattle.std.specs.Prelude.{Option, Some, None, is_none, Result, Ok, Err}
use Rattle.lists.specs.Lists.{is_empty}
use Rattle.lists.proofs.Cases.{by, clash}
use Rattle.image.specs.Schema.{FieldSays}
use Rattle.image.specs.LinkTests.{file_by}
use Rattle.image.specs.Verdict.{Line, first, judged}
use Rattle.image.specs.declared.shelf.Places.{Places}
use Rattle.image.specs.declared.verdict.Refused.{Refused}
use Rattle.image.specs.declared.verdict.Refusal.TheVariants.{ExtendeeAbsent, MessageMissing}
use Rattle.link.specs.Sight.{Sight, in_sight, sight_of, InReach}
use Rattle.link.specs.Search.{Below}
use Rattle.link.specs.Resolve.{target, type_target, target_file, nowhere, is_message_type}
use Rattle.link.specs.Field.{extendee_lines, extendee_part, element_lines, element_target, field_in, entry_in, field_target, missing_refusal, map_lines, map_part, is_map, map_key, map_value, type_lines, type_part}
use Rattle.link.specs.declared.building.Wanted.TheVariants.{Message}
use Rattle.link.specs.declared.building.Target.{Target}
use Rattle.link.proofs.TargetLaws.{type_reach}
use Rattle.link.proofs.JudgedLaws.{not_passed, judged_passed, judged_stopped, step_stops, step_passes, step_value}

-- ---- extendee

module _ (s : Sight) (list : List ℕ) (f : FieldSays) (ofFile : Bool) (at : ℕ) where
  pub extendee_absent : is_empty f.extendee ≡ true → ofFile ≡ true
      → Err (record { refusal = ExtendeeAbsent; place = at }) ≡ judged (first (extendee_lines s list f ofFile at)) (extendee_part s list f)
  unfolding extendee_lines first
  extendee_absent n o = rw (n, o)

  pub extendee_none : is_empty f.extendee ≡ true → ofFile ≡ false → Ok (0 ∷ 0 ∷ []) ≡ judged (first (extendee_lines s list f ofFile at)) (extendee_part s list f)
  unfolding extendee_lines extendee_part first
  extendee_none n o = rw (n, o)

  module _ (n : is_empty f.extendee ≡ false) {t : Option Target} (h : t ≡ target Message s list f.extendee) where
    pub extendee_found : (a : Target) → t ≡ Some a → Ok (a.file ∷ a.index ∷ []) ≡ judged (first (extendee_lines s list f ofFile at)) (extendee_part s list f)
    unfolding extendee_lines extendee_part first
    extendee_found a q = let e : target Message s list f.extendee ≡ Some a = sym h ∙ q in by ofFile (λ o. rw (n, o, e)) (λ o. rw (n, o, e))

    pub extendee_missing : t ≡ None → Err (record { refusal = MessageMissing; place = at }) ≡ judged (first (extendee_lines s list f ofFile at)) (extendee_part s list f)
    unfolding extendee_lines first
    extendee_missing q = let e : target Message s list f.extendee ≡ None = sym h ∙ q in by ofFile (λ o. rw (n, o, e)) (λ o. rw (n, o, e))

-- ---- the type of a field, or of a map's key or value

module _ (s : Sight) (list : List ℕ) (f : FieldSays) (at : ℕ) where
  -- types 10 and 11 are not 14
  no_enum : is_message_type f.«type» ≡ true → eqb f.«type» 14 ≡ false
  no_enum i = by (eqb f.«type» 14) (λ j. clash false (rw (eqb-true f.«type» 14 j) at i) refl) (λ j. j)

  -- other types lead nowhere, which is file word and index 0
  has_target : is_message_type f.«type» ≡ false → eqb f.«type» 14 ≡ false → type_target s list f.«type» f.type_name ≡ Some nowhere
  unfolding type_target
  has_target i j = rw (i, j)

  module _ {t : Option Target} (h : t ≡ type_target s list f.«type» f.type_name) where
    pub element_found : (a : Target) → t ≡ Some a → Ok a ≡ judged (first (element_lines s list f at)) (element_target s list f)
    unfolding element_lines first
    element_found a q =
        let e : type_target s list f.«type» f.type_name ≡ Some a = sym h ∙ q in
        by (is_message_type f.«type») (λ i. by (eqb f.«type» 14) (λ j. rw (e, i, j)) (λ j. rw (e, i, j))) (λ i. by (eqb f.«type» 14) (λ j. rw (e, i, j)) (λ j. rw (e, i, j)))

    pub element_missing : t ≡ None → Err (record { refusal = missing_refusal f.«type»; place = at }) ≡ judged (first (element_lines s list f at)) (element_target s list f)
    unfolding element_lines first
    element_missing q =
        let e : type_target s list f.«type» f.type_name ≡ None = sym h ∙ q in
        by (is_message_type f.«type»)
        (λ i. rw (i, e, no_enum i))
        (λ i. by (eqb f.«type» 14) (λ j. rw (i, j, e)) (λ j. clash false (ap is_none (sym (has_target i j) ∙ e)) refl))

  pub element_by : (t : Option Target) {r : Result Target Refused} → t ≡ type_target s list f.«type» f.type_name → ((a : Target) → t ≡ Some a → r ≡ Ok a)
      → (t ≡ None → r ≡ Err (record { refusal = missing_refusal f.«type»; place = at })) → r ≡ judged (first (element_lines s list f at)) (element_target s list f)
  element_by (Some a) h some none = some a refl ∙ element_found h a refl
  element_by None h some none = none refl ∙ element_missing h refl

  -- where it is no refusal, a message type has a target
  pub element_passed : first (element_lines s list f at) ≡ Ok tt → is_message_type f.«type» ≡ true → is_none (type_target s list f.«type» f.type_name) ≡ false
  unfolding element_lines first
  element_passed e i = by (is_none (type_target s list f.«type» f.type_name)) (λ t. not_passed _ (rw (i, t) at e)) (λ t. t)

-- ---- both types of a map

module _ (s : Sight) (list : List ℕ) (key value : FieldSays) (at : ℕ) {k : Result Target Refused} (a : k ≡ judged (first (element_lines s list key at)) (element_target s list key)) where
  pub map_key_stops : {r : Refused} → k ≡ Err r → Err r ≡ judged (first (map_lines s list key value at)) (map_part s list key value)
  unfolding map_lines
  map_key_stops e = step_stops (element_lines s list key at) (element_lines s list value at) (element_target s list key) a (map_part s list key value) e

  module _ {x : Target} (e : k ≡ Ok x) {v : Result Target Refused} (b : v ≡ judged (first (element_lines s list value at)) (element_target s list value)) where
    value_decides : first (map_lines s list key value at) ≡ first (element_lines s list value at)
    unfolding map_lines
    value_decides = step_passes (element_lines s list key at) (element_lines s list value at) (element_target s list key) a e

    pub map_value_stops : {r : Refused} → v ≡ Err r → Err r ≡ judged (first (map_lines s list key value at)) (map_part s list key value)
    map_value_stops q = rw (value_decides, judged_stopped (first (element_lines s list value at)) (element_target s list value) (sym b ∙ q))

    pub map_passes : {y : Target} {t u : ℕ} → v ≡ Ok y → t ≡ key.«type» → u ≡ value.«type»
        → Ok (2 ∷ t ∷ x.file ∷ x.index ∷ u ∷ y.file ∷ y.index ∷ []) ≡ judged (first (map_lines s list key value at)) (map_part s list key value)
    unfolding map_part
    map_passes q i j =
        let m = step_value (element_lines s list key at) [] (element_target s list key) a e in
        let n = step_value (element_lines s list value at) [] (element_target s list value) b q in
        rw (value_decides, judged_passed (first (element_lines s list value at)) (element_target s list value) (sym b ∙ q), i, j, m, n)

-- ---- the type of a field

module _ (s : Sight) (list : List ℕ) (f : FieldSays) (at : ℕ) {own : Result Target Refused} (a : own ≡ judged (first (element_lines s list f at)) (element_target s list f)) where
  pub type_stops : {r : Refused} → own ≡ Err r → Err r ≡ judged (first (type_lines s list f at)) (type_part s list f)
  unfolding type_lines
  type_stops e = step_stops (element_lines s list f at) (cond (is_map s list f) (map_lines s list (map_key s list f) (map_value s list f) at) []) (element_target s list f) a (type_part s list f) e

  module _ {x : Target} (e : own ≡ Ok x) {t : ℕ} (k : t ≡ f.«type») where
    target_is : x ≡ element_target s list f
    target_is = step_value (element_lines s list f at) [] (element_target s list f) a e

    type_rest : first (type_lines s list f at) ≡ first (cond (is_map s list f) (map_lines s list (map_key s list f) (map_value s list f) at) [])
    unfolding type_lines
    type_rest = step_passes (element_lines s list f at) (cond (is_map s list f) (map_lines s list (map_key s list f) (map_value s list f) at) []) (element_target s list f) a e

    pub type_singular : eqb f.label 3 ≡ false → Ok (0 ∷ t ∷ x.file ∷ x.index ∷ 0 ∷ 0 ∷ 0 ∷ []) ≡ judged (first (type_lines s list f at)) (type_part s list f)
    unfolding type_part is_map first
    type_singular l = rw (type_rest, l, k, target_is)

    -- a repeated field, whose message may be a map entry
    abbrev mapped : Bool
    mapped = is_message_type t && entry_in (file_by (in_sight s) x.file) x.index

    abbrev mapped_lines : List Line
    mapped_lines = map_lines s list (field_in (file_by (in_sight s) x.file) x.index 0) (field_in (file_by (in_sight s) x.file) x.index 1) at

    abbrev mapped_part : List ℕ
    mapped_part = map_part s list (field_in (file_by (in_sight s) x.file) x.index 0) (field_in (file_by (in_sight s) x.file) x.index 1)

    pub type_repeated : eqb f.label 3 ≡ true
        → judged (first (cond mapped mapped_lines [])) (cond mapped mapped_part (1 ∷ t ∷ x.file ∷ x.index ∷ 0 ∷ 0 ∷ 0 ∷ [])) ≡ judged (first (type_lines s list f at)) (type_part s list f)
    unfolding type_part is_map
    type_repeated l = rw (type_rest, l, k, target_is)

-- ---- the target of a message type lies in a file in reach

module _ (words bytes : List ℕ) (p : Places) (n : ℕ) (image pool links list : List ℕ) (b : Below n list) (f : FieldSays) where
  abbrev in_view : Sight
  in_view = sight_of words bytes p n image pool links

  target_in-reach : is_message_type f.«type» ≡ true → (t : Option Target) → field_target in_view list f ≡ t → is_none t ≡ false → InReach n (target_file t)
  target_in-reach i (Some a) e h = type_reach words bytes p n image pool links list f.type_name b f.«type» i e
  target_in-reach i None e h = clash true refl h

  pub own_in-reach : (at : ℕ) {own : Result Target Refused} {x : Target} {t : ℕ} → own ≡ judged (first (element_lines in_view list f at)) (element_target in_view list f)
      → own ≡ Ok x → t ≡ f.«type» → is_message_type t ≡ true → InReach n x.file
  own_in-reach at {own} {x} a e k i =
      let j : is_message_type f.«type» ≡ true = rw k at i in
      let m = step_value (element_lines in_view list f at) [] (element_target in_view list f) a e in
      let passed = judged_passed (first (element_lines in_view list f at)) (element_target in_view list f) (sym a ∙ e) in
      subst (λ (z : Target). InReach n z.file) (sym m) (target_in-reach j (field_target in_view list f) refl (element_passed in_view list f at passed j))
