-- The fields of a file: rows of sixteen words written one behind the other, and refusals in their order. Assumes nothing.
use mathlib.Core.Path.{◌≡◌, refl, sym, ap, ◌∙◌}
use mathlib.Core.List.{List, [], ◌∷◌, ◌++◌}
use mathlib.Core.Bool.{Bool, true, false, cond}
use denote.Ref.{Bor}
use Prim.Native.Nat.{ℕ, ◌+◌, ◌*◌, ◌<◌, ◌≤◌}
use native.Mathlib.Nat.{zero-add, zero-mul, suc-mul}
use native.Mathlib.Omega.{arith}
use lib.Dec.{ltb}
use lib.ListN.{length, get_or, length-append, get_or-append}
use borrow.Author.Tests.{ltb-true}
use Rattle.std.specs.Prelude.{Option, Some, None, Result, Ok, Err}
use Rattle.lists.specs.Below.{first_below}
use Rattle.lists.specs.Lists.{span, concat_map}
use Rattle.lists.specs.Splice.{splice}
use Rattle.lists.proofs.Cases.{by}
use Rattle.lists.proofs.SpanLaws.{concat-append}
use Rattle.lists.proofs.SpliceLaws.{listed_all, splice_nil, splice-splice}
use Rattle.lists.proofs.TableLaws.{get_or_table}
use Rattle.names.specs.Default.{DefaultRead}
use Rattle.names.specs.declared.runtime_type_box.ReadDefault.TheVariants.{Integer, Text, ValueName}
use Rattle.image.specs.Words.{sections_of, fields_of, extensions_of, file_extensions}
use Rattle.image.specs.Schema.{Schema, FieldSays, schema, schema_in, schema_of, field_of, field_row}
use Rattle.image.specs.Flat.{rows_of, row_of, field_rows, first_field}
use Rattle.image.specs.Laid.{Sound}
use Rattle.image.specs.Links.{message_link, message_links, enum_links, oneof_links, links_of}
use Rattle.image.specs.Clash.{clashes_earlier, first_clash}
use Rattle.image.specs.Record.{says, link_row, message_link_at}
use Rattle.image.specs.Verdict.{Verdict, Line, first, judged, in_order}
use Rattle.image.specs.declared.rows.Range.{Range}
use Rattle.image.specs.declared.schema.Image.{Image}
use Rattle.image.specs.declared.rows.Sections.{Sections}
use Rattle.image.specs.declared.verdict.Refusal.TheVariants.{FieldClash}
use Rattle.image.specs.declared.verdict.Refused.{Refused}
use Rattle.image.proofs.Numbers.{row_in}
use Rattle.image.proofs.Owned.{fields_length, fields_end_lem, fields_next}
use Rattle.image.proofs.LinkLaws.{run, run_none, run_word, run_length, run_put, message_links-length, Parts, Writing, parts_length, writing_start, writing_next, writing_end}
use Rattle.image.proofs.FieldListLaws.{fields_start, fields_within}
use Rattle.image.proofs.VerdictLaws.{order_start, order_more, order_stop}
use Rattle.link.specs.Sight.{Sight}
use Rattle.link.specs.Field.{is_map, map_part, is_given, default_record, named_default, default_read, has_extendee, extendee_part, type_part, default_part, default_lines, extendee_lines, type_lines, field_lines, field_words}
use Rattle.link.specs.Rows.{field_links_in, field_links}
use Rattle.link.specs.Refusals.{fields_lines, clash_at, message_lines, all_field_lines}
use Rattle.link.proofs.JudgedLaws.{first_stops, first_passes, judged_stopped, judged_passed, judged_value, step_stops, step_passes}

-- ---- 17

module _ (g : Schema) (r at : ℕ) where
  pub clash_hit : (j : ℕ) → Some j ≡ first_clash g r → Err (record { refusal = FieldClash; place = at + j }) ≡ first (clash_at g r at)
  unfolding clash_at first
  clash_hit j e = rw (← e)

  pub clash_none : None ≡ first_clash g r → Ok tt ≡ first (clash_at g r at)
  unfolding clash_at first
  clash_none e = rw (← e)

at_place : (j k : ℕ) → ◌≡◌ {A = Option ℕ} (Some j) (Some k) → j ≡ k
at_place j k e = cc

at_none : {C : Type 0} (j : ℕ) → ◌≡◌ {A = Option ℕ} (Some j) None → C
at_none j e = cc

found_below_lem : (n k j : ℕ) → Some j ≡ cond (ltb k n) (Some k) None → j < n
found_below_lem n k j e =
    by (ltb k n)
    (λ t. let q = at_place j k (rw t at e) in omega (arith, ltb-true k n t))
    (λ t. at_none j (rw t at e))

pub clash_below : (g : Schema) (r j : ℕ) → Some j ≡ first_clash g r → j < (g.fields_in r).count
unfolding first_clash
clash_below g r j e = found_below_lem (g.fields_in r).count (first_below (g.fields_in r).count (clashes_earlier g r) (g.fields_in r).count) j e

-- ---- what an image says that was read, and what a row says, by its words

pub read_says : {x : Image} (words pool : Bor (List ℕ)) → x ≡ record { rows = record { words = words; sections = sections_of words.now }; pool = pool }
    → schema x ≡ schema_of words.now pool.now
unfolding schema_of
read_says words pool e = rw e

pub field_said : (image pool : List ℕ) {s : Sections} {words : List ℕ} (r : ℕ) → s ≡ sections_of image → words ≡ field_row image s r
    → field_of words pool ≡ (schema_of image pool).field r
unfolding schema_of schema_in
field_said image pool r q e = rw (e, q)

module _ (image pool : List ℕ) {s : Sections} (q : s ≡ sections_of image) where
  pub regular_said : {x : Range} {row r : ℕ} → row ≡ r → x ≡ fields_of image s row → x ≡ (schema_of image pool).fields_in r
  unfolding schema_of schema_in
  regular_said e h = h ∙ rw (q, e)

  pub extensions_said : {x : Range} {row r : ℕ} → row ≡ r → x ≡ extensions_of image s row → x ≡ (schema_of image pool).extensions_in r
  unfolding schema_of schema_in
  extensions_said e h = h ∙ rw (q, e)

  pub messages_said : {n : ℕ} → n ≡ s.messages.count → n ≡ (schema_of image pool).messages
  unfolding schema_of schema_in
  messages_said h = h ∙ ap (λ (x : Sections). x.messages.count) q

  pub fields_said : {n : ℕ} → n ≡ s.fields.count → n ≡ (schema_of image pool).fields
  unfolding schema_of schema_in
  fields_said h = h ∙ ap (λ (x : Sections). x.fields.count) q

pub file_said : (image pool : List ℕ) {x : Range} → x ≡ file_extensions image → x ≡ (schema_of image pool).file_extensions
unfolding schema_of schema_in
file_said image pool h = h

-- ---- link rows of fields have sixteen words

default_three : (value : Option ℕ) (d : DefaultRead) → length (default_record value d) ≡ 3
default_three value (Ok (Integer w)) = refl
default_three value (Ok (Text w)) = refl
default_three value (Ok ValueName) = refl
default_three value (Err r) = refl

module _ (s : Sight) (list : List ℕ) (f : FieldSays) where
  pub default-length : length (default_part s list f) ≡ 3
  unfolding default_part
  default-length = by (is_given f) (λ t. rw t (default_three (named_default s list f) (default_read f))) (λ t. rw t)

  pub extendee-length : length (extendee_part s list f) ≡ 2
  unfolding extendee_part
  extendee-length = by (has_extendee f) (λ t. rw t) (λ t. rw t)

  type_length : length (type_part s list f) ≡ 7
  unfolding type_part map_part
  type_length = by (is_map s list f) (λ t. rw t) (λ t. rw t)

  pub field_wide : (row container : ℕ) → length (field_words s list f row container) ≡ 16
  unfolding field_words
  field_wide row container =
      let e = extendee_part s list f in
      let t = type_part s list f in
      let d = default_part s list f in
      omega
      (arith, length-append e (t ++ (d ++ (0 ∷ []))), length-append t (d ++ (0 ∷ [])), length-append d (0 ∷ []), extendee-length, type_length, default-length)

-- ---- one field: default, extendee, type

module _ (s : Sight) (list : List ℕ) (f : FieldSays) (ofFile : Bool) (at : ℕ) {d : Result (List ℕ) Refused} (is_default : d ≡ judged (first (default_lines s list f at)) (default_part s list f)) where
  pub default_stops : {B : Type 0} (y : B) {r : Refused} → d ≡ Err r → Err r ≡ judged (first (field_lines s list f ofFile at)) y
  unfolding field_lines
  default_stops y q = step_stops (default_lines s list f at) (extendee_lines s list f ofFile at ++ type_lines s list f at) (default_part s list f) is_default y q

  module _ {dk : List ℕ} (passed : d ≡ Ok dk) {e : Result (List ℕ) Refused} (isExtendee : e ≡ judged (first (extendee_lines s list f ofFile at)) (extendee_part s list f)) where
    default-passes : first (field_lines s list f ofFile at) ≡ first (extendee_lines s list f ofFile at ++ type_lines s list f at)
    unfolding field_lines
    default-passes = step_passes (default_lines s list f at) (extendee_lines s list f ofFile at ++ type_lines s list f at) (default_part s list f) is_default passed

    pub extendee_stops : {B : Type 0} (y : B) {r : Refused} → e ≡ Err r → Err r ≡ judged (first (field_lines s list f ofFile at)) y
    extendee_stops y q = rw default-passes (step_stops (extendee_lines s list f ofFile at) (type_lines s list f at) (extendee_part s list f) isExtendee y q)

    module _ {ek : List ℕ} (passed_too : e ≡ Ok ek) {t : Result (List ℕ) Refused} (is_type : t ≡ judged (first (type_lines s list f at)) (type_part s list f)) where
      type_decides : first (field_lines s list f ofFile at) ≡ first (type_lines s list f at)
      type_decides = default-passes ∙ step_passes (extendee_lines s list f ofFile at) (type_lines s list f at) (extendee_part s list f) isExtendee passed_too

      pub type_stops : {B : Type 0} (y : B) {r : Refused} → t ≡ Err r → Err r ≡ judged (first (field_lines s list f ofFile at)) y
      type_stops y q = rw (type_decides, judged_stopped (first (type_lines s list f at)) (type_part s list f) (sym is_type ∙ q))

      pub field_passes : {B : Type 0} {x y : B} {tk : List ℕ} → t ≡ Ok tk → x ≡ y → Ok x ≡ judged (first (field_lines s list f ofFile at)) y
      field_passes q h = rw (type_decides, judged_passed (first (type_lines s list f at)) (type_part s list f) (sym is_type ∙ q), h)

module _ (s : Sight) (list : List ℕ) (f : FieldSays) where
  field_words_lem : (home container : ℕ) {kind ef ei dk dl dh : ℕ} (w : List ℕ) → kind ≡ cond (has_extendee f) 1 0 → (ef ∷ ei ∷ []) ≡ extendee_part s list f
      → w ≡ type_part s list f → (dk ∷ dl ∷ dh ∷ []) ≡ default_part s list f
      → (home ∷ kind ∷ container ∷ ef ∷ ei ∷ get_or w 0 0 ∷ get_or w 1 0 ∷ get_or w 2 0 ∷ get_or w 3 0 ∷ get_or w 4 0 ∷ get_or w 5 0 ∷ get_or w 6 0 ∷ dk ∷ dl ∷ dh ∷ 0 ∷ [])
      ≡ field_words s list f home container
  unfolding field_words
  field_words_lem home container {kind} {ef} {ei} {dk} {dl} {dh} w k e t d =
      ap (λ (l : List ℕ). home ∷ kind ∷ container ∷ ef ∷ ei ∷ (l ++ (dk ∷ dl ∷ dh ∷ 0 ∷ []))) (sym (listed_all w 7 0 (ap length t ∙ type_length s list f)))
      ∙ ap (λ (n : ℕ). home ∷ n ∷ container ∷ ef ∷ ei ∷ (w ++ (dk ∷ dl ∷ dh ∷ 0 ∷ []))) k
      ∙ ap (λ (l : List ℕ). home ∷ cond (has_extendee f) 1 0 ∷ container ∷ (l ++ (w ++ (dk ∷ dl ∷ dh ∷ 0 ∷ [])))) e
      ∙ ap (λ (l : List ℕ). home ∷ cond (has_extendee f) 1 0 ∷ container ∷ (extendee_part s list f ++ (l ++ (dk ∷ dl ∷ dh ∷ 0 ∷ [])))) t
      ∙ ap (λ (l : List ℕ). home ∷ cond (has_extendee f) 1 0 ∷ container ∷ (extendee_part s list f ++ (type_part s list f ++ (l ++ (0 ∷ []))))) d

  pub field_words_of : (home container : ℕ) {kind : ℕ} (d e w : List ℕ) → kind ≡ cond (has_extendee f) 1 0 → d ≡ default_part s list f → e ≡ extendee_part s list f → w ≡ type_part s list f
      → (home ∷ kind ∷ container ∷ get_or e 0 0 ∷ get_or e 1 0 ∷ get_or w 0 0 ∷ get_or w 1 0 ∷ get_or w 2 0 ∷ get_or w 3 0 ∷ get_or w 4 0 ∷ get_or w 5 0 ∷ get_or w 6 0 ∷ get_or d 0 0 ∷ get_or d 1 0 ∷ get_or d 2 0 ∷ 0 ∷ [])
      ≡ field_words s list f home container
  field_words_of home container d e w k p q r =
      field_words_lem home container w k (sym (listed_all e 2 0 (ap length q ∙ extendee-length s list f)) ∙ q) r (sym (listed_all d 3 0 (ap length p ∙ default-length s list f)) ∙ p)

-- ---- a range of n fields from image row `row` on, whose flat numbers start at `at`

-- the link row of the field on image row r
abbrev pub link_of : Sight → List ℕ → ℕ → ℕ → List ℕ
link_of s list container r = field_words s list ((says s.own).field r) r container

abbrev pub lines_of : Sight → List ℕ → Bool → ℕ → ℕ → ℕ → List Line
lines_of s list ofFile row at j = field_lines s list ((says s.own).field (row + j)) ofFile (at + j)

pub links_wide : (s : Sight) (list : List ℕ) (container : ℕ) (r : ℕ) → length (link_of s list container r) ≡ 16
links_wide s list container r = field_wide s list ((says s.own).field r) r container

-- the first j are linked without a refusal, and their rows written
pub record Linking (s : Sight) (list : List ℕ) (ofFile : Bool) (container row n at : ℕ) (o₀ : List ℕ) (j : ℕ) (o : List ℕ) : Type 0 where
  pub below : j ≤ n
  pub len : length o ≡ length o₀
  pub passed : first (fields_lines s list ofFile row j at) ≡ Ok tt
  pub done : o ≡ splice o₀ (at * 16) (field_links_in s list container (span row j))

module _ (s : Sight) (list : List ℕ) (ofFile : Bool) (container row n at : ℕ) (o₀ : List ℕ) where
  pub linking_start : Linking s list ofFile container row n at o₀ 0 o₀
  linking_start =
      record {
        below = omega arith;
        len = refl;
        passed = order_start (lines_of s list ofFile row at);
        done = sym (ap (splice o₀ (at * 16)) (run_none (link_of s list container) row) ∙ splice_nil o₀ (at * 16));
      }

module _ {s : Sight} {list : List ℕ} {ofFile : Bool} {container row n at : ℕ} {o₀ : List ℕ} {j : ℕ} {o : List ℕ}
    (w : Linking s list ofFile container row n at o₀ j o) where
  module _ {v : Result (List ℕ) Refused} {f : FieldSays} (l : j < n) (said : f ≡ (says s.own).field (row + j)) (h : v ≡ judged (first (field_lines s list f ofFile (at + j))) (field_words s list f (row + j) container)) where
    pub linking_next : {ws o₁ : List ℕ} → (at + n) * 16 ≤ length o₀ → v ≡ Ok ws → length o₁ ≡ length o → o₁ ≡ splice o ((at + j) * 16) ws → Linking s list ofFile container row n at o₀ (j + 1) o₁
    linking_next {ws} {o₁} room q len put =
        let e : (at + j) * 16 ≡ at * 16 + j * 16 = omega arith in
        let passed = judged_passed (first (field_lines s list f ofFile (at + j))) (field_words s list f (row + j) container) (sym h ∙ q) in
        let value = judged_value (first (field_lines s list f ofFile (at + j))) (field_words s list f (row + j) container) (sym h ∙ q) in
        record {
          below = omega arith;
          len = len ∙ w.len;
          passed = order_more j (lines_of s list ofFile row at) w.passed (ap (λ (x : FieldSays). first (field_lines s list x ofFile (at + j))) (sym said) ∙ passed);
          done =
              run_put (link_of s list container) 16 (links_wide s list container) o₀ (at * 16) row j (omega arith) w.done
              (put
              ∙ ap (λ (k : ℕ). splice o k ws) e
              ∙ ap (splice o (at * 16 + j * 16)) (sym value ∙ ap (λ (x : FieldSays). field_words s list x (row + j) container) said));
        }

    pub linking_stop : {r : Refused} → v ≡ Err r → Err r ≡ first (fields_lines s list ofFile row n at)
    linking_stop {r} q =
        let stopped = judged_stopped (first (field_lines s list f ofFile (at + j))) (field_words s list f (row + j) container) (sym h ∙ q) in
        sym (order_stop n (lines_of s list ofFile row at) j r l w.passed (ap (λ (x : FieldSays). first (field_lines s list x ofFile (at + j))) (sym said) ∙ stopped))

-- ---- the link row of a message

module _ (g : Schema) {links : List ℕ} (linked : links ≡ links_of g) (m : ℕ) (lm : m < g.messages) {row : List ℕ} (r : row ≡ link_row links (message_link_at m) 10) where
  link_word : (k : ℕ) → k < 10 → get_or row k 0 ≡ get_or (message_link g m) k 0
  unfolding links_of
  link_word k h =
      ap (λ (x : List ℕ). get_or x k 0) (r ∙ ap (λ (x : List ℕ). link_row x (message_link_at m) 10) linked)
      ∙ get_or_table 10 (λ j. get_or (links_of g) (m * 10 + j) 0) k 0 h
      ∙ get_or-append (message_links g 0 g.messages) (enum_links g g.messages ++ oneof_links g g.messages) 0 (m * 10 + k)
      (omega (arith, message_links-length g 0 g.messages))
      ∙ run_word (message_link g) 10 (λ x. refl) 0 g.messages m k lm h
      ∙ ap (λ (x : ℕ). get_or (message_link g x) k 0) (zero-add m)

  -- its image row, and its first field
  pub link_row_is : get_or row 0 0 ≡ row_of g m
  link_row_is = link_word 0 (omega arith)

  pub link_first_is : get_or row 4 0 ≡ first_field g m
  link_first_is = link_word 4 (omega arith)

-- ---- how many fields there are

module _ (g : Schema) (ok : Sound g) where
  pub message_room : (m : ℕ) → m < g.messages → first_field g m + ((g.fields_in (row_of g m)).count + (g.extensions_in (row_of g m)).count) ≤ g.fields
  message_room m l = omega (arith, fields_next g ok m l, fields_within g ok (m + 1) (omega arith))

  pub regular-inside : (m : ℕ) → m < g.messages → (g.fields_in (row_of g m)).first + (g.fields_in (row_of g m)).count ≤ 2048
  regular-inside m l = omega (arith, ok.layout.fields_inside (row_of g m) (row_in g ok m l), ok.few_fields)

  pub extensions_inside : (m : ℕ) → m < g.messages → (g.extensions_in (row_of g m)).first + (g.extensions_in (row_of g m)).count ≤ 2048
  extensions_inside m l = omega (arith, ok.layout.extensions_inside (row_of g m) (row_in g ok m l), ok.few_fields)

  pub file_inside : g.file_extensions.first + g.file_extensions.count ≤ 2048
  file_inside = omega (arith, ok.layout.file_inside, ok.few_fields)

-- ---- a message: its regular fields, 17, its extensions

module _ (s : Sight) (list : List ℕ) (m : ℕ) where
  abbrev regular_lines : List Line
  regular_lines = let g = says s.own in fields_lines s list false (g.fields_in (row_of g m)).first (g.fields_in (row_of g m)).count (first_field g m)

  abbrev clash_lines : List Line
  clash_lines = let g = says s.own in clash_at g (row_of g m) (first_field g m)

  abbrev extension_lines : List Line
  extension_lines =
      let g = says s.own in
      fields_lines s list false (g.extensions_in (row_of g m)).first (g.extensions_in (row_of g m)).count (first_field g m + (g.fields_in (row_of g m)).count)

  module _ {x : Range} {at : ℕ} (isRegular : x ≡ (says s.own).fields_in (row_of (says s.own) m)) (is_at : at ≡ first_field (says s.own) m) where
    module _ {v : Verdict} (judged : v ≡ first (fields_lines s list false x.first x.count at)) where
      regular_verdict : v ≡ first regular_lines
      regular_verdict =
          judged
          ∙ ap (λ (z : Range). first (fields_lines s list false z.first z.count at)) isRegular
          ∙ ap (λ (k : ℕ). let g = says s.own in first (fields_lines s list false (g.fields_in (row_of g m)).first (g.fields_in (row_of g m)).count k)) is_at

      pub regular_stops : (r : Refused) → v ≡ Err r → Err r ≡ first (message_lines s list m)
      unfolding message_lines
      regular_stops r q = sym (first_stops regular_lines (clash_lines ++ extension_lines) r (sym regular_verdict ∙ q))

      module _ (passed : v ≡ Ok tt) {row : ℕ} (is_row : row ≡ row_of (says s.own) m) {c : Verdict} (clashed : c ≡ first (clash_at (says s.own) row at)) where
        clash_verdict : c ≡ first clash_lines
        clash_verdict =
            clashed
            ∙ ap (λ (k : ℕ). first (clash_at (says s.own) k at)) is_row
            ∙ ap (λ (k : ℕ). first (clash_at (says s.own) (row_of (says s.own) m) k)) is_at

        regular-passes : first (message_lines s list m) ≡ first (clash_lines ++ extension_lines)
        unfolding message_lines
        regular-passes = first_passes regular_lines (clash_lines ++ extension_lines) (sym regular_verdict ∙ passed)

        pub clash_stops : (r : Refused) → c ≡ Err r → Err r ≡ first (message_lines s list m)
        clash_stops r q = sym (regular-passes ∙ first_stops clash_lines extension_lines r (sym clash_verdict ∙ q))

        pub extensions_decide : {y : Range} {e : Verdict} → c ≡ Ok tt → y ≡ (says s.own).extensions_in (row_of (says s.own) m)
            → e ≡ first (fields_lines s list false y.first y.count (at + x.count)) → e ≡ first (message_lines s list m)
        extensions_decide {y} {e} q isExtensions h =
            h
            ∙ ap (λ (z : Range). first (fields_lines s list false z.first z.count (at + x.count))) isExtensions
            ∙ ap (λ (z : Range). let g = says s.own in first (fields_lines s list false (g.extensions_in (row_of g m)).first (g.extensions_in (row_of g m)).count (at + z.count))) isRegular
            ∙ ap (λ (k : ℕ). let g = says s.own in first (fields_lines s list false (g.extensions_in (row_of g m)).first (g.extensions_in (row_of g m)).count (k + (g.fields_in (row_of g m)).count))) is_at
            ∙ sym (regular-passes ∙ first_passes clash_lines extension_lines (sym clash_verdict ∙ q))

    pub message_written : (o₀ : List ℕ) {o₁ o₂ : List ℕ} {y : Range} → y ≡ (says s.own).extensions_in (row_of (says s.own) m)
        → (at + (x.count + y.count)) * 16 ≤ length o₀ → o₁ ≡ splice o₀ (at * 16) (field_links_in s list (m + 1) (rows_of x))
        → o₂ ≡ splice o₁ ((at + x.count) * 16) (field_links_in s list (m + 1) (rows_of y))
        → o₂ ≡ splice o₀ (first_field (says s.own) m * 16) (field_links_in s list (m + 1) (field_rows (says s.own) (row_of (says s.own) m)))
    message_written o₀ {o₁} {o₂} {y} isExtensions room p q =
        let f = link_of s list (m + 1) in
        let w = links_wide s list (m + 1) in
        let e : (at + x.count) * 16 ≡ at * 16 + x.count * 16 = omega arith in
        q
        ∙ ap (λ (k : ℕ). splice o₁ k (concat_map f (rows_of y))) e
        ∙ ap (λ (l : List ℕ). splice l (at * 16 + x.count * 16) (concat_map f (rows_of y))) p
        ∙ splice-splice o₀ (at * 16) (concat_map f (rows_of x)) (concat_map f (rows_of y)) (x.count * 16) (run_length f 16 w x.first x.count)
        (omega (arith, run_length f 16 w y.first y.count))
        ∙ ap (splice o₀ (at * 16)) (sym (concat-append f (rows_of x) (rows_of y)))
        ∙ ap (λ (z : Range). splice o₀ (at * 16) (concat_map f (rows_of z ++ rows_of y))) isRegular
        ∙ ap (λ (z : Range). splice o₀ (at * 16) (concat_map f (rows_of ((says s.own).fields_in (row_of (says s.own) m)) ++ rows_of z))) isExtensions
        ∙ ap (λ (k : ℕ). splice o₀ (k * 16) (concat_map f (field_rows (says s.own) (row_of (says s.own) m)))) is_at

-- ---- all messages

concat_wide : (f : ℕ → List ℕ) (w : ℕ) → ((x : ℕ) → length (f x) ≡ w) → (l : List ℕ) → length (concat_map f l) ≡ length l * w
unfolding concat_map
concat_wide f w h [] = sym (zero-mul w)
concat_wide f w h (x ∷ l) = omega (arith, length-append (f x) (concat_map f l), h x, concat_wide f w h l, suc-mul (length l) w)

-- the link rows of the fields of message m, and where they stand
abbrev pub message_part : Sight → List ℕ → ℕ → List ℕ
message_part s list m = field_links_in s list (m + 1) (field_rows (says s.own) (row_of (says s.own) m))

abbrev pub part_at : Sight → ℕ → ℕ
part_at s m = first_field (says s.own) m * 16

-- the messages below m are linked without a refusal, and their rows written
pub record Indexing (s : Sight) (list : List ℕ) (o₀ : List ℕ) (m : ℕ) (o : List ℕ) : Type 0 where
  pub written : Writing (message_part s list) (part_at s) (says s.own).messages o₀ m (part_at s m) o
  pub passed : first (in_order m (message_lines s list)) ≡ Ok tt

module _ (s : Sight) (list : List ℕ) (ok : Sound (says s.own)) where
  part_length : (m : ℕ) → length (message_part s list m) ≡ (((says s.own).fields_in (row_of (says s.own) m)).count + ((says s.own).extensions_in (row_of (says s.own) m)).count) * 16
  part_length m =
      concat_wide (link_of s list (m + 1)) 16 (links_wide s list (m + 1)) (field_rows (says s.own) (row_of (says s.own) m))
      ∙ ap (λ (n : ℕ). n * 16) (fields_length (says s.own) (row_of (says s.own) m))

  pub message_parts : Parts (message_part s list) (part_at s) (says s.own).messages
  message_parts m l = omega (arith, fields_next (says s.own) ok m l, part_length m)

  module _ (o₀ : List ℕ) where
    pub indexing_start : Indexing s list o₀ 0 o₀
    indexing_start =
        record {
          written = writing_start (message_part s list) (part_at s) (says s.own).messages message_parts o₀ refl;
          passed = order_start (message_lines s list);
        }

    module _ {m : ℕ} {o : List ℕ} (w : Indexing s list o₀ m o) where
      pub indexing_next : {v : Verdict} {o₁ : List ℕ} → m < (says s.own).messages → (says s.own).fields * 16 ≤ length o₀ → v ≡ first (message_lines s list m) → v ≡ Ok tt
          → length o₁ ≡ length o → o₁ ≡ splice o (part_at s m) (message_part s list m) → Indexing s list o₀ (m + 1) o₁
      indexing_next l room p q len put =
          record {
            written =
                writing_next (message_part s list) (part_at s) (says s.own).messages message_parts o₀ w.written l
                (omega (arith, fields_within (says s.own) ok (m + 1) (omega arith))) refl len put;
            passed = order_more m (message_lines s list) w.passed (sym p ∙ q);
          }

      pub indexing_stop : {v : Verdict} (r : Refused) → m < (says s.own).messages → v ≡ first (message_lines s list m) → v ≡ Err r
          → Err r ≡ first (in_order (says s.own).messages (message_lines s list))
      indexing_stop r l h q = sym (order_stop (says s.own).messages (message_lines s list) m r l w.passed (sym h ∙ q))

      pub indexing_passed : (says s.own).messages ≤ m → Ok tt ≡ first (in_order (says s.own).messages (message_lines s list))
      indexing_passed h =
          let e : m ≡ (says s.own).messages = omega (arith, w.written.below) in
          sym (ap (λ (k : ℕ). first (in_order k (message_lines s list))) (sym e) ∙ w.passed)

      pub indexing_done : (says s.own).messages ≤ m → o ≡ splice o₀ 0 (run (message_part s list) 0 (says s.own).messages)
      indexing_done h =
          writing_end (message_part s list) (part_at s) (says s.own).messages message_parts o₀ w.written h
          ∙ ap (λ (k : ℕ). splice o₀ (k * 16) (run (message_part s list) 0 (says s.own).messages)) (fields_start (says s.own) ok)

  -- ---- and the file's extensions

  module _ {v : Verdict} (judged : v ≡ first (in_order (says s.own).messages (message_lines s list))) where
    abbrev file_lines : List Line
    file_lines = let g = says s.own in fields_lines s list true g.file_extensions.first g.file_extensions.count (first_field g g.messages)

    pub messages_stop : (r : Refused) → v ≡ Err r → Err r ≡ first (all_field_lines s list)
    unfolding all_field_lines
    messages_stop r q = sym (first_stops (in_order (says s.own).messages (message_lines s list)) file_lines r (sym judged ∙ q))

    pub file_decides : {x : Range} {at : ℕ} {e : Verdict} → v ≡ Ok tt → x ≡ (says s.own).file_extensions → at ≡ first_field (says s.own) (says s.own).messages
        → e ≡ first (fields_lines s list true x.first x.count at) → e ≡ first (all_field_lines s list)
    unfolding all_field_lines
    file_decides {x} {at} q isFile is_at h =
        h
        ∙ ap (λ (z : Range). first (fields_lines s list true z.first z.count at)) isFile
        ∙ ap (λ (k : ℕ). first (fields_lines s list true (says s.own).file_extensions.first (says s.own).file_extensions.count k)) is_at
        ∙ sym (first_passes (in_order (says s.own).messages (message_lines s list)) file_lines (sym judged ∙ q))

  pub file_written : (o₀ : List ℕ) {o₁ o₂ : List ℕ} {x : Range} {at : ℕ} → x ≡ (says s.own).file_extensions → at ≡ first_field (says s.own) (says s.own).messages
      → (says s.own).fields * 16 ≤ length o₀ → o₁ ≡ splice o₀ 0 (run (message_part s list) 0 (says s.own).messages)
      → o₂ ≡ splice o₁ (at * 16) (field_links_in s list 0 (rows_of x)) → o₂ ≡ splice o₀ 0 (field_links s list)
  unfolding field_links
  file_written o₀ {o₁} {o₂} {x} {at} isFile is_at room p q =
      let g = says s.own in
      let f = link_of s list 0 in
      let us = run (message_part s list) 0 g.messages in
      let vs = concat_map f (rows_of g.file_extensions) in
      let n = parts_length (message_part s list) (part_at s) g.messages message_parts g.messages (omega arith) in
      let len : length us ≡ part_at s g.messages = omega (arith, fields_start g ok) in
      q
      ∙ ap (λ (z : Range). splice o₁ (at * 16) (concat_map f (rows_of z))) isFile
      ∙ ap (λ (k : ℕ). splice o₁ (k * 16) vs) is_at
      ∙ ap (λ (k : ℕ). splice o₁ k vs) (sym (zero-add (part_at s g.messages)))
      ∙ ap (λ (l : List ℕ). splice l (0 + part_at s g.messages) vs) p
      ∙ splice-splice o₀ 0 us vs (part_at s g.messages) len
      (omega (arith, fields_end_lem g ok, run_length f 16 (links_wide s list 0) g.file_extensions.first g.file_extensions.count))
