-- Laws of a table of marks, and of the marks by which fields are told apart. Assumes nothing.
use Prim.Native.Nat.{ℕ, ◌+◌, ◌/◌, ◌<◌}
use native.Mathlib.Nat.{mod-lt}
use native.Mathlib.Numerals.{add-one}
use native.Mathlib.Omega.{arith}
use mathlib.Core.Path.{◌≡◌, refl, ◌∙◌}
use mathlib.Core.List.{List}
use mathlib.Core.Bool.{true, false, ◌||◌}
use lib.Dec.{eqb}
use lib.ListN.{length, get_or, length-set}
use lib.Seq.{get_or-set_same, get_or-set_other}
use borrow.Author.Tests.{eq-eqb, eqb-true, ne_eqb}
use Rattle.lists.specs.Lists.{same}
use Rattle.lists.proofs.BelowLaws.{any_below_none}
use Rattle.lists.proofs.Cases.{by, clash, equal, last, or-false, or_left, or_right, or-true}
use Rattle.lists.proofs.ListLaws.{same_differ}
use Rattle.names.specs.Key.{text_key}
use Rattle.image.specs.Clash as rule
use Rattle.image.specs.Schema.{FieldSays, field_row, schema_in}
use Rattle.image.specs.Seen.{any_seen, is_marked, is_seen, keys_of, mark_behind, mark_of, place_in, see, see_all, several}
use Rattle.image.specs.Words.{fields_of}
use Rattle.image.proofs.FieldLaws.{earlier_is, says}
use Rattle.image.specs.declared.fields.Keys.{Keys}
use Rattle.image.specs.declared.rows.Range.{Range}
use Rattle.image.specs.declared.rows.Sections.{Sections}

-- ---- one byte

mark_left : (old mark : ℕ) → is_marked (mark_behind old mark) mark ≡ true
unfolding is_marked mark_behind
mark_left old mark =
    by (eqb old 0 || eqb old mark)
    (λ t. simp (t, eq-eqb mark mark refl, or-true))
    (λ t. simp t)

-- a mark that was left stays, since none is 0, nor 255
mark_stays : (old mark other : ℕ) → mark < several → 0 < other → is_marked old other ≡ true → is_marked (mark_behind old mark) other ≡ true
unfolding is_marked mark_behind
mark_stays old mark other h l m =
    by (eqb old 0 || eqb old mark)
    (λ t. by (eqb old mark)
    (λ u. simp (t, ← eqb-true old mark u) m)
    (λ u. let z : old ≡ 0 = eqb-true old 0 (simp (u, or-false) at t) in
    let n : is_marked old other ≡ false = simp (ne_eqb old several (λ e. absurd (omega arith)), ne_eqb old other (λ e. absurd (omega arith))) in
    clash (is_marked old other) m n))
    (λ t. simp t)

-- ---- one mark of a table

marks_between : (n key : ℕ) → (0 < mark_of n key) × (mark_of n key < several)
marks_between n key = let l = mod-lt (key / n) {m = 254} (omega arith) in (omega arith, omega arith)

module _ (seen : List ℕ) (key : ℕ) where
  abbrev place : ℕ
  place = place_in (length seen) key

  -- what the key leaves at its place
  abbrev left : ℕ
  left = mark_behind (get_or seen place 0) (mark_of (length seen) key)

  pub length-see : length (see seen key) ≡ length seen
  unfolding see
  length-see = length-set seen place left

  elsewhere : (p : ℕ) → (p ≡ place → ⊥) → get_or (see seen key) p 0 ≡ get_or seen p 0
  unfolding see
  elsewhere p e = get_or-set_other seen place p left 0 e

  module _ (h : 0 < length seen) where
    here : (p : ℕ) → p ≡ place → get_or (see seen key) p 0 ≡ left
    unfolding see
    here p e = rw e (get_or-set_same seen place left 0 (mod-lt key h))

    pub see_marks : is_seen (see seen key) key ≡ true
    unfolding is_seen
    see_marks = rw (length-see, here place refl) (mark_left (get_or seen place 0) (mark_of (length seen) key))

    -- what is seen stays so
    pub see_keeps : (other : ℕ) → is_seen seen other ≡ true → is_seen (see seen key) other ≡ true
    unfolding is_seen
    see_keeps other m =
        let n = length seen in
        equal (place_in n other) place
        (λ e. rw (length-see, here (place_in n other) e) (mark_stays (get_or seen place 0) (mark_of n key) (mark_of n other) (marks_between n key).1 (marks_between n other).0 (rw e at m)))
        (λ e. rw (length-see, elsewhere (place_in n other) e) m)

-- ---- a loop: each of the first i things has left its marks

pub record Marked (hasLeft : List ℕ → ℕ → Type 0) (size : ℕ) (seen : List ℕ) (i : ℕ) : Type 0 where
  pub long : length seen ≡ size
  pub some : 0 < size
  pub marks : (j : ℕ) → j < i → hasLeft seen j

module _ {hasLeft : List ℕ → ℕ → Type 0} where
  pub marked_start : (seen : List ℕ) → 0 < length seen → Marked hasLeft (length seen) seen 0
  marked_start seen h = record { long = refl; some = h; marks = λ j l. absurd (omega arith) }

  module _ {size : ℕ} {seen : List ℕ} {i : ℕ} (h : Marked hasLeft size seen i) where
    pub marked_some : 0 < length seen
    marked_some = omega (arith, h.long, h.some)

    -- thing i leaves its marks, and those of the earlier ones stay
    pub marked_more : {later : List ℕ} → length later ≡ length seen → hasLeft later i → ((j : ℕ) → hasLeft seen j → hasLeft later j) → Marked hasLeft size later (i + 1)
    marked_more {later} n left stay =
        record { long = n ∙ h.long; some = h.some; marks = λ j m. last (rw add-one at m) (λ q. rw q left) (λ l. stay j (h.marks j l)) }

-- ---- the three marks of a field

pub record AllSeen (seen : List ℕ) (k : Keys) : Type 0 where
  pub number : is_seen seen k.number ≡ true
  pub name : is_seen seen k.name ≡ true
  pub json : is_seen seen k.json ≡ true

module _ (seen : List ℕ) (h : 0 < length seen) (k : Keys) where
  -- the table after the first mark, and after the second
  abbrev one : List ℕ
  one = see seen k.number

  abbrev two : List ℕ
  two = see one k.name

  one_some : 0 < length one
  one_some = omega (arith, length-see seen k.number)

  two_some : 0 < length two
  two_some = omega (arith, one_some, length-see one k.name)

  pub length_all : length (see_all seen k) ≡ length seen
  unfolding see_all
  length_all = length-see two k.json ∙ length-see one k.name ∙ length-see seen k.number

  pub all_marks : AllSeen (see_all seen k) k
  unfolding see_all
  all_marks =
      record {
        number = see_keeps two k.json two_some k.number (see_keeps one k.name one_some k.number (see_marks seen k.number h));
        name = see_keeps two k.json two_some k.name (see_marks one k.name one_some);
        json = see_marks two k.json two_some;
      }

  keeps : (other : ℕ) → is_seen seen other ≡ true → is_seen (see_all seen k) other ≡ true
  unfolding see_all
  keeps other m = see_keeps two k.json two_some other (see_keeps one k.name one_some other (see_keeps seen k.number h other m))

  pub all_keep : (other : Keys) → AllSeen seen other → AllSeen (see_all seen k) other
  all_keep other m = record { number = keeps other.number m.number; name = keeps other.name m.name; json = keeps other.json m.json }

-- ---- a field none of whose keys is seen clashes with none that left its marks

module _ (seen : List ℕ) where
  text_apart : (s t : List ℕ) → is_seen seen (text_key s) ≡ true → is_seen seen (text_key t) ≡ false → same s t ≡ false
  text_apart s t a b = same_differ s t (λ e. clash (is_seen seen (text_key s)) a (rw e b))

  number_apart : (m n : ℕ) → is_seen seen m ≡ false → is_seen seen n ≡ true → eqb m n ≡ false
  number_apart m n a b = ne_eqb m n (λ e. clash (is_seen seen n) b (rw (← e) a))

  pub fields_apart : (f e : FieldSays) → any_seen seen (keys_of f) ≡ false → AllSeen seen (keys_of e) → rule.clash f e ≡ false
  unfolding any_seen keys_of rule.clash rule.is_called
  fields_apart f e h m =
      let texts = or_right (is_seen seen f.number) (is_seen seen (text_key f.name) || is_seen seen (text_key (rule.json_name_of f))) h in
      let name = or_left (is_seen seen (text_key f.name)) (is_seen seen (text_key (rule.json_name_of f))) texts in
      let json = or_right (is_seen seen (text_key f.name)) (is_seen seen (text_key (rule.json_name_of f))) texts in
      rw (
        number_apart f.number e.number (or_left (is_seen seen f.number) (is_seen seen (text_key f.name) || is_seen seen (text_key (rule.json_name_of f))) h) m.number,
        text_apart e.name f.name m.name name,
        text_apart (rule.json_name_of e) f.name m.json name,
        text_apart e.name (rule.json_name_of f) m.name json,
        text_apart (rule.json_name_of e) (rule.json_name_of f) m.json json,
      )

-- ---- the loop over fields: a field none of whose keys is seen clashes with no earlier one

module _ (image : List ℕ) (s : Sections) (pool : List ℕ) (g : Range) where
  -- field i of the range has left its marks
  abbrev pub FieldSeen : List ℕ → ℕ → Type 0
  FieldSeen seen i = AllSeen seen (keys_of (says image s pool g i))

  module _ {size : ℕ} {seen : List ℕ} {j : ℕ} (h : Marked FieldSeen size seen j) (k : Keys) (is : k ≡ keys_of (says image s pool g j)) where
    pub seeing_more : (later : List ℕ) → later ≡ see_all seen k → Marked FieldSeen size later (j + 1)
    seeing_more later e =
        let l = marked_some h in
        rw e (marked_more h (length_all seen l k) (rw (← is) (all_marks seen l k)) (λ i. all_keep seen l k (keys_of (says image s pool g i))))

    pub seeing_clear : (r : ℕ) → g ≡ fields_of image s r → any_seen seen k ≡ false → rule.clashes_earlier (schema_in image s pool) r j ≡ false
    seeing_clear r at e =
        earlier_is image s pool r g at j (field_row image s (g.first + j)) refl
        ∙ any_below_none j (λ i. rule.clash (says image s pool g j) (says image s pool g i)) (λ i l. fields_apart seen (says image s pool g j) (says image s pool g i) (rw is at e) (h.marks i l))
