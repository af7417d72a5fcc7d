-- Laws of the shelf: what a record that fits tells, the numbers of its files, and the walk back over the records. Assumes nothing.
use mathlib.Core.Path.{◌≡◌, refl, sym, ap, ◌∙◌}
use mathlib.Core.Bool.{true, false, cond, ◌&&◌}
use mathlib.Core.List.{List, [], ◌∷◌}
use Prim.Native.Nat.{ℕ, zero, suc, ◌+◌, ◌*◌, ◌≤◌, ◌<◌}
use native.Mathlib.Omega.{arith}
use lib.Dec.{leb, eqb}
use lib.ListN.{length, take, get_or, set, replicate, length-set, length-replicate, get_or-replicate}
use lib.Seq.{take-take, length-take-le, get_or-set_same, get_or-set_other}
use borrow.Author.Tests.{eqb-true, eq-eqb, ne_eqb, lt-leb}
use Rattle.lists.specs.Below.{all_of}
use Rattle.lists.specs.Lists.{part}
use Rattle.lists.proofs.Cases.{each, equal, left, right, and-false}
use Rattle.lists.proofs.TableLaws.{as_table}
use Rattle.image.specs.Words.{sections_of}
use Rattle.image.specs.Schema.{schema_of}
use Rattle.image.specs.Links.{message_link_width, enum_link_width, oneof_link_width}
use Rattle.image.specs.Record.{all_link_words, field_link_width, says}
use Rattle.image.specs.Shelf.{Shelf, shelf_of, end_word, record_start, image_length, pool_start, pool_length, last_file, before, record_tests, record_fits}
use Rattle.std.specs.Prelude.{Option, Some, None}
use Rattle.image.specs.Places.{no_place, last_place, place_on, places_of, chained}
use Rattle.image.specs.declared.shelf.Place.{Place}
use Rattle.image.specs.declared.shelf.Places.{Places}
use Rattle.image.specs.declared.rows.Sections.{Sections}

-- ---- the tests of a record

-- how many words the link rows of an image have, by its sections
abbrev pub row_words : Sections → ℕ
row_words s = s.messages.count * message_link_width + (s.enums.count * enum_link_width + s.oneofs.count * oneof_link_width) + s.fields.count * field_link_width

pub row_words_lem : (image pool : List ℕ) (s : Sections) → s ≡ sections_of image → row_words s ≡ all_link_words (schema_of image pool)
unfolding schema_of
row_words_lem image pool s e = rw e

-- the tests over the words that were read and the sections of the image
module _ (words bytes : List ℕ) {s : Sections} (es : s ≡ sections_of (part (end_word words 0) (end_word words 1) words)) where
  pub record_by : record_fits (shelf_of words bytes)
      ≡ all_of
      (leb 8 (length words)
      ∷ eqb (end_word words 0 + end_word words 1 + row_words s + 8) (length words)
      ∷ eqb (end_word words 2 + end_word words 3) (length bytes)
      ∷ eqb (end_word words 4) s.messages.count
      ∷ eqb (end_word words 5) s.enums.count
      ∷ eqb (end_word words 6) s.oneofs.count
      ∷ eqb (end_word words 7) s.fields.count
      ∷ [])
  unfolding record_fits schema_of
  record_by = rw es

pub record_short : (words bytes : List ℕ) → length words < 8 → record_fits (shelf_of words bytes) ≡ false
unfolding record_fits
record_short words bytes h = simp (lt-leb 8 (length words) h)

-- a record that fits: its image, its rows and its end are the last of the words, and its pool is the last of the bytes
module _ (s : Shelf) (h : record_fits s ≡ true) where
  pub record_words_lem : record_start s + image_length s + all_link_words (says (last_file s)) + 8 ≡ length s.words
  unfolding record_fits
  record_words_lem = eqb-true (record_start s + image_length s + all_link_words (says (last_file s)) + 8) (length s.words) (each (record_tests s) h).1.0

  pub record_bytes : pool_start s + pool_length s ≡ length s.bytes
  unfolding record_fits
  record_bytes = eqb-true (pool_start s + pool_length s) (length s.bytes) (each (record_tests s) h).1.1.0

-- the parts of two slices that a shelf stands in
abbrev pub shelf_in : List ℕ → List ℕ → ℕ → ℕ → Shelf
shelf_in ws bs w b = shelf_of (take w ws) (take b bs)

-- where the shelf before the last record ends
module _ (ws bs : List ℕ) (w b : ℕ) (hw : w ≤ length ws) (hb : b ≤ length bs) (h : record_fits (shelf_in ws bs w b) ≡ true) where
  pub start_within : record_start (shelf_in ws bs w b) + image_length (shelf_in ws bs w b) + all_link_words (says (last_file (shelf_in ws bs w b))) ≤ w
  start_within = omega (arith, record_words_lem (shelf_in ws bs w b) h, length-take-le w ws hw)

  pub pool-within : pool_start (shelf_in ws bs w b) + pool_length (shelf_in ws bs w b) ≤ b
  pool-within = omega (arith, record_bytes (shelf_in ws bs w b) h, length-take-le b bs hb)

  pub before_in : before (shelf_in ws bs w b) ≡ shelf_in ws bs (record_start (shelf_in ws bs w b)) (pool_start (shelf_in ws bs w b))
  before_in =
      rw (
        take-take (record_start (shelf_in ws bs w b)) w ws (omega (arith, start_within)),
        take-take (pool_start (shelf_in ws bs w b)) b bs (omega (arith, pool-within)),
      )

-- ---- the chain of records

chained_next : (n : ℕ) (s : Shelf) → chained (suc n) s ≡ record_fits s && chained n (before s)
unfolding chained
chained_next n s = refl

pub chain_on : (n : ℕ) (s : Shelf) → record_fits s ≡ true → chained (suc n) s ≡ chained n (before s)
chain_on n s h = chained_next n s ∙ rw h

pub chain_stop : (n : ℕ) (s : Shelf) → record_fits s ≡ false → chained (suc n) s ≡ false
chain_stop n s h = chained_next n s ∙ rw h

-- what a chain with a last record tells
module _ (n : ℕ) (s : Shelf) (h : chained (suc n) s ≡ true) where
  pub chain_fits : record_fits s ≡ true
  chain_fits = left (record_fits s) (chained n (before s)) (sym (chained_next n s) ∙ h)

  pub chain_rest : chained n (before s) ≡ true
  chain_rest = right (record_fits s) (chained n (before s)) (sym (chained_next n s) ∙ h)

pub chained_none : (s : Shelf) → chained 0 s ≡ eqb (length s.words) 0 && eqb (length s.bytes) 0
unfolding chained
chained_none s = refl

-- ---- the places of the files

place_next : (n : ℕ) (s : Shelf) (f : ℕ) → place_on (suc n) s f ≡ cond (eqb f n) (last_place s) (place_on n (before s) f)
unfolding place_on
place_next n s f = refl

pub place_last : (n : ℕ) (s : Shelf) → place_on (suc n) s n ≡ last_place s
place_last n s = place_next n s n ∙ rw (eq-eqb n n refl)

pub place-before : (n : ℕ) (s : Shelf) (f : ℕ) → f < n → place_on (suc n) s f ≡ place_on n (before s) f
place-before n s f h = place_next n s f ∙ rw (ne_eqb f n (λ e. omega arith))

pub place_past : (n : ℕ) (s : Shelf) (f : ℕ) → n ≤ f → place_on n s f ≡ no_place
unfolding place_on
place_past zero s f h = refl
place_past (suc n) s f h = rw (ne_eqb f n (λ e. omega arith)) (place_past n (before s) f (omega arith))

-- ---- the walk back

-- the array has the places of the files from k on, and p is the shelf as it stood with k files
pub record Kept (n : ℕ) (s : Shelf) (k : ℕ) (p : Shelf) (l : List Place) : Type 0 where
  pub long : length l ≡ 32
  pub seen : (f : ℕ) → k ≤ f → f < 32 → get_or l f no_place ≡ place_on n s f
  pub left : (f : ℕ) → f < k → place_on n s f ≡ place_on k p f

module _ (n : ℕ) (s : Shelf) where
  pub kept_start : Kept n s n s (replicate {A = Place} 32 no_place)
  kept_start =
      record {
        long = length-replicate {A = Place} 32 no_place;
        seen = λ f h l. get_or-replicate {A = Place} 32 f no_place no_place l ∙ sym (place_past n s f h);
        left = λ f h. refl;
      }

  pub kept_step : (j : ℕ) (p q : Shelf) (l : List Place) (v : Place) → j < 32 → before p ≡ q → v ≡ last_place p → Kept n s (suc j) p l → Kept n s j q (set l j v)
  kept_step j p q l v h eq ev t =
      record {
        long = length-set l j v ∙ t.long;
        seen = λ f m less. equal f j
            (λ e. rw e (get_or-set_same l j v no_place (omega (arith, t.long)) ∙ ev ∙ sym (t.left j (omega arith) ∙ place_last j p)))
            (λ e. get_or-set_other l j f v no_place e ∙ t.seen f (omega arith) less);
        left = λ f m. t.left f (omega arith) ∙ place-before j p f m ∙ ap (λ (x : Shelf). place_on j x f) eq;
      }

  pub kept_end : (p : Shelf) (l : List Place) → Kept n s 0 p l → record { files = l } ≡ places_of n s
  kept_end p l t = ap (λ (x : List Place). record { files = x }) (as_table l 32 (place_on n s) no_place t.long (λ f h. t.seen f (omega arith) h))

-- the files from k on, of n, have been seen, and what is left ends at word w and byte b
pub record Walking (ws bs : List ℕ) (n : ℕ) (s : Shelf) (k w b : ℕ) (files : List Place) : Type 0 where
  pub few : n ≤ 32
  pub at : k ≤ n
  pub words : w ≤ length ws
  pub bytes : b ≤ length bs
  pub chain : chained n s ≡ chained k (shelf_in ws bs w b)
  pub kept : Kept n s k (shelf_in ws bs w b) files

pub walking_start : (ws bs : List ℕ) (n w b : ℕ) → n ≤ 32 → w ≤ length ws → b ≤ length bs
    → Walking ws bs n (shelf_in ws bs w b) n w b (replicate {A = Place} 32 no_place)
walking_start ws bs n w b few hw hb =
    record {
      few = few;
      at = omega arith;
      words = hw;
      bytes = hb;
      chain = refl;
      kept = kept_start n (shelf_in ws bs w b);
    }

-- what the walk answers
abbrev pub walked : ℕ → Shelf → Option Places
walked n s = cond (chained n s) (Some (places_of n s)) None

-- where no places are answered
pub stays_nowhere : (n : ℕ) (s : Shelf) → chained n s ≡ false → None ≡ walked n s
stays_nowhere n s h = rw h

module _ {ws bs : List ℕ} {n : ℕ} {s : Shelf} where
  pub walking_step : {k w b : ℕ} {files : List Place} → Walking ws bs n s k w b files
      → (j : ℕ) → k ≡ suc j → record_fits (shelf_in ws bs w b) ≡ true
      → {start image pool many : ℕ} → start ≡ end_word (take w ws) 0 → image ≡ end_word (take w ws) 1 → pool ≡ end_word (take w ws) 2 → many ≡ end_word (take w ws) 3
      → Walking ws bs n s j start pool (set files j (record { start = start; image = image; pool = pool; length = many }))
  walking_step {k} {w} {b} {files} t j e h {start} {image} {pool} {many} e0 e1 e2 e3 =
      let p : Shelf = shelf_in ws bs w b in
      let q : Shelf = shelf_in ws bs start pool in
      let back : before p ≡ q = before_in ws bs w b t.words t.bytes h ∙ rw (e0, e2) in
      let less : j < 32 = omega (arith, t.few, t.at) in
      record {
        few = t.few;
        at = omega (arith, t.at);
        words = omega (arith, t.words, start_within ws bs w b t.words t.bytes h);
        bytes = omega (arith, t.bytes, pool-within ws bs w b t.words t.bytes h);
        chain = t.chain ∙ ap (λ (m : ℕ). chained m p) e ∙ chain_on j p h ∙ ap (chained j) back;
        kept = kept_step n s j p q files (record { start = start; image = image; pool = pool; length = many }) less back (rw (e0, e1, e2, e3)) (rw e at t.kept);
      }

  module _ {k w b : ℕ} {files : List Place} (t : Walking ws bs n s k w b files) where
    pub walking_fails : (j : ℕ) → k ≡ suc j → record_fits (shelf_in ws bs w b) ≡ false → None ≡ walked n s
    walking_fails j e h = stays_nowhere n s (t.chain ∙ ap (λ (m : ℕ). chained m (shelf_in ws bs w b)) e ∙ chain_stop j (shelf_in ws bs w b) h)

    ends : k ≡ 0 → chained n s ≡ eqb w 0 && eqb b 0
    ends e =
        t.chain ∙ ap (λ (m : ℕ). chained m (shelf_in ws bs w b)) e ∙ chained_none (shelf_in ws bs w b)
        ∙ rw (length-take-le w ws t.words, length-take-le b bs t.bytes)

    pub walking_words : k ≡ 0 → (w ≡ 0 → ⊥) → None ≡ walked n s
    walking_words e h = stays_nowhere n s (ends e ∙ rw (ne_eqb w 0 h))

    pub walking_bytes : k ≡ 0 → (b ≡ 0 → ⊥) → None ≡ walked n s
    walking_bytes e h = stays_nowhere n s (ends e ∙ rw (ne_eqb b 0 h) (and-false (eqb w 0)))

    pub walking_end : k ≡ 0 → w ≡ 0 → b ≡ 0 → Some (record { files = files }) ≡ walked n s
    walking_end e ew eb =
        let all : chained n s ≡ true = ends e ∙ rw (eq-eqb w 0 ew, eq-eqb b 0 eb) in
        rw all (ap (λ (x : Places). Some x) (kept_end n s (shelf_in ws bs w b) files (rw e at t.kept)))
