-- What a well-formed shelf says of its files, and what the search list of a file needs that passed rules 3 to 7. Assumes nothing.
use mathlib.Core.Path.{◌≡◌, refl, sym, ap, ◌∙◌}
use mathlib.Core.Bool.{Bool, true, false, not}
use mathlib.Core.List.{List, [], ◌∷◌, ◌++◌}
use Prim.Native.Nat.{ℕ, zero, suc, ◌<◌, ◌≤◌}
use native.Mathlib.Omega.{arith}
use lib.ListN.{length, take, get_or, length-append, get_or-append}
use lib.Seq.{length-take-le, take-append-le, take_at, get_or_at, get_or-take}
use borrow.Author.Tests.{leb-true, lt-ltb, le-ltb, not-false}
use Rattle.std.specs.Prelude.{Option, Some, None, Ok, is_some, is_none, unwrap_or}
use Rattle.lists.specs.Below.{first_below, found_below}
use Rattle.lists.specs.Lists.{same}
use Rattle.lists.proofs.Cases.{clash, last, each, or_right}
use Rattle.lists.proofs.BelowLaws.{all_below_elim, first_low, searched}
use Rattle.image.specs.Words.{sections_of}
use Rattle.image.specs.Layout.{laid_out_within_limit}
use Rattle.image.specs.Limits.{count_tests, counts_within, limit_tests, within_limits}
use Rattle.image.specs.Texts.{texts_right}
use Rattle.image.specs.Schema.{Schema, schema_of}
use Rattle.image.specs.Laid.{Sound}
use Rattle.image.specs.Record.{File, no_file, says}
use Rattle.image.specs.LinkTests.{links_fit}
use Rattle.image.specs.Shelf.{Shelf, record_fits, before, last_file, image_tests, image_obeys, file_named, imports_named, shelved_tests, file_fits, files_of, shelved, used_part, shelf_tests, well_formed}
use Rattle.image.specs.Places.{files_in, places_of, read_shelf}
use Rattle.image.specs.Verdict.{Line, first, in_order}
use Rattle.image.specs.Judge.{opening_lines, opening}
use Rattle.image.specs.declared.shelf.Used.{Used}
use Rattle.image.specs.declared.shelf.Places.{Places}
use Rattle.image.proofs.VerdictLaws.{first_append}
use Rattle.image.proofs.ReadLaws.{formed, read_files}
use Rattle.image.proofs.ObeyLaws.{sound_obeys, Opened}
use Rattle.link.specs.Search.{import_number, Searchable}
use Rattle.link.specs.Refusals.{import_lines}
use Rattle.link.proofs.TableLaws.{pass_both, none_given}
use Rattle.link.proofs.FirstLaws.{import_line, import_lines_lem}

-- ---- the files of a shelf

files_next : (n : ℕ) (s : Shelf) → files_of (suc n) s ≡ files_of n (before s) ++ (last_file s ∷ [])
unfolding files_of
files_next n s = refl

-- a shelf that has n files has n
pub files_length : (n : ℕ) (s : Shelf) → length (files_of n s) ≡ n
unfolding files_of
files_length zero s = refl
files_length (suc n) s = omega (arith, length-append (files_of n (before s)) (last_file s ∷ []), files_length n (before s))

-- the tests of the last file, and of the shelf before it
shelved_last : (n : ℕ) (s : Shelf) → shelved (suc n) s ≡ true → (file_fits (files_of n (before s)) (last_file s) ≡ true) × (shelved n (before s) ≡ true)
unfolding shelved
shelved_last n s h =
    let t = each (record_fits s ∷ file_fits (files_of n (before s)) (last_file s) ∷ shelved n (before s) ∷ []) h in
    (t.1.0, t.1.1.0)

-- file f is in order behind those before it
abbrev pub fits_at : List File → ℕ → Bool
fits_at files f = file_fits (take f files) (get_or files f no_file)

-- one more file behind them changes nothing for a file, and the last one has all others before it
fits_front : (files : List File) (x : File) (f : ℕ) → f < length files → fits_at (files ++ (x ∷ [])) f ≡ fits_at files f
fits_front files x f h = rw (take-append-le f files (x ∷ []) (omega arith), get_or-append files (x ∷ []) no_file f h)

fits_last : (files : List File) (x : File) (f : ℕ) → length files ≡ f → fits_at (files ++ (x ∷ [])) f ≡ file_fits files x
fits_last files x f e = rw (take_at files (x ∷ []) f e, get_or_at files x [] no_file f e)

-- every file of a shelf is in order behind those before it
pub shelved_fits : (n : ℕ) (s : Shelf) → shelved n s ≡ true → (f : ℕ) → f < n → fits_at (files_of n s) f ≡ true
shelved_fits zero s h f l = absurd (omega arith)
shelved_fits (suc n) s h f l =
    let t = shelved_last n s h in
    let earlier = files_of n (before s) in
    let size = files_length n (before s) in
    ap (λ (x : List File). fits_at x f) (files_next n s)
    ∙ last l
    (λ e. fits_last earlier (last_file s) f (size ∙ sym e) ∙ t.0)
    (λ m. fits_front earlier (last_file s) f (omega (arith, size)) ∙ shelved_fits n (before s) t.1 f m)

-- ---- a file that is in order

-- an image whose counts are within their limits has at most 32 imports
imports-few : (image : List ℕ) (pool : List ℕ) → within_limits image pool ≡ true → (schema_of image pool).imports ≤ 32
unfolding within_limits counts_within schema_of
imports-few image pool h =
    let s = sections_of image in
    leb-true s.imports.count 32 (each (count_tests s) (each (limit_tests image s pool) h).0).0

not_none : {A : Type 0} (x : Option A) → is_some x ≡ true → is_none x ≡ false
not_none (Some a) h = refl
not_none None h = clash false h refl

module _ (earlier : List File) (x : File) (h : file_fits earlier x ≡ true) where
  -- its image obeys all rules of one image
  pub fit_obeys : image_obeys x.image x.pool ≡ true
  unfolding file_fits
  fit_obeys = (each (shelved_tests earlier x) h).0

  -- it can be numbered
  pub fit_sound : Sound (says x)
  fit_sound = sound_obeys x.image x.pool fit_obeys

  fit_within : within_limits x.image x.pool ≡ true
  unfolding image_obeys
  fit_within = (each (image_tests x.image x.pool) fit_obeys).1.0

  -- it has at most 32 imports
  pub fit_few : (says x).imports ≤ 32
  fit_few = imports-few x.image x.pool fit_within

  -- each of its imports names an earlier file
  pub fit_imports : (k : ℕ) → k < (says x).imports → is_none (file_named earlier ((says x).import_name k)) ≡ false
  unfolding file_fits imports_named
  fit_imports k l =
      not_none (file_named earlier ((says x).import_name k))
      (all_below_elim (says x).imports (λ i. is_some (file_named earlier ((says x).import_name i))) (each (shelved_tests earlier x) h).1.1.0 k l)

  -- its link words meet their tests
  pub fit_links : links_fit (earlier ++ (x ∷ [])) x ≡ true
  unfolding file_fits
  fit_links = (each (shelved_tests earlier x) h).1.1.1.0

-- ---- the first file of a name

-- file i has the name
abbrev called : List File → List ℕ → ℕ → Bool
called files name i = same (says (get_or files i no_file)).file_name name

found_place : (n k d : ℕ) → k < n → unwrap_or (found_below n k) d ≡ k
found_place n k d h = rw (lt-ltb k n h)

found_not : (n : ℕ) → is_none (found_below n n) ≡ true
found_not n = rw (le-ltb n n (omega arith))

-- where file i has the name, the first of that name is i or stands before it
named_low : (files : List File) (name : List ℕ) (d i : ℕ) → i < length files → called files name i ≡ true → unwrap_or (file_named files name) d ≤ i
unfolding file_named
named_low files name d i l t =
    let n = length files in
    let low = first_low n (called files name) n i l t in
    let e = found_place n (first_below n (called files name) n) d (omega arith) in
    omega (arith, e, low)

-- what is found has the name
pub named_some : (files : List File) (name : List ℕ) → is_none (file_named files name) ≡ false → (i : ℕ) × (i < length files) × (called files name i ≡ true)
unfolding file_named
named_some files name h =
    let n = length files in
    searched n (called files name) n
    (λ r e. (r.at, r.below, r.has))
    (λ none e. clash (is_none (file_named files name)) (ap (λ (k : ℕ). is_none (found_below n k)) e ∙ found_not n) h)

-- a file that is found has a number on the shelf
pub named_below : (files : List File) (name : List ℕ) (d : ℕ) → is_none (file_named files name) ≡ false → unwrap_or (file_named files name) d < length files
named_below files name d h = let r = named_some files name h in omega (arith, r.1, named_low files name d r.0 r.1 r.2)

-- a name that is found among the first f files is found there among all
pub named_earlier : (files : List File) (name : List ℕ) (d f : ℕ) → f ≤ length files → is_none (file_named (take f files) name) ≡ false → unwrap_or (file_named files name) d < f
named_earlier files name d f l h =
    let r = named_some (take f files) name h in
    let less : r.0 < f = omega (arith, r.1, length-take-le f files l) in
    let t : called files name r.0 ≡ true = ap (λ (x : File). same (says x).file_name name) (sym (get_or-take f files r.0 no_file less)) ∙ r.2 in
    omega (arith, less, named_low files name d r.0 (omega arith) t)

-- ---- passed rules of the file that is linked

-- 3 to 5 passed: they hold
pub opened_full : (image pool : List ℕ) (full : Bool) → opening image pool full ≡ Ok tt → Opened image pool
unfolding opening opening_lines
opened_full image pool full e =
    let t = none_given (opening_lines image pool full) e in
    record {
      laid_within = not-false (laid_out_within_limit image (length pool)) t.0;
      within = not-false (within_limits image pool) (or_right full (not (within_limits image pool)) t.1.0);
      texts = not-false (texts_right image pool) t.1.1.0;
    }

pub opened_few : (image pool : List ℕ) → Opened image pool → (schema_of image pool).imports ≤ 32
opened_few image pool o = imports-few image pool o.within

-- lines in order that pass: those of each number do
pub order_passed : (n : ℕ) (f : ℕ → List Line) → first (in_order n f) ≡ Ok tt → (i : ℕ) → i < n → first (f i) ≡ Ok tt
unfolding in_order
order_passed zero f h i l = absurd (omega arith)
order_passed (suc n) f h i l =
    let t = pass_both (first (in_order n f)) (first (f n)) (sym (first_append (in_order n f) (f n)) ∙ h) in
    last l (λ e. ap (λ (k : ℕ). first (f k)) e ∙ t.1) (λ m. order_passed n f t.0 i m)

-- 7 passed: each import is found
pub imports_found : (files : List File) (g : Schema) → first (import_lines files g) ≡ Ok tt → (k : ℕ) → k < g.imports → is_none (file_named files (g.import_name k)) ≡ false
imports_found files g h k l =
    (none_given (import_line files g k) (order_passed g.imports (import_line files g) (import_lines_lem files g ∙ h) k l)).0

-- ---- a well-formed shelf

module _ (ws bs : List ℕ) (u : Used) (h : well_formed ws bs u ≡ true) where
  abbrev files : List File
  files = files_of u.files (used_part ws bs u)

  -- it has at most 32 files
  pub formed-few : u.files ≤ 32
  unfolding well_formed
  formed-few = leb-true u.files 32 (each (shelf_tests ws bs u) h).0

  pub formed-shelved : shelved u.files (used_part ws bs u) ≡ true
  unfolding well_formed
  formed-shelved = (each (shelf_tests ws bs u) h).1.1.1.0

  pub formed-length : length files ≡ u.files
  formed-length = files_length u.files (used_part ws bs u)

  -- file f of it
  module _ (f : ℕ) (l : f < u.files) where
    abbrev file : File
    file = get_or files f no_file

    -- is in order behind those before it
    pub formed_fits : file_fits (take f files) file ≡ true
    formed_fits = shelved_fits u.files (used_part ws bs u) formed-shelved f l

    -- has at most 32 imports
    pub formed-imports : (says file).imports ≤ 32
    formed-imports = fit_few (take f files) file formed_fits

    -- and each of them names an earlier file
    pub formed-earlier : (k : ℕ) → k < (says file).imports → import_number files (says file) k < f
    formed-earlier k m =
        named_earlier files ((says file).import_name k) (length files) f (omega (arith, formed-length)) (fit_imports (take f files) file formed_fits k m)

  -- with passed rules 3 to 5 and 7 of an image the search list can be made
  pub searchable : (image pool : List ℕ) (full : Bool) → opening image pool full ≡ Ok tt → first (import_lines files (schema_of image pool)) ≡ Ok tt
      → Searchable files (schema_of image pool)
  searchable image pool full o i =
      record {
        few = omega (arith, formed-length, formed-few);
        few-imports = λ f l. formed-imports f (omega (arith, formed-length));
        earlier = λ f k l m. formed-earlier f (omega (arith, formed-length)) k m;
        own-few = opened_few image pool (opened_full image pool full o);
        own_found = λ k l. named_below files ((schema_of image pool).import_name k) (length files) (imports_found files (schema_of image pool) i k l);
      }

-- ---- the same of the files at the places that were read

module _ (ws bs : List ℕ) (u : Used) (h : well_formed ws bs u ≡ true) {p : Places} (e : Some p ≡ read_shelf ws bs u) where
  -- they are the files of the shelf
  pub places_files : files_of u.files (used_part ws bs u) ≡ files_in ws bs p u.files
  places_files =
      let s : ◌≡◌ {A = Option Places} (Some p) (Some (places_of u.files (used_part ws bs u))) = e ∙ sym (formed ws bs u h) in
      let q : p ≡ places_of u.files (used_part ws bs u) = cc in
      read_files ws bs u h ∙ ap (λ (x : Places). files_in ws bs x u.files) (sym q)
