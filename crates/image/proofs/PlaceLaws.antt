-- The files of a chain of records stand in the slices where their places say, and the check of a shelf is that of its records and then
-- that of its files. Assumes nothing.
use mathlib.Core.Path.{◌≡◌, refl, sym, ap, ◌∙◌}
use mathlib.Core.Bool.{Bool, true, false, ◌&&◌}
use mathlib.Core.List.{List, [], ◌∷◌, ◌++◌}
use Prim.Native.Nat.{ℕ, zero, suc, ◌+◌, ◌≤◌, ◌<◌}
use native.Mathlib.Omega.{arith}
use lib.Dec.{eqb}
use lib.ListN.{length, take}
use Rattle.lists.specs.Below.{all_below}
use Rattle.lists.specs.Lists.{part, table}
use Rattle.lists.proofs.Cases.{by, and-true, and-false}
use Rattle.lists.proofs.BelowLaws.{all_below_start, all_below_agree}
use Rattle.lists.proofs.ListLaws.{part_take}
use Rattle.lists.proofs.TableLaws.{get_or_table, table_agree}
use Rattle.image.specs.Record.{File, says, file_at, all_link_words}
use Rattle.image.specs.Shelf.{Shelf, record_start, image_length, pool_start, pool_length, last_file, before, record_fits, file_fits, files_of, shelved}
use Rattle.image.specs.Places.{file_in, files_in, no_place, place_on, places_of, chained, files_fit}
use Rattle.image.specs.declared.shelf.Places.{Places}
use Rattle.image.proofs.ShelfLaws.{shelf_in, start_within, pool-within, before_in, chain_fits, chain_rest, chain_on, chain_stop, chained_none, place_last, place-before}

-- ---- a file in a front of the slices

pub file_within : (ws bs : List ℕ) (w b start size pool count : ℕ)
    → start + size + all_link_words (says (file_at (take w ws) (take b bs) start size pool count)) ≤ w → pool + count ≤ b
    → file_at (take w ws) (take b bs) start size pool count ≡ file_at ws bs start size pool count
file_within ws bs w b start size pool count hw hb =
    let rows : ℕ = all_link_words (says (file_at (take w ws) (take b bs) start size pool count)) in
    let ei : part start size (take w ws) ≡ part start size ws = part_take ws start size w (omega (arith, hw)) in
    let ep : part pool count (take b bs) ≡ part pool count bs = part_take bs pool count b hb in
    let el : part (start + size) rows (take w ws) ≡ part (start + size) rows ws = part_take ws (start + size) rows w hw in
    rw (el, ei, ep)

-- the file at the numbers of file f, of n files
abbrev pub file_on : List ℕ → List ℕ → ℕ → Shelf → ℕ → File
file_on ws bs n s f = file_at ws bs (place_on n s f).start (place_on n s f).image (place_on n s f).pool (place_on n s f).length

-- it is in order behind those before it
abbrev pub fits_on : List ℕ → List ℕ → ℕ → Shelf → ℕ → Bool
fits_on ws bs n s f = file_fits (table f (file_on ws bs n s)) (file_on ws bs n s f)

module _ (ws bs : List ℕ) where
  pub file_last : (n w b : ℕ) → w ≤ length ws → b ≤ length bs → record_fits (shelf_in ws bs w b) ≡ true
      → file_on ws bs (suc n) (shelf_in ws bs w b) n ≡ last_file (shelf_in ws bs w b)
  file_last n w b hw hb h =
      let s : Shelf = shelf_in ws bs w b in
      rw (place_last n s)
      (sym (file_within ws bs w b (record_start s) (image_length s) (pool_start s) (pool_length s) (start_within ws bs w b hw hb h) (pool-within ws bs w b hw hb h)))

  pub file_before : (n : ℕ) (s : Shelf) (f : ℕ) → f < n → file_on ws bs (suc n) s f ≡ file_on ws bs n (before s) f
  file_before n s f h = rw (place-before n s f h)

  pub files_before : (n : ℕ) (s : Shelf) (f : ℕ) → f ≤ n → table f (file_on ws bs (suc n) s) ≡ table f (file_on ws bs n (before s))
  files_before n s f h = table_agree f (file_on ws bs (suc n) s) (file_on ws bs n (before s)) (λ i l. file_before n s i (omega arith))

  pub fits_before : (n : ℕ) (s : Shelf) (f : ℕ) → f < n → fits_on ws bs (suc n) s f ≡ fits_on ws bs n (before s) f
  fits_before n s f h =
      ap (λ (l : List File). file_fits l (file_on ws bs (suc n) s f)) (files_before n s f (omega arith))
      ∙ ap (file_fits (table f (file_on ws bs n (before s)))) (file_before n s f h)

  pub file_in_lem : (n : ℕ) (s : Shelf) (f : ℕ) → f < 32 → file_in ws bs (places_of n s) f ≡ file_on ws bs n s f
  file_in_lem n s f h = rw (get_or_table 32 (place_on n s) f no_place h)

  pub files_in_lem : (n : ℕ) (s : Shelf) (f : ℕ) → f ≤ 32 → files_in ws bs (places_of n s) f ≡ table f (file_on ws bs n s)
  files_in_lem n s f h = table_agree f (file_in ws bs (places_of n s)) (file_on ws bs n s) (λ i l. file_in_lem n s i (omega arith))

-- ---- all files

files_next : (n : ℕ) (s : Shelf) → files_of (suc n) s ≡ files_of n (before s) ++ (last_file s ∷ [])
unfolding files_of
files_next n s = refl

table_next : (n : ℕ) (f : ℕ → File) → table (suc n) f ≡ table n f ++ (f n ∷ [])
unfolding table
table_next n f = refl

module _ (ws bs : List ℕ) where
  files_on : (n w b : ℕ) → w ≤ length ws → b ≤ length bs → chained n (shelf_in ws bs w b) ≡ true
      → files_of n (shelf_in ws bs w b) ≡ table n (file_on ws bs n (shelf_in ws bs w b))
  unfolding files_of table
  files_on zero w b hw hb c = refl
  files_on (suc n) w b hw hb c =
      let s : Shelf = shelf_in ws bs w b in
      let h : record_fits s ≡ true = chain_fits n s c in
      let back : before s ≡ shelf_in ws bs (record_start s) (pool_start s) = before_in ws bs w b hw hb h in
      let rest = files_on n (record_start s) (pool_start s) (omega (arith, start_within ws bs w b hw hb h)) (omega (arith, pool-within ws bs w b hw hb h)) (ap (chained n) (sym back) ∙ chain_rest n s c) in
      let all : files_of n (before s) ≡ table n (file_on ws bs (suc n) s) =
      ap (files_of n) back ∙ rest ∙ ap (λ (x : Shelf). table n (file_on ws bs n x)) (sym back) ∙ sym (files_before ws bs n s n (omega arith)) in
      files_next n s
      ∙ ap (λ (l : List File). l ++ (last_file s ∷ [])) all
      ∙ ap (λ (x : File). table n (file_on ws bs (suc n) s) ++ (x ∷ [])) (sym (file_last ws bs n w b hw hb h))
      ∙ sym (table_next n (file_on ws bs (suc n) s))

  -- the files of the shelf are those at its places
  pub located : (n w b : ℕ) → n ≤ 32 → w ≤ length ws → b ≤ length bs → chained n (shelf_in ws bs w b) ≡ true
      → files_of n (shelf_in ws bs w b) ≡ files_in ws bs (places_of n (shelf_in ws bs w b)) n
  located n w b few hw hb c = files_on n w b hw hb c ∙ sym (files_in_lem ws bs n (shelf_in ws bs w b) n few)

-- ---- the two halves of the check

shelved_next : (n : ℕ) (s : Shelf) → shelved (suc n) s ≡ record_fits s && (file_fits (files_of n (before s)) (last_file s) && (shelved n (before s) && true))
unfolding shelved
shelved_next n s = refl

shelved_none : (s : Shelf) → shelved 0 s ≡ eqb (length s.words) 0 && eqb (length s.bytes) 0
unfolding shelved
shelved_none s = refl

below_next : (n : ℕ) (p : ℕ → Bool) → all_below (suc n) p ≡ p n && all_below n p
unfolding all_below
below_next n p = refl

fit_all : (ws bs : List ℕ) (p : Places) (n : ℕ) → files_fit ws bs p n ≡ all_below n (λ f. file_fits (files_in ws bs p f) (file_in ws bs p f))
unfolding files_fit
fit_all ws bs p n = refl

-- the two ways of a shelf with a last record: its records chain, or they do not
joined : {whole fits file rest chain more this those : Bool} → whole ≡ fits && (file && (rest && true)) → fits ≡ true → file ≡ this → rest ≡ those
    → chain ≡ true → more ≡ this && those → whole ≡ chain && more
joined {whole} {fits} {file} {rest} {chain} {more} {this} {those} e h f r c m = rw (e, h, f, r, c, m, and-true those)

broken : {whole chain : Bool} (more : Bool) → whole ≡ false → chain ≡ false → whole ≡ chain && more
broken more e c = rw (e, c)

module _ (ws bs : List ℕ) where
  halves_on : (n w b : ℕ) → w ≤ length ws → b ≤ length bs
      → shelved n (shelf_in ws bs w b) ≡ chained n (shelf_in ws bs w b) && all_below n (fits_on ws bs n (shelf_in ws bs w b))
  halves_on zero w b hw hb =
      let s : Shelf = shelf_in ws bs w b in
      shelved_none s ∙ sym (chained_none s) ∙ sym (and-true (chained 0 s)) ∙ ap (λ (x : Bool). chained 0 s && x) (sym (all_below_start (fits_on ws bs 0 s)))
  halves_on (suc n) w b hw hb =
      let s : Shelf = shelf_in ws bs w b in
      let fits : ℕ → Bool = fits_on ws bs (suc n) s in
      by (record_fits s)
      (λ h.
      let back : before s ≡ shelf_in ws bs (record_start s) (pool_start s) = before_in ws bs w b hw hb h in
      let hw2 : record_start s ≤ length ws = omega (arith, start_within ws bs w b hw hb h) in
      let hb2 : pool_start s ≤ length bs = omega (arith, pool-within ws bs w b hw hb h) in
      let ih : shelved n (before s) ≡ chained n (before s) && all_below n (fits_on ws bs n (before s)) =
      ap (shelved n) back ∙ halves_on n (record_start s) (pool_start s) hw2 hb2 ∙ ap (λ (x : Shelf). chained n x && all_below n (fits_on ws bs n x)) (sym back) in
      by (chained n (before s))
      (λ c.
      let files : files_of n (before s) ≡ table n (file_on ws bs (suc n) s) =
      ap (files_of n) back ∙ files_on ws bs n (record_start s) (pool_start s) hw2 hb2 (ap (chained n) (sym back) ∙ c) ∙ ap (λ (x : Shelf). table n (file_on ws bs n x)) (sym back) ∙ sym (files_before ws bs n s n (omega arith)) in
      let this : file_fits (files_of n (before s)) (last_file s) ≡ fits n =
      ap (λ (l : List File). file_fits l (last_file s)) files ∙ ap (file_fits (table n (file_on ws bs (suc n) s))) (sym (file_last ws bs n w b hw hb h)) in
      let rest : shelved n (before s) ≡ all_below n fits =
      ih ∙ ap (λ (x : Bool). x && all_below n (fits_on ws bs n (before s))) c ∙ sym (all_below_agree n fits (fits_on ws bs n (before s)) (λ f l. fits_before ws bs n s f l)) in
      joined (shelved_next n s) h this rest (chain_on n s h ∙ c) (below_next n fits))
      (λ c.
      let rest : shelved n (before s) ≡ false = ih ∙ ap (λ (x : Bool). x && all_below n (fits_on ws bs n (before s))) c in
      let none : shelved (suc n) s ≡ false = shelved_next n s ∙ rw (h, rest) (and-false (file_fits (files_of n (before s)) (last_file s))) in
      broken (all_below (suc n) fits) none (chain_on n s h ∙ c)))
      (λ h.
      let none : shelved (suc n) s ≡ false = shelved_next n s ∙ rw h in
      broken (all_below (suc n) fits) none (chain_stop n s h))

  -- the shelf is in order where its records chain and its files at their places are in order
  pub halves : (n w b : ℕ) → n ≤ 32 → w ≤ length ws → b ≤ length bs
      → shelved n (shelf_in ws bs w b) ≡ chained n (shelf_in ws bs w b) && files_fit ws bs (places_of n (shelf_in ws bs w b)) n
  halves n w b few hw hb =
      let s : Shelf = shelf_in ws bs w b in
      let p : Places = places_of n s in
      let same : all_below n (fits_on ws bs n s) ≡ all_below n (λ f. file_fits (files_in ws bs p f) (file_in ws bs p f)) =
      all_below_agree n (fits_on ws bs n s) (λ f. file_fits (files_in ws bs p f) (file_in ws bs p f)) (λ f l.
      ap (λ (x : List File). file_fits x (file_on ws bs n s f)) (sym (files_in_lem ws bs n s f (omega arith))) ∙ ap (file_fits (files_in ws bs p f)) (sym (file_in_lem ws bs n s f (omega arith)))) in
      halves_on n w b hw hb ∙ ap (λ (x : Bool). chained n s && x) (same ∙ sym (fit_all ws bs p n))

  -- as the code goes: records first, then files
  pub halves_broken : (n w b : ℕ) → n ≤ 32 → w ≤ length ws → b ≤ length bs → chained n (shelf_in ws bs w b) ≡ false → shelved n (shelf_in ws bs w b) ≡ false
  halves_broken n w b few hw hb c = halves n w b few hw hb ∙ rw c

  pub halves_files : (n w b : ℕ) → n ≤ 32 → w ≤ length ws → b ≤ length bs → chained n (shelf_in ws bs w b) ≡ true
      → shelved n (shelf_in ws bs w b) ≡ files_fit ws bs (places_of n (shelf_in ws bs w b)) n
  halves_files n w b few hw hb c = halves n w b few hw hb ∙ rw c
