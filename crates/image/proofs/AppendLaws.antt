-- The laws of a growing shelf: the empty one is well formed; only used words and bytes count; a well-formed shelf with one more record that
-- meets the conditions behind it is well formed, and has one more file. Assumes nothing.
use Prim.Native.Nat.{ℕ, suc, ◌+◌, ◌-◌, ◌≤◌, ◌<◌}
use native.Mathlib.Numerals.{add-one}
use native.Mathlib.Omega.{arith}
use mathlib.Core.Path.{◌≡◌, refl, sym, ap, ◌∙◌}
use mathlib.Core.Bool.{true}
use mathlib.Core.List.{List, [], ◌∷◌, ◌++◌, append_assoc}
use lib.ListN.{length, take, drop, get_or, length-append}
use lib.Seq.{take_at, drop_at, get_or-append-add, take-length, drop-append-add, length-take-le}
use borrow.Author.Tests.{le-leb, eq-eqb}
use Rattle.lists.specs.Splice.{splice}
use Rattle.lists.proofs.Cases.{each, all_of_lem}
use Rattle.lists.proofs.SpliceLaws.{take-splice_end, length-splice}
use Rattle.image.specs.Record.{File, says, all_link_words, end_words, record_words}
use Rattle.image.specs.Shelf.{Shelf, shelf_of, end_word, last_file, before, record_tests, record_fits, file_fits, files_of, shelved, appended, file_limit, used_part, shelf_tests, well_formed, used_with}
use Rattle.image.specs.declared.shelf.Used.{Used}

-- the words at the end of a record
end_append : (xs e : List ℕ) (k : ℕ) → length e ≡ 8 → end_word (xs ++ e) k ≡ get_or e k 0
unfolding end_word
end_append xs e k h =
    let l : length (xs ++ e) - 8 + k ≡ length xs + k = rw (length-append xs e) (omega arith) in
    rw l (get_or-append-add xs e k 0)

module _ (us ps : List ℕ) (file : File) (rows : length file.links ≡ all_link_words (says file)) where
  abbrev end : List ℕ
  end = end_words file (length us) (length ps)

  abbrev words : List ℕ
  words = us ++ (file.image ++ (file.links ++ end))

  abbrev new : Shelf
  new = appended (shelf_of us ps) file

  end_new : (k : ℕ) → end_word words k ≡ get_or end k 0
  end_new k =
      ap (λ (x : List ℕ). end_word x k) (sym (append_assoc us file.image (file.links ++ end)) ∙ sym (append_assoc (us ++ file.image) file.links end))
      ∙ end_append (us ++ file.image ++ file.links) end k refl

  length_new : length words ≡ length us + (length file.image + (length file.links + 8))
  length_new =
      length-append us (file.image ++ (file.links ++ end))
      ∙ ap (λ (n : ℕ). length us + n) (length-append file.image (file.links ++ end) ∙ ap (λ (n : ℕ). length file.image + n) (length-append file.links end))

  pub before_new : before new ≡ shelf_of us ps
  before_new = rw (end_new 0, end_new 2, take_at us (file.image ++ (file.links ++ end)) (length us) refl, take_at ps file.pool (length ps) refl)

  image_new : (last_file new).image ≡ file.image
  image_new =
      rw (end_new 0, end_new 1, drop_at us (file.image ++ (file.links ++ end)) (length us) refl, take_at file.image (file.links ++ end) (length file.image) refl)

  pool_new : (last_file new).pool ≡ file.pool
  pool_new = rw (end_new 2, end_new 3, drop_at ps file.pool (length ps) refl, take-length file.pool)

  links_new : take (all_link_words (says file)) (drop (end_word words 0 + end_word words 1) words) ≡ file.links
  links_new =
      rw (end_new 0, end_new 1, drop-append-add us (file.image ++ (file.links ++ end)) (length file.image), drop_at file.image (file.links ++ end) (length file.image) refl)
      (take_at file.links end (all_link_words (says file)) rows)

  pub file_new : last_file new ≡ file
  file_new = rw (image_new, pool_new, links_new)

  fits_new : record_fits new ≡ true
  unfolding record_fits
  fits_new =
      let p : length (ps ++ file.pool) ≡ length ps + length file.pool = length-append ps file.pool in
      all_of_lem (record_tests new) (
        le-leb 8 (length words) (omega (arith, length_new)),
        (
          rw (image_new, pool_new, end_new 0, end_new 1) (eq-eqb (length us + length file.image + all_link_words (says file) + 8) (length words) (omega (arith, length_new, rows))),
          (
            rw (end_new 2, end_new 3) (eq-eqb _ _ (sym p)),
            (
              rw (image_new, pool_new) (eq-eqb _ _ (end_new 4)),
              (rw (image_new, pool_new) (eq-eqb _ _ (end_new 5)), (rw (image_new, pool_new) (eq-eqb _ _ (end_new 6)), (rw (image_new, pool_new) (eq-eqb _ _ (end_new 7)), tt))),
            ),
          ),
        ),
      )

  pub files_new : (n : ℕ) → files_of (suc n) new ≡ files_of n (shelf_of us ps) ++ (file ∷ [])
  unfolding files_of
  files_new n = rw (before_new, file_new)

  pub shelved_new : (n : ℕ) → shelved n (shelf_of us ps) ≡ true → file_fits (files_of n (shelf_of us ps)) file ≡ true → shelved (suc n) new ≡ true
  unfolding shelved
  shelved_new n p q =
      all_of_lem (record_fits new ∷ file_fits (files_of n (before new)) (last_file new) ∷ shelved n (before new) ∷ [])
      (fits_new, (rw (before_new, file_new) q, (ap (shelved n) before_new ∙ p, tt)))

-- ---- rule 2

pub empty_shelf : (ws bs : List ℕ) → well_formed ws bs (record { words = 0; bytes = 0; files = 0 }) ≡ true
unfolding well_formed shelved
empty_shelf ws bs = all_of_lem (shelf_tests ws bs (record { words = 0; bytes = 0; files = 0 })) (refl, (le-leb 0 (length ws) (omega arith), (le-leb 0 (length bs) (omega arith), (refl, tt))))

pub used_only : (ws bs vs cs : List ℕ) (u : Used) → u.words ≤ length ws → u.bytes ≤ length bs → u.words ≤ length vs → u.bytes ≤ length cs
    → take u.words ws ≡ take u.words vs → take u.bytes bs ≡ take u.bytes cs → well_formed ws bs u ≡ well_formed vs cs u
unfolding well_formed
used_only ws bs vs cs u a b c d p q =
    rw (p, q, le-leb u.words (length ws) a, le-leb u.bytes (length bs) b, le-leb u.words (length vs) c, le-leb u.bytes (length cs) d)

module _ (ws bs : List ℕ) (u : Used) (file : File) (rows : length file.links ≡ all_link_words (says file)) where
  abbrev new_words : List ℕ
  new_words = splice ws u.words (record_words file u.words u.bytes)

  abbrev new_bytes : List ℕ
  new_bytes = splice bs u.bytes file.pool

  module _ (was : well_formed ws bs u ≡ true)
      (room : u.words + length (record_words file u.words u.bytes) ≤ length ws)
      (space : u.bytes + length file.pool ≤ length bs)
    where
      part_new : used_part new_words new_bytes (used_with u file) ≡ appended (used_part ws bs u) file
      part_new =
          let w = length-take-le u.words ws (omega arith) in
          let b = length-take-le u.bytes bs (omega arith) in
          rw (w, b, take-splice_end ws u.words (record_words file u.words u.bytes) (length (record_words file u.words u.bytes)) (omega arith) refl, take-splice_end bs u.bytes file.pool (length file.pool) (omega arith) refl)

      -- the files are those that were there, and the new one
      pub files_with : files_of (u.files + 1) (used_part new_words new_bytes (used_with u file)) ≡ files_of u.files (used_part ws bs u) ++ (file ∷ [])
      files_with = rw (part_new, add-one) (files_new (take u.words ws) (take u.bytes bs) file rows u.files)

      pub still_well_formed : u.files < file_limit → file_fits (files_of u.files (used_part ws bs u)) file ≡ true → well_formed new_words new_bytes (used_with u file) ≡ true
      unfolding well_formed
      still_well_formed few fits =
          let h = each (shelf_tests ws bs u) was in
          let w = length-splice ws u.words (record_words file u.words u.bytes) room in
          let b = length-splice bs u.bytes file.pool space in
          let s = shelved_new (take u.words ws) (take u.bytes bs) file rows u.files h.1.1.1.0 fits in
          all_of_lem (shelf_tests new_words new_bytes (used_with u file))
          (le-leb (u.files + 1) 32 (omega arith), (le-leb (used_with u file).words (length new_words) (omega (arith, w, room)), (le-leb (used_with u file).bytes (length new_bytes) (omega (arith, b, space)), (rw (part_new, add-one) s, tt))))
