-- The statements of specs/RoundTrip hold, for both kinds of files by the same laws. Assumes nothing.
use mathlib.Core.Path.{◌≡◌, refl, sym, ap, ◌∙◌}
use mathlib.Core.Bool.{true, false}
use mathlib.Core.List.{List, [], ◌∷◌, ◌++◌, append_assoc, append-nil}
use Prim.Native.Nat.{ℕ, zero, suc, ◌+◌, ◌*◌, ◌/◌, ◌%◌, ◌≤◌, ◌<◌}
use native.Mathlib.Nat.{zero-add, add_assoc, div-div-eq-div-mul, div-add-mod'}
use native.Mathlib.Omega.{arith}
use lib.Dec.{ltb, eqb}
use lib.ListN.{length, get_or, take, drop, take-append-drop, length-append, length-drop}
use lib.Seq.{ext_get_or, get_or-append-add, drop_at, drop-drop, take-add}
use borrow.Author.Tests.{lt-ltb, ltb-true, eq-eqb, eqb-true}
use Rattle.std.specs.Prelude.{Ok}
use Rattle.lists.specs.Lists.{all, is_prefix_of, part, table, concat_map}
use Rattle.lists.specs.Splice.{splice}
use Rattle.lists.proofs.Cases.{left, right, clash}
use Rattle.lists.proofs.ListLaws.{all_elim}
use Rattle.lists.proofs.SpanLaws.{concat-append}
use Rattle.lists.proofs.SpliceLaws.{listed_row, take-splice_end}
use Rattle.formats.specs.Words.{byte_limit, word_limit, le32, in_bytes, word_of, word_at, words_at}
use Rattle.formats.specs.Files.{Kind, image_kind, shelf_kind, version, file_of, shelf_file}
use Rattle.formats.specs.Reading.{read_file}
use Rattle.formats.specs.declared.file.Sizes.{Sizes}
use Rattle.formats.specs.RoundTrip.{AllBelow, ImageReadBack, ShelfReadBack, ImageWrittenSo, ShelfWrittenSo}
use Rattle.formats.proofs.WordLaws.{length-le32, length-in_bytes, length_words, get_d_words}
use Rattle.formats.proofs.ReadLaws.{said_length, Sound, sound, asked_of, read_whole, read_verdict, read_sound, read_as_shelf, shelf_answer_lem}
use Rattle.formats.proofs.WriteLaws.{length_file}

-- ---- a word in its four bytes

word_back : (x : ℕ) (r : List ℕ) → x < word_limit → word_at (le32 x ++ r) 0 ≡ x
unfolding word_at le32
word_back x r h =
    let top : x / 16777216 % 256 ≡ x / 16777216 = omega arith in
    omega (arith, div-add-mod' x 256, div-add-mod' (x / 256) 256, div-add-mod' (x / 65536) 256, div-div-eq-div-mul x 256 256, div-div-eq-div-mul x 65536 256)

-- four bytes, put together and taken apart again
bytes_back : (a b c d : ℕ) → a < 256 → b < 256 → c < 256 → d < 256 → le32 (word_of a b c d) ≡ a ∷ b ∷ c ∷ d ∷ []
unfolding le32
bytes_back a b c d ha hb hc hd =
    let n = word_of a b c d in
    let e0 : n % 256 ≡ a = omega arith in
    let q1 : n / 256 ≡ b + c * 256 + d * 65536 = omega arith in
    let q2 : n / 65536 ≡ c + d * 256 = omega arith in
    let q3 : n / 16777216 ≡ d = omega arith in
    let e1 : (b + c * 256 + d * 65536) % 256 ≡ b = omega arith in
    let e2 : (c + d * 256) % 256 ≡ c = omega arith in
    let e3 : d % 256 ≡ d = omega arith in
    rw (e0, q1, e1, q2, e2, q3, e3)

word-behind : (p q : List ℕ) (at : ℕ) → word_at (p ++ q) (length p + at) ≡ word_at q at
unfolding word_at
word-behind p q at = simp (add_assoc, get_or-append-add)

-- word k of words in bytes
word-in_bytes : (ws r : List ℕ) (k : ℕ) → AllBelow word_limit ws → k < length ws → word_at (in_bytes ws ++ r) (k * 4) ≡ get_or ws k 0
unfolding concat_map all
word-in_bytes [] r k a h = absurd (omega arith)
word-in_bytes (w ∷ ws) r zero a h =
    rw append_assoc (word_back w (in_bytes ws ++ r) (ltb-true w word_limit (left (ltb w word_limit) (all (λ x. ltb x word_limit) ws) a)))
word-in_bytes (w ∷ ws) r (suc k) a h =
    let e : suc k * 4 ≡ length (le32 w) + k * 4 = omega (arith, length-le32 w) in
    rw (append_assoc, e)
    (word-behind (le32 w) (in_bytes ws ++ r) (k * 4) ∙ word-in_bytes ws r k (right (ltb w word_limit) (all (λ x. ltb x word_limit) ws) a) (omega arith))

word-there : (p ws r : List ℕ) (n k : ℕ) → length p ≡ n → AllBelow word_limit ws → k < length ws
    → word_at (p ++ (in_bytes ws ++ r)) (n + k * 4) ≡ get_or ws k 0
word-there p ws r n k e a h = rw (← e) (word-behind p (in_bytes ws ++ r) (k * 4) ∙ word-in_bytes ws r k a h)

words_there : (p ws r : List ℕ) (n : ℕ) → length p ≡ n → AllBelow word_limit ws → words_at (p ++ (in_bytes ws ++ r)) n (length ws) ≡ ws
words_there p ws r n e a =
    let s = p ++ (in_bytes ws ++ r) in
    let l = length_words s n (length ws) in
    ext_get_or 0 (words_at s n (length ws)) ws l
    (λ k h. get_d_words s n (length ws) k (omega arith) ∙ word-there p ws r n k e a (omega arith))

-- ---- the parts of a file, where a reader looks for them

prefix_front : (p s : List ℕ) → is_prefix_of p (p ++ s) ≡ true
unfolding is_prefix_of
prefix_front [] s = refl
prefix_front (a ∷ p) s = rw (eq-eqb a a refl) (prefix_front p s)

module _ (magic numbers ws bs : List ℕ) where
  magic_of_file : is_prefix_of magic (file_of magic numbers ws bs) ≡ true
  unfolding file_of
  magic_of_file = prefix_front magic (in_bytes numbers ++ (in_bytes ws ++ bs))

  module _ (m : length magic ≡ 8) where
    number_of_file : (i : ℕ) → AllBelow word_limit numbers → i < length numbers → word_at (file_of magic numbers ws bs) (8 + i * 4) ≡ get_or numbers i 0
    unfolding file_of
    number_of_file i a h = word-there magic numbers (in_bytes ws ++ bs) 8 i m a h

    words_of_file : AllBelow word_limit ws → words_at (file_of magic numbers ws bs) (8 + length numbers * 4) (length ws) ≡ ws
    unfolding file_of
    words_of_file a =
        let head = magic ++ in_bytes numbers in
        let l : length head ≡ 8 + length numbers * 4 = omega (arith, length-append magic (in_bytes numbers), length-in_bytes numbers) in
        rw (← append_assoc magic (in_bytes numbers) (in_bytes ws ++ bs)) (words_there head ws bs (8 + length numbers * 4) l a)

    bytes_of_file : drop (8 + length numbers * 4 + length ws * 4) (file_of magic numbers ws bs) ≡ bs
    unfolding file_of
    bytes_of_file =
        let front = (magic ++ in_bytes numbers) ++ in_bytes ws in
        let l : length front ≡ 8 + length numbers * 4 + length ws * 4 =
        omega (arith, length-append (magic ++ in_bytes numbers) (in_bytes ws), length-append magic (in_bytes numbers), length-in_bytes numbers, length-in_bytes ws) in
        rw (← append_assoc magic (in_bytes numbers) (in_bytes ws ++ bs), ← append_assoc (magic ++ in_bytes numbers) (in_bytes ws) bs)
        (drop_at front bs (8 + length numbers * 4 + length ws * 4) l)

-- ---- what is written is read back

-- the numbers of a file's head
abbrev head_of : List ℕ → List ℕ → List ℕ → List ℕ
head_of more ws bs = version ∷ length ws ∷ length bs ∷ more

module _ (k : Kind) (more ws bs words bytes : List ℕ) where
  read_back : length k.magic ≡ 8 → k.head ≡ 8 + length (head_of more ws bs) * 4 → AllBelow word_limit (head_of more ws bs) → AllBelow word_limit ws
      → length ws ≤ length words → length bs ≤ length bytes
      → read_file k (file_of k.magic (head_of more ws bs) ws bs) words bytes
      ≡ record { answer = Ok (record { words = length ws; bytes = length bs }); words = splice words 0 ws; bytes = splice bytes 0 bs }
  read_back m h a b hw hb =
      let file = file_of k.magic (head_of more ws bs) ws bs in
      let number = number_of_file k.magic (head_of more ws bs) ws bs m in
      let v : word_at file 8 ≡ 1 = number 0 a (omega arith) in
      let w : word_at file 12 ≡ length ws = number 1 a (omega arith) in
      let c : word_at file 16 ≡ length bs = number 2 a (omega arith) in
      let g = asked_of k file words bytes in
      let l : length file ≡ said_length g = omega (arith, length_file k.magic (head_of more ws bs) ws bs) in
      let sizes : Sizes = record { words = length ws; bytes = length bs } in
      let j = sound g (magic_of_file k.magic (head_of more ws bs) ws bs) v l (omega arith) (omega arith) in
      sym (read_whole k file words bytes sizes (omega arith) (rw (w, c) at j))
      ∙ rw (h, words_of_file k.magic (head_of more ws bs) ws bs m b, bytes_of_file k.magic (head_of more ws bs) ws bs m)

pub image_read_back : ImageReadBack
unfolding all
image_read_back ws pool words bytes a lw lp hw hp =
    read_back image_kind [] ws pool words bytes refl refl (simp (lt-ltb (length ws) word_limit lw, lt-ltb (length pool) word_limit lp)) a hw hp

pub shelf_read_back : ShelfReadBack
unfolding all
shelf_read_back files ws bs words bytes f a lw lb hw hb =
    let numbers = head_of (files ∷ []) ws bs in
    let file = shelf_file files ws bs in
    let sizes : Sizes = record { words = length ws; bytes = length bs } in
    let below : AllBelow word_limit numbers = simp (lt-ltb (length ws) word_limit lw, lt-ltb (length bs) word_limit lb, lt-ltb files word_limit f) in
    let count : word_at file 20 ≡ files = number_of_file shelf_kind.magic numbers ws bs refl 3 below (omega arith) in
    let e = read_back shelf_kind (files ∷ []) ws bs words bytes refl refl below a hw hb in
    sym (read_as_shelf file words bytes (splice words 0 ws) (splice bytes 0 bs) (Ok sizes) (Ok (record { words = length ws; bytes = length bs; files = files })) (sym e) (rw count))

-- ---- what is read was written so

-- the four bytes of a word that was read are those that it was read from
bytes_of-word : (s : List ℕ) (at : ℕ) → AllBelow byte_limit s → at + 4 ≤ length s → le32 (word_at s at) ≡ part at 4 s
unfolding word_at
bytes_of-word s at a h =
    let below : (i : ℕ) → i < length s → get_or s i 0 < byte_limit = λ i l. ltb-true (get_or s i 0) byte_limit (all_elim (λ x. ltb x byte_limit) s 0 a i l) in
    bytes_back (get_or s at 0) (get_or s (at + 1) 0) (get_or s (at + 2) 0) (get_or s (at + 3) 0)
    (below at (omega arith)) (below (at + 1) (omega arith)) (below (at + 2) (omega arith)) (below (at + 3) (omega arith))
    ∙ listed_row s at 3 0 h

bytes_of_words : (s : List ℕ) (at n : ℕ) → AllBelow byte_limit s → at + n * 4 ≤ length s → in_bytes (words_at s at n) ≡ part at (n * 4) s
unfolding words_at table concat_map
bytes_of_words s at zero a h = refl
bytes_of_words s at (suc n) a h =
    let f : ℕ → ℕ = λ k. word_at s (at + k * 4) in
    let e : suc n * 4 ≡ n * 4 + 4 = omega arith in
    concat-append le32 (table n f) (f n ∷ [])
    ∙ rw (append-nil, bytes_of-word s (at + n * 4) a (omega arith), e, take-add (n * 4) 4 (drop at s), drop-drop (n * 4) at s)
    (ap (λ (l : List ℕ). l ++ part (at + n * 4) 4 s) (bytes_of_words s at n a (omega arith)))

prefix_rest : (p s : List ℕ) → is_prefix_of p s ≡ true → p ++ drop (length p) s ≡ s
unfolding is_prefix_of
prefix_rest [] s h = refl
prefix_rest (a ∷ p) [] h = clash false h refl
prefix_rest (a ∷ p) (b ∷ s) h =
    rw (eqb-true a b (left (eqb a b) (is_prefix_of p s) h), prefix_rest p s (right (eqb a b) (is_prefix_of p s) h))

part_rest : (s : List ℕ) (at n : ℕ) → part at n s ++ drop (at + n) s ≡ drop at s
part_rest s at n = rw (← drop-drop n at s) (take-append-drop n (drop at s))

-- a file without fault, with n numbers in its head, is made of its parts
module _ (k : Kind) (n : ℕ) (file words bytes : List ℕ) (s : Sizes) where
  written_so : length k.magic ≡ 8 → k.head ≡ 8 + n * 4 → AllBelow byte_limit file → Sound (asked_of k file words bytes) s
      → file ≡ file_of k.magic (words_at file 8 n) (words_at file k.head s.words) (drop (k.head + s.words * 4) file)
  unfolding file_of
  written_so m h a c =
      let l : k.head + s.words * 4 ≤ length file = omega (arith, c.words, c.size) in
      sym (rw (bytes_of_words file 8 n a (omega arith), bytes_of_words file k.head s.words a l, part_rest file k.head (s.words * 4), h, part_rest file 8 (n * 4), ← m)
      (prefix_rest k.magic file c.magic))

-- the front of what is read, where so many words or bytes were written
front : (ws vs : List ℕ) (n : ℕ) → length vs ≡ n → take n (splice ws 0 vs) ≡ vs
front ws vs n e = rw zero-add at (take-splice_end ws 0 vs n (omega arith) e)

-- the words and the bytes that stand in a file that is read
module _ (k : Kind) (file words bytes : List ℕ) (s : Sizes) (h : 12 ≤ k.head) (e : (read_file k file words bytes).answer ≡ Ok s) where
  words_read : take s.words (read_file k file words bytes).words ≡ words_at file k.head s.words
  words_read =
      rw (← read_whole k file words bytes s h (read_verdict k file words bytes s h e))
      (front words (words_at file k.head s.words) s.words (length_words file k.head s.words))

  length_rest : length (drop (k.head + s.words * 4) file) ≡ s.bytes
  length_rest =
      let c = read_sound k file words bytes s h e in
      simp length-drop (omega (arith, c.size, c.words, c.bytes))

  bytes_read : take s.bytes (read_file k file words bytes).bytes ≡ drop (k.head + s.words * 4) file
  bytes_read =
      rw (← read_whole k file words bytes s h (read_verdict k file words bytes s h e))
      (front bytes (drop (k.head + s.words * 4) file) s.bytes length_rest)

  read_so : (n : ℕ) (more : List ℕ) → length k.magic ≡ 8 → k.head ≡ 8 + n * 4 → AllBelow byte_limit file
      → words_at file 8 n ≡ version ∷ s.words ∷ s.bytes ∷ more
      → let ws = take s.words (read_file k file words bytes).words in
      let bs = take s.bytes (read_file k file words bytes).bytes in
      file ≡ file_of k.magic (head_of more ws bs) ws bs
  read_so n more m q a p =
      rw (words_read, bytes_read, length_words file k.head s.words, length_rest, ← p)
      (written_so k n file words bytes s m q a (read_sound k file words bytes s h e))

pub image-written_so : ImageWrittenSo
unfolding words_at table
image-written_so file words pool s a e =
    let c = read_sound image_kind file words pool s (omega arith) e in
    read_so image_kind file words pool s (omega arith) e 3 [] refl refl a (rw (c.version, c.words, c.bytes))

pub shelf_written_so : ShelfWrittenSo
unfolding words_at table
shelf_written_so file words bytes s a e =
    let r = shelf_answer_lem file (read_file shelf_kind file words bytes).answer s e in
    let sizes : Sizes = record { words = s.words; bytes = s.bytes } in
    let c = read_sound shelf_kind file words bytes sizes (omega arith) r.0 in
    read_so shelf_kind file words bytes sizes (omega arith) r.0 4 (s.files ∷ []) refl refl a (rw (c.version, c.words, c.bytes, r.1))
