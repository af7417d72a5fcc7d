-- How a file is judged, fault by fault; what is known of one without fault; and the whole outcome of reading. Assumes nothing.
use mathlib.Core.Path.{◌≡◌, refl, sym, ap, ◌∙◌}
use mathlib.Core.Bool.{true, false}
use mathlib.Core.List.{List}
use Prim.Native.Nat.{ℕ, ◌+◌, ◌*◌, ◌≤◌, ◌<◌}
use native.Mathlib.Omega.{arith}
use lib.ListN.{length, drop}
use borrow.Author.Tests.{le-leb, lt-leb, lt-ltb, le-ltb, eq-eqb, ne_eqb}
use Rattle.std.specs.Prelude.{Result, Ok, Err}
use Rattle.lists.specs.Lists.{is_prefix_of}
use Rattle.lists.specs.Splice.{splice}
use Rattle.lists.proofs.Cases.{by, order, equal, and-false, or-true}
use Rattle.formats.specs.Words.{words_at}
use Rattle.formats.specs.Files.{Kind, shelf_kind}
use Rattle.formats.specs.Reading.{version_of, word_count, byte_count, file_count, first_fault, judged, filled, read_file, shelf_answer, read_shelf}
use Rattle.formats.specs.declared.file.Sizes.{Sizes}
use Rattle.formats.specs.declared.file.Fault.{Fault}
use Rattle.formats.specs.declared.file.Fault.TheVariants.{Foreign, OtherVersion, Damaged, TooLong}
use Rattle.formats.specs.declared.shelf_file.ShelfSizes.{ShelfSizes}

-- a file to be judged, with the room for its words and bytes
pub record Asked : Type 0 where
  pub kind : Kind
  pub file : List ℕ
  pub word_room : ℕ
  pub byte_room : ℕ

abbrev pub verdict : Asked → Result Sizes Fault
verdict g = judged g.kind g.file g.word_room g.byte_room

-- how long a file says that it is
abbrev pub said_length : Asked → ℕ
said_length g = g.kind.head + word_count g.file * 4 + byte_count g.file

-- ---- each fault, and none

module _ (g : Asked) where
  pub foreign : is_prefix_of g.kind.magic g.file ≡ false → verdict g ≡ Err Foreign
  unfolding judged first_fault
  foreign m = simp m

  module _ (m : is_prefix_of g.kind.magic g.file ≡ true) where
    pub other_version : 12 ≤ length g.file → (version_of g.file ≡ 1 → ⊥) → verdict g ≡ Err OtherVersion
    unfolding judged first_fault
    other_version l n = simp (m, le-leb 12 (length g.file) l, ne_eqb (version_of g.file) 1 n)

    pub short : length g.file < 12 → (length g.file ≡ said_length g → ⊥) → verdict g ≡ Err Damaged
    unfolding judged first_fault
    short l n = simp (m, lt-leb 12 (length g.file) l, ne_eqb (length g.file) (said_length g) n)

    module _ (v : version_of g.file ≡ 1) where
      pub damaged : (length g.file ≡ said_length g → ⊥) → verdict g ≡ Err Damaged
      unfolding judged first_fault
      damaged n = simp (m, eq-eqb (version_of g.file) 1 v, and-false, ne_eqb (length g.file) (said_length g) n)

      module _ (l : length g.file ≡ said_length g) where
        pub many_words : g.word_room < word_count g.file → verdict g ≡ Err TooLong
        unfolding judged first_fault
        many_words h =
            simp (m, eq-eqb (version_of g.file) 1 v, and-false, eq-eqb (length g.file) (said_length g) l, lt-ltb g.word_room (word_count g.file) h)

        pub many_bytes : g.byte_room < byte_count g.file → verdict g ≡ Err TooLong
        unfolding judged first_fault
        many_bytes h =
            simp (m, eq-eqb (version_of g.file) 1 v, and-false, eq-eqb (length g.file) (said_length g) l, lt-ltb g.byte_room (byte_count g.file) h, or-true)

        pub sound : word_count g.file ≤ g.word_room → byte_count g.file ≤ g.byte_room
            → verdict g ≡ Ok (record { words = word_count g.file; bytes = byte_count g.file })
        unfolding judged first_fault
        sound hw hb =
            simp (m, eq-eqb (version_of g.file) 1 v, and-false, eq-eqb (length g.file) (said_length g) l, le-ltb g.word_room (word_count g.file) hw, le-ltb g.byte_room (byte_count g.file) hb)

-- ---- what is known of a file without fault

pub record Sound (g : Asked) (s : Sizes) : Type 0 where
  pub magic : is_prefix_of g.kind.magic g.file ≡ true
  pub version : version_of g.file ≡ 1
  pub size : length g.file ≡ said_length g
  pub words : s.words ≡ word_count g.file
  pub bytes : s.bytes ≡ byte_count g.file
  pub words_fit : s.words ≤ g.word_room
  pub bytes_fit : s.bytes ≤ g.byte_room

pub whole-sound : (g : Asked) (s : Sizes) → 12 ≤ g.kind.head → verdict g ≡ Ok s → Sound g s
whole-sound g s h e =
    by (is_prefix_of g.kind.magic g.file)
    (λ m. order (length g.file) 12
    (λ l. absurd (cc (short g m l (λ q. omega arith))))
    (λ l. equal (version_of g.file) 1
    (λ v. equal (length g.file) (said_length g)
    (λ q. order g.word_room (word_count g.file)
    (λ w. absurd (cc (many_words g m v q w)))
    (λ w. order g.byte_room (byte_count g.file)
    (λ b. absurd (cc (many_bytes g m v q b)))
    (λ b. let z = sym e ∙ sound g m v q w b in
    let sw : s.words ≡ word_count g.file = cc in
    let sb : s.bytes ≡ byte_count g.file = cc in
    record { magic = m; version = v; size = q; words = sw; bytes = sb; words_fit = omega arith; bytes_fit = omega arith })))
    (λ n. absurd (cc (damaged g m v n))))
    (λ n. absurd (cc (other_version g m l n)))))
    (λ m. absurd (cc (foreign g m)))

-- ---- the whole outcome of reading

abbrev pub asked_of : Kind → List ℕ → List ℕ → List ℕ → Asked
asked_of k file words bytes = record { kind = k; file = file; word_room = length words; byte_room = length bytes }

filled-answer : (k : Kind) (file words bytes : List ℕ) (r : Result Sizes Fault) → (filled k file words bytes r).answer ≡ r
unfolding filled
filled-answer k file words bytes (Err f) = refl
filled-answer k file words bytes (Ok s) = refl

module _ (k : Kind) (file words bytes : List ℕ) where
  pub read_unread : (f : Fault) → verdict (asked_of k file words bytes) ≡ Err f
      → record { answer = Err f; words = words; bytes = bytes } ≡ read_file k file words bytes
  unfolding read_file filled
  read_unread f e = rw e

  module _ (s : Sizes) (h : 12 ≤ k.head) where
    pub read_whole : verdict (asked_of k file words bytes) ≡ Ok s
        → record {
          answer = Ok s;
          words = splice words 0 (words_at file k.head s.words);
          bytes = splice bytes 0 (drop (k.head + s.words * 4) file);
        } ≡ read_file k file words bytes
    unfolding read_file filled
    read_whole e = rw (e, (whole-sound (asked_of k file words bytes) s h e).words)

    module _ (e : (read_file k file words bytes).answer ≡ Ok s) where
      pub read_verdict : verdict (asked_of k file words bytes) ≡ Ok s
      unfolding read_file
      read_verdict = sym (filled-answer k file words bytes (verdict (asked_of k file words bytes))) ∙ e

      pub read_sound : Sound (asked_of k file words bytes) s
      read_sound = whole-sound (asked_of k file words bytes) s h read_verdict

-- ---- a shelf file is read as any, but for its answer

pub read_as_shelf : (file words bytes w b : List ℕ) (r : Result Sizes Fault) (a : Result ShelfSizes Fault)
    → record { answer = r; words = w; bytes = b } ≡ read_file shelf_kind file words bytes → a ≡ shelf_answer file r
    → record { answer = a; words = w; bytes = b } ≡ read_shelf file words bytes
read_as_shelf file words bytes w b r a e p = rw (← e, p)

-- the answer that one for a shelf comes of
pub shelf_answer_lem : (file : List ℕ) (r : Result Sizes Fault) (s : ShelfSizes) → shelf_answer file r ≡ Ok s
    → (r ≡ Ok (record { words = s.words; bytes = s.bytes })) × (s.files ≡ file_count file)
shelf_answer_lem file (Err f) s e = absurd (cc)
shelf_answer_lem file (Ok z) s e =
    let q : record { words = z.words; bytes = z.bytes; files = file_count file } ≡ s = cc in
    let w : s.words ≡ z.words = ap (λ (x : ShelfSizes). x.words) (sym q) in
    let b : s.bytes ≡ z.bytes = ap (λ (x : ShelfSizes). x.bytes) (sym q) in
    (rw (w, b), ap (λ (x : ShelfSizes). x.files) (sym q))

-- ---- for callers: what is read stands within the lent slices
