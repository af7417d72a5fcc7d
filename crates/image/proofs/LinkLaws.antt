-- Runs of link rows: what comes of the numbers from i on, one row behind the other, and how loops write them. Assumes nothing.
use mathlib.Core.Path.{◌≡◌, refl, sym, ap, ◌∙◌}
use mathlib.Core.List.{List, [], ◌++◌, append-nil}
use Prim.Native.Nat.{ℕ, zero, suc, ◌+◌, ◌*◌, ◌<◌, ◌≤◌}
use native.Mathlib.Nat.{add-zero, zero-add, zero-mul, suc-mul}
use native.Mathlib.Omega.{arith}
use lib.ListN.{length, get_or, length-append, get_or-append}
use lib.Seq.{get_or-append-add}
use Rattle.lists.specs.Lists.{span, concat_map}
use Rattle.lists.specs.Splice.{splice}
use Rattle.lists.proofs.SpanLaws.{span_add, concat-append}
use Rattle.lists.proofs.SpliceLaws.{splice_nil, splice-splice}
use Rattle.image.specs.Schema.{Schema}
use Rattle.image.specs.Links.{message_link, message_links}

-- the rows of n numbers from i on
abbrev pub run : (ℕ → List ℕ) → ℕ → ℕ → List ℕ
run f i n = concat_map f (span i n)

module _ (f : ℕ → List ℕ) where
  pub run_none : (i : ℕ) → run f i 0 ≡ []
  unfolding span concat_map
  run_none i = refl

  pub run_first : (i n : ℕ) → run f i (suc n) ≡ f i ++ run f (i + 1) n
  unfolding span concat_map
  run_first i n = refl

  pub run_add : (i a b : ℕ) → run f i (a + b) ≡ run f i a ++ run f (i + a) b
  run_add i a b = ap (concat_map f) (span_add i a b) ∙ concat-append f (span i a) (span (i + a) b)

  -- one more
  pub run_next : (i n : ℕ) → run f i (n + 1) ≡ run f i n ++ f (i + n)
  unfolding span concat_map
  run_next i n = run_add i n 1 ∙ ap (λ (l : List ℕ). run f i n ++ l) (append-nil (f (i + n)))

  -- rows of one width
  module _ (w : ℕ) (wide : (x : ℕ) → length (f x) ≡ w) where
    pub run_length : (i n : ℕ) → length (run f i n) ≡ n * w
    run_length i zero = rw (run_none i) (sym (zero-mul w))
    run_length i (suc n) =
        ap length (run_first i n)
        ∙ omega (arith, length-append (f i) (run f (i + 1) n), wide i, run_length (i + 1) n, suc-mul n w)

    -- word k of row j
    pub run_word : (i n j k : ℕ) → j < n → k < w → get_or (run f i n) (j * w + k) 0 ≡ get_or (f (i + j)) k 0
    run_word i zero j k h hk = absurd (omega arith)
    run_word i (suc n) zero k h hk =
        let e : zero * w + k ≡ k = rw zero-mul (zero-add k) in
        ap (λ (l : List ℕ). get_or l (zero * w + k) 0) (run_first i n)
        ∙ ap (λ (x : ℕ). get_or (f i ++ run f (i + 1) n) x 0) e
        ∙ get_or-append (f i) (run f (i + 1) n) 0 k (omega (arith, wide i))
        ∙ ap (λ (x : ℕ). get_or (f x) k 0) (sym (add-zero i))
    run_word i (suc n) (suc j) k h hk =
        let e : suc j * w + k ≡ length (f i) + (j * w + k) = omega (arith, wide i, suc-mul j w) in
        let s : i + 1 + j ≡ i + suc j = omega arith in
        ap (λ (l : List ℕ). get_or l (suc j * w + k) 0) (run_first i n)
        ∙ ap (λ (x : ℕ). get_or (f i ++ run f (i + 1) n) x 0) e
        ∙ get_or-append-add (f i) (run f (i + 1) n) (j * w + k) 0
        ∙ run_word (i + 1) n j k (omega arith) hk
        ∙ ap (λ (x : ℕ). get_or (f x) k 0) s

    -- a row is written behind a run of n
    pub run_put : (o₀ : List ℕ) {o o₁ : List ℕ} (at i n : ℕ) → at + (n * w + w) ≤ length o₀ → o ≡ splice o₀ at (run f i n)
        → o₁ ≡ splice o (at + n * w) (f (i + n)) → o₁ ≡ splice o₀ at (run f i (n + 1))
    run_put o₀ {o} {o₁} at i n h p q =
        q
        ∙ ap (λ (l : List ℕ). splice l (at + n * w) (f (i + n))) p
        ∙ splice-splice o₀ at (run f i n) (f (i + n)) (n * w) (run_length i n) (omega (arith, wide (i + n)))
        ∙ ap (splice o₀ at) (sym (run_next i n))

pub message_links-length : (g : Schema) (i n : ℕ) → length (message_links g i n) ≡ n * 10
message_links-length g = run_length (message_link g) 10 (λ m. refl)

-- ---- parts of different lengths, one for each number below n. `words m` is where that of m stands

abbrev pub Parts : (ℕ → List ℕ) → (ℕ → ℕ) → ℕ → Type 0
Parts part words n = (m : ℕ) → m < n → words (m + 1) ≡ words m + length (part m)

-- the parts below m are written, and `at` is where the next one goes
pub record Writing (part : ℕ → List ℕ) (words : ℕ → ℕ) (n : ℕ) (o₀ : List ℕ) (m at : ℕ) (o : List ℕ) : Type 0 where
  pub below : m ≤ n
  pub place : at ≡ words m
  pub len : length o ≡ length o₀
  pub done : o ≡ splice o₀ (words 0) (run part 0 m)

module _ (part : ℕ → List ℕ) (words : ℕ → ℕ) (n : ℕ) (parts : Parts part words n) where
  part_next : (m : ℕ) → run part 0 (m + 1) ≡ run part 0 m ++ part m
  part_next m = run_next part 0 m ∙ ap (λ (k : ℕ). run part 0 m ++ part k) (zero-add m)

  pub parts_length : (m : ℕ) → m ≤ n → words 0 + length (run part 0 m) ≡ words m
  parts_length zero h = rw (run_none part 0) (add-zero (words 0))
  parts_length (suc m) h =
      let e : suc m ≡ m + 1 = omega arith in
      rw (e, part_next m) (omega (arith, length-append (run part 0 m) (part m), parts_length m (omega arith), parts m (omega arith)))

  module _ (o₀ : List ℕ) where
    pub writing_start : {at : ℕ} → at ≡ words 0 → Writing part words n o₀ 0 at o₀
    writing_start p =
        record {
          below = omega arith;
          place = p;
          len = refl;
          done = sym (ap (splice o₀ (words 0)) (run_none part 0) ∙ splice_nil o₀ (words 0));
        }

    pub writing_next : {m at at₁ : ℕ} {o o₁ : List ℕ} → Writing part words n o₀ m at o → m < n → words (m + 1) ≤ length o₀ → at₁ ≡ words (m + 1)
        → length o₁ ≡ length o → o₁ ≡ splice o at (part m) → Writing part words n o₀ (m + 1) at₁ o₁
    writing_next {m} {at} {at₁} {o} {o₁} w l fits p len q =
        let x = run part 0 m in
        let e = parts_length m w.below in
        record {
          below = omega arith;
          place = p;
          len = len ∙ w.len;
          done =
              q
              ∙ ap (λ (k : ℕ). splice o k (part m)) (w.place ∙ sym e)
              ∙ ap (λ (y : List ℕ). splice y (words 0 + length x) (part m)) w.done
              ∙ splice-splice o₀ (words 0) x (part m) (length x) refl (omega (arith, parts m l))
              ∙ ap (splice o₀ (words 0)) (sym (part_next m));
        }

    pub writing_end : {m at : ℕ} {o : List ℕ} → Writing part words n o₀ m at o → n ≤ m → o ≡ splice o₀ (words 0) (run part 0 n)
    writing_end {m} w h = let e : m ≡ n = omega (arith, w.below) in rw e at w.done
