-- Names written to the front of a buffer, one joined with what was written before. Assumes nothing.
use mathlib.Core.Path.{◌≡◌, refl, sym, ap, ◌∙◌}
use mathlib.Core.List.{List, [], ◌∷◌, ◌++◌}
use Prim.Native.Nat.{ℕ, ◌+◌, ◌-◌, ◌≤◌, ◌<◌}
use native.Mathlib.Omega.{arith}
use lib.ListN.{length, take, drop, length-append}
use lib.Seq.{take_at, drop-append-add, drop-drop}
use Rattle.lists.specs.Splice.{fronted}
use Rattle.lists.proofs.SpliceLaws.{splice_front, fronted_fits, length-fronted}
use Rattle.names.specs.Answers.{front_answer}
use Rattle.names.specs.Package.{concat_paths}
use Rattle.std.specs.Prelude.{Option, unwrap_or}
use Rattle.names.proofs.PackageLaws.{front_fits}

pub concat_le : (l t : List ℕ) → 0 < length t → length l ≤ length (concat_paths l t)
unfolding concat_paths
concat_le [] t h = omega arith
concat_le (a ∷ l) [] h = absurd (omega arith)
concat_le (a ∷ l) (b ∷ t) h = omega (arith, length-append l (46 ∷ b ∷ t))

fronted_as : (d l : List ℕ) → length l ≤ length d → fronted d l ≡ l ++ drop (length l) d
fronted_as d l h = fronted_fits d l h ∙ splice_front d l

drop_past : (d l : List ℕ) (n : ℕ) → length l ≤ n → drop n (l ++ drop (length l) d) ≡ drop n d
drop_past d l n h =
    let k = n - length l in
    let e : n ≡ length l + k = omega arith in
    rw e (drop-append-add l (drop (length l) d) k ∙ drop-drop k (length l) d)

-- a longer text over a shorter one
fronted_over : (d l w : List ℕ) → length l ≤ length w → length w ≤ length d → fronted (fronted d l) w ≡ fronted d w
fronted_over d l w h room =
    fronted_as (fronted d l) w (rw (length-fronted d l) room)
    ∙ ap (λ (x : List ℕ). w ++ drop (length w) x) (fronted_as d l (omega arith))
    ∙ ap (λ (x : List ℕ). w ++ x) (drop_past d l (length w) h)
    ∙ sym (fronted_as d w room)

-- l was written to the front of d, which has room for l joined with t, and is then joined with t
module _ (d l t : List ℕ) (some : 0 < length t) (room : length (concat_paths l t) ≤ length d)
    {after : List ℕ} {answer : Option ℕ} {n : ℕ} (e : after ≡ fronted d l) (f : answer ≡ front_answer d l) (w : n ≡ unwrap_or answer 0)
  where
    fits : length l ≤ length d
    fits = omega (arith, concat_le l t some)

    count : n ≡ length l
    count = w ∙ rw (f, front_fits d l fits)

    front_is : concat_paths (take n after) t ≡ concat_paths l t
    front_is = rw (count, e, fronted_as d l fits, take_at l (drop (length l) d) (length l) refl)

    pub front_answer_lem : front_answer after (concat_paths (take n after) t) ≡ front_answer d (concat_paths l t)
    front_answer_lem =
        rw front_is
        (front_fits after (concat_paths l t) (rw (e, length-fronted d l) room) ∙ sym (front_fits d (concat_paths l t) room))

    pub front-written : fronted after (concat_paths (take n after) t) ≡ fronted d (concat_paths l t)
    front-written = rw (front_is, e) (fronted_over d l (concat_paths l t) (concat_le l t some) room)
