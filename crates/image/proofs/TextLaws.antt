-- Laws of texts, and of parts of lists. Assumes nothing.
use Prim.Native.Nat.{ℕ, ◌-◌, ◌≤◌}
use native.Mathlib.Omega.{arith}
use mathlib.Core.Path.{◌≡◌, refl, sym, ap, ◌∙◌}
use mathlib.Core.List.{List, [], ◌∷◌}
use mathlib.Core.Bool.{false}
use Rattle.std.specs.Bool.{◌==◌}
use borrow.Author.Tests.{ne_eqb, leb-false}
use lib.ListN.{length, take, drop, length-drop}
use lib.Seq.{take_all}
use Rattle.lists.specs.Lists.{is_empty, same, part}
use lib.Dec.{eqb, leb}
use Rattle.std.specs.List as std
pub use Rattle.lists.proofs.StdLaws.{same_pointwise}
use Rattle.image.specs.MapEntry.{ends_with}
use Rattle.lists.proofs.Cases.{by, clash}
use Rattle.lists.proofs.ListLaws.{same_refl, same_is, same_differ}

-- ---- parts of a list, as they are cut out: nothing, all from a place on, or what stands between two places

module _ {A : Type 0} (l : List A) (k n : ℕ) where
  pub part_rest : length l - k ≤ n → take (length l - k) (drop k l) ≡ part k n l
  part_rest h = rw (take_all (length l - k) (drop k l) (rw length-drop (omega arith)), take_all n (drop k l) (rw length-drop h))

pub empty_some : (l : List ℕ) → (length l ≡ 0 → ⊥) → is_empty l ≡ false
unfolding is_empty
empty_some [] h = absurd (h refl)
empty_some (x ∷ l) h = refl

-- `l.is_empty()`
pub length_empty : (l : List ℕ) → (length l == 0) ≡ is_empty l
unfolding is_empty
length_empty [] = refl
length_empty (x ∷ l) = ne_eqb (length (x ∷ l)) 0 (λ e. absurd (omega arith))

pub same_comm : (s t : List ℕ) → same s t ≡ same t s
same_comm s t = by (same s t) (λ e. rw (same_is s t e)) (λ e. e ∙ sym (same_differ t s (λ q. clash (same s t) (rw q (same_refl s)) e)))

-- `s.ends_with(t)`
pub suffix_ends : (s t : List ℕ) → std.ends_with eqb s t ≡ ends_with s t
suffix_ends s t =
    let d = drop (length s - length t) s in
    by (leb (length t) (length s))
    (λ e. rw e (same_pointwise t d ∙ same_comm t d))
    (λ e. rw e (same_pointwise t d ∙ same_differ t d (λ q. let n : length d ≡ length s - (length s - length t) = rw length-drop in absurd (omega (arith, leb-false (length t) (length s) e, ap length q, n)))))
