-- Laws of the refusal table: where a verdict comes from, and a loop over lines made in order. Assumes nothing.
use mathlib.Core.Path.{◌≡◌, refl, sym, ap, ◌∙◌}
use mathlib.Core.Bool.{true, false}
use mathlib.Core.List.{List, [], ◌∷◌, ◌++◌}
use Prim.Native.Nat.{ℕ, zero, suc, ◌+◌, ◌<◌}
use native.Mathlib.Numerals.{add-one}
use native.Mathlib.Omega.{arith}
use Rattle.lists.proofs.Cases.{by, clash, last}
use Rattle.std.specs.Prelude.{Result, Ok, Err}
use Rattle.std.specs.Result.{is_ok, is_err}
use Rattle.image.specs.Verdict.{Verdict, judged, Line, first, in_order}
use Rattle.image.specs.declared.verdict.Refused.{Refused}

-- one verdict, and where it passes the next
abbrev pub and_then : Verdict → Verdict → Verdict
and_then (Ok u) v = v
and_then (Err r) v = Err r

pub first_append : (ls ms : List Line) → first (ls ++ ms) ≡ and_then (first ls) (first ms)
unfolding first
first_append [] ms = refl
first_append (l ∷ ls) ms = by l.given (λ t. rw t) (λ t. rw t (first_append ls ms))

-- ---- a verdict and the answer where it passes

abbrev err_or : {A : Type 0} → Refused → Result A Refused → Refused
err_or d (Ok x) = d
err_or d (Err r) = r

abbrev ok_or : {A : Type 0} → A → Result A Refused → A
ok_or d (Ok x) = x
ok_or d (Err r) = d

pub judged_stop : {A : Type 0} (v : Verdict) (x : A) {r : Refused} → Err r ≡ judged v x → v ≡ Err r
judged_stop (Ok u) x {r} e = clash true refl (sym (ap is_ok e))
judged_stop (Err s) x {r} e = ap (λ (q : Refused). Err q) (sym (ap (err_or s) e))

pub judged_go : {A : Type 0} (v : Verdict) {x y : A} → Ok y ≡ judged v x → (v ≡ Ok tt) × (y ≡ x)
judged_go (Ok u) {x} {y} e = (refl, ap (ok_or y) e)
judged_go (Err s) {x} {y} e = clash true refl (ap is_ok e)

pub refused : (v : Verdict) → is_err v ≡ true → (r : Refused) × (v ≡ Err r)
refused (Ok u) h = clash false h refl
refused (Err r) h = (r, refl)

pub unrefused : (v : Verdict) → is_err v ≡ false → v ≡ Ok tt
unrefused (Ok u) h = refl
unrefused (Err r) h = clash true refl h

-- ---- a loop that stops at the first line given

pub order_start : (f : ℕ → List Line) → first (in_order 0 f) ≡ Ok tt
unfolding first in_order
order_start f = refl

pub order_more : (i : ℕ) (f : ℕ → List Line) → first (in_order i f) ≡ Ok tt → first (f i) ≡ Ok tt → first (in_order (i + 1) f) ≡ Ok tt
unfolding in_order
order_more i f p q = rw (add-one) (first_append (in_order i f) (f i) ∙ rw (p, q))

pub order_stop : (n : ℕ) (f : ℕ → List Line) (i : ℕ) (r : Refused) → i < n → first (in_order i f) ≡ Ok tt → first (f i) ≡ Err r → first (in_order n f) ≡ Err r
unfolding in_order
order_stop zero f i r l p q = absurd (omega arith)
order_stop (suc n) f i r l p q =
    last l
    (λ e. first_append (in_order n f) (f n) ∙ rw (← e, p, q))
    (λ m. first_append (in_order n f) (f n) ∙ rw (order_stop n f i r m p q))
