-- Steps that answer a refusal, or else what they are for: what such an answer says of its verdict, and two steps one after the other. Assumes nothing.
use mathlib.Core.Path.{◌≡◌, refl, sym, ap, ◌∙◌}
use mathlib.Core.List.{List, ◌++◌}
use Prim.Native.Nat.{ℕ}
use Rattle.std.specs.Prelude.{Result, Ok, Err}
use Rattle.image.specs.Verdict.{Verdict, Line, stopped, first, judged}
use Rattle.image.specs.declared.verdict.Refusal.{Refusal}
use Rattle.image.specs.declared.verdict.Refused.{Refused}
use Rattle.image.proofs.VerdictLaws.{first_append}

-- no answer is both
pub ok_not : {A C : Type 0} {a : A} {r : Refused} → ◌≡◌ {A = Result A Refused} (Ok a) (Err r) → C
ok_not e = cc

-- nor is a refusal none
pub not_passed : {A C : Type 0} (r : Refused) {a : A} → ◌≡◌ {A = Result A Refused} (Err r) (Ok a) → C
not_passed r e = ok_not (sym e)

pub judged_passed : {A : Type 0} (v : Verdict) (x : A) {y : A} → judged v x ≡ Ok y → v ≡ Ok tt
judged_passed (Ok u) x h = refl
judged_passed (Err r) x h = not_passed r h

pub judged_value : {A : Type 0} (v : Verdict) (x : A) {y : A} → judged v x ≡ Ok y → x ≡ y
judged_value (Ok u) x h = cc
judged_value (Err r) x h = not_passed r h

pub judged_stopped : {A : Type 0} (v : Verdict) (x : A) {r : Refused} → judged v x ≡ Err r → v ≡ Err r
judged_stopped (Ok u) x h = ok_not h
judged_stopped (Err r) x h = cc

-- the refusal and the place of a verdict
abbrev told : Refused → Verdict → Refused
told d (Ok u) = d
told d (Err r) = r

pub same_refusal : {r q : Refusal} {p k : ℕ} → stopped r p ≡ stopped q k → (r ≡ q) × (p ≡ k)
same_refusal {r} {q} {p} {k} e =
    let t = ap (told (record { refusal = r; place = p })) e in
    (ap (λ (x : Refused). x.refusal) t, ap (λ (x : Refused). x.place) t)

-- ---- lines of which the first ones stop, or pass

pub first_stops : (ls ms : List Line) (r : Refused) → first ls ≡ Err r → first (ls ++ ms) ≡ Err r
first_stops ls ms r e = first_append ls ms ∙ rw e

pub first_passes : (ls ms : List Line) → first ls ≡ Ok tt → first (ls ++ ms) ≡ first ms
first_passes ls ms e = first_append ls ms ∙ rw e

-- a step for the first lines: its refusal is that of all, and where it passes the others decide
module _ {A : Type 0} (ls ms : List Line) (x : A) {v : Result A Refused} (h : v ≡ judged (first ls) x) where
  pub step_stops : {B : Type 0} (y : B) {r : Refused} → v ≡ Err r → Err r ≡ judged (first (ls ++ ms)) y
  step_stops y {r} e = rw (first_stops ls ms r (judged_stopped (first ls) x (sym h ∙ e)))

  pub step_passes : {a : A} → v ≡ Ok a → first (ls ++ ms) ≡ first ms
  step_passes e = first_passes ls ms (judged_passed (first ls) x (sym h ∙ e))

  pub step_value : {a : A} → v ≡ Ok a → a ≡ x
  step_value e = sym (judged_value (first ls) x (sym h ∙ e))
