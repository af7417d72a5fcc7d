-- From the answer of a lookup to its two numbers. Assumes nothing.
use mathlib.Core.Path.{◌≡◌, ap, ◌∙◌}
use mathlib.Core.List.{List}
use Prim.Native.Nat.{ℕ}
use Rattle.link.specs.Lookup.{Looked, Naming, looked_number, looked_value}

-- the number and the value of an answer are those of what it is
pub told : {n v : ℕ} {l m : Looked} → record { value : n ≡ looked_number l; found_after : v ≡ looked_value l } → l ≡ m → record { value : n ≡ looked_number m; found_after : v ≡ looked_value m }
told h e = record { value = h.value ∙ ap looked_number e; found_after = h.found_after ∙ ap looked_value e }

-- the same where a name is written, too
pub told_name : {n v : ℕ} {l : Looked} {out : List ℕ} {m : Naming} → record { value : n ≡ looked_number l; found_after : v ≡ looked_value l } → record { answer = l; out = out } ≡ m
    → record { value : n ≡ looked_number m.answer; found_after : v ≡ looked_value m.answer; out_after : out ≡ m.out }
told_name h e =
    let a = ap (λ (x : Naming). x.answer) e in
    record { value = h.value ∙ ap looked_number a; found_after = h.found_after ∙ ap looked_value a; out_after = ap (λ (x : Naming). x.out) e }
