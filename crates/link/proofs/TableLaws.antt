-- Laws of the table: its groups one after the other, a phase that stopped or passed, and when a line is the one that decides. Assumes nothing.
use mathlib.Core.Path.{◌≡◌, refl, sym, ap, ◌∙◌}
use mathlib.Core.Logic.{inl, inr}
use mathlib.Core.Bool.{true}
use mathlib.Core.List.{List, [], ◌∷◌, ◌++◌}
use Prim.Native.Nat.{ℕ}
use lib.Dec.{leb}
use borrow.Author.Tests.{not-false}
use Rattle.std.specs.Prelude.{Ok, Err}
use Rattle.lists.specs.Below.{all_of}
use Rattle.lists.proofs.Cases.{by, either, Each, each}
use Rattle.image.specs.Links.{links_of}
use Rattle.image.specs.Shelf.{file_limit, well_formed}
use Rattle.image.specs.Verdict.{Verdict, Line, first, stopped}
use Rattle.image.specs.Judge.{opening_lines, naming_lines}
use Rattle.image.specs.declared.verdict.Refusal.{Refusal}
use Rattle.image.proofs.VerdictLaws.{and_then, first_append}
use Rattle.link.specs.Search.{searched}
use Rattle.link.specs.Given.{Given, NoneGiven}
use Rattle.link.specs.Refusals.{Call, said, shelved_files, seen, length_tests, room_tests, length_lines, shelf_lines, name_lines, import_lines, all_field_lines, room_lines, table}
use Rattle.link.proofs.JudgedLaws.{ok_not, not_passed, same_refusal}

-- ---- phases

-- two phases pass together only if each does
pub pass_both : (x y : Verdict) → and_then x y ≡ Ok tt → (x ≡ Ok tt) × (y ≡ Ok tt)
pass_both (Ok u) y h = (refl, h)
pass_both (Err r) y h = not_passed r h

-- ---- the table, group by group: the only place where it is opened as a whole

abbrev pub opening_group : Call → List Line
opening_group c = opening_lines c.image c.pool (leb file_limit c.used.files)

abbrev pub name_group : Call → List Line
name_group c = name_lines (shelved_files c) (said c)

abbrev pub import_group : Call → List Line
import_group c = import_lines (shelved_files c) (said c)

abbrev pub naming_group : Call → List Line
naming_group c = naming_lines (said c) (links_of (said c))

abbrev pub field_group : Call → List Line
field_group c = all_field_lines (seen c) (searched (seen c))

pub phased : (c : Call) →
    first (table c)
    ≡ and_then (first (length_lines c)) (and_then (first (shelf_lines c)) (and_then (first (opening_group c)) (and_then (first (name_group c)) (and_then (first (import_group c)) (and_then (first (naming_group c)) (and_then (first (field_group c)) (first (room_lines c))))))))
unfolding table
phased c =
    let behind-naming = field_group c ++ room_lines c in
    let behind-imports = naming_group c ++ behind-naming in
    let behind-name = import_group c ++ behind-imports in
    let behind-opening = name_group c ++ behind-name in
    let behind-shelf = opening_group c ++ behind-opening in
    first_append (length_lines c) (shelf_lines c ++ behind-shelf)
    ∙ ap (and_then (first (length_lines c))) (first_append (shelf_lines c) behind-shelf
    ∙ ap (and_then (first (shelf_lines c))) (first_append (opening_group c) behind-opening
    ∙ ap (and_then (first (opening_group c))) (first_append (name_group c) behind-name
    ∙ ap (and_then (first (name_group c))) (first_append (import_group c) behind-imports
    ∙ ap (and_then (first (import_group c))) (first_append (naming_group c) behind-naming
    ∙ ap (and_then (first (naming_group c))) (first_append (field_group c) (room_lines c)))))))

-- each group of a table that passes
pub record AllPassed (c : Call) : Type 0 where
  pub lengths : first (length_lines c) ≡ Ok tt
  pub shelf : first (shelf_lines c) ≡ Ok tt
  pub opening : first (opening_group c) ≡ Ok tt
  pub name : first (name_group c) ≡ Ok tt
  pub imports : first (import_group c) ≡ Ok tt
  pub naming : first (naming_group c) ≡ Ok tt
  pub fields : first (field_group c) ≡ Ok tt
  pub room : first (room_lines c) ≡ Ok tt

pub all_passed : (c : Call) → first (table c) ≡ Ok tt → AllPassed c
all_passed c h =
    let l = pass_both (first (length_lines c)) _ (sym (phased c) ∙ h) in
    let s = pass_both (first (shelf_lines c)) _ l.1 in
    let o = pass_both (first (opening_group c)) _ s.1 in
    let n = pass_both (first (name_group c)) _ o.1 in
    let i = pass_both (first (import_group c)) _ n.1 in
    let m = pass_both (first (naming_group c)) _ i.1 in
    let f = pass_both (first (field_group c)) _ m.1 in
    record { lengths = l.0; shelf = s.0; opening = o.0; name = n.0; imports = i.0; naming = m.0; fields = f.0; room = f.1 }

-- ---- exactly if, over any list of lines

pub none_given : (ls : List Line) → first ls ≡ Ok tt → NoneGiven ls
unfolding first
none_given [] h = tt
none_given (l ∷ ls) h = by l.given (λ t. not_passed _ (simp t at h)) (λ t. (t, none_given ls (simp t at h)))

pub given_none : (ls : List Line) → NoneGiven ls → first ls ≡ Ok tt
unfolding first
given_none [] h = refl
given_none (l ∷ ls) h = simp h.0 (given_none ls h.1)

pub first_given : (ls : List Line) (r : Refusal) (p : ℕ) → first ls ≡ stopped r p → Given ls r p
unfolding first
first_given [] r p h = ok_not h
first_given (l ∷ ls) r p h =
    by l.given
    (λ t. let e = same_refusal (simp t at h) in inl (t, e.0, e.1))
    (λ t. inr (t, first_given ls r p (simp t at h)))

pub given_first : (ls : List Line) (r : Refusal) (p : ℕ) → Given ls r p → first ls ≡ stopped r p
unfolding first
given_first [] r p h = absurd h
given_first (l ∷ ls) r p h = either h (λ g. simp (g.0, g.1, g.2)) (λ g. simp g.0 (given_first ls r p g.1))

-- ---- what three of the groups show where they pass

pub lengths_pass : (c : Call) → first (length_lines c) ≡ Ok tt → Each (length_tests c)
unfolding length_lines
lengths_pass c h = each (length_tests c) (not-false (all_of (length_tests c)) (none_given (length_lines c) h).0)

pub shelf_pass : (c : Call) → first (shelf_lines c) ≡ Ok tt → well_formed c.words c.bytes c.used ≡ true
unfolding shelf_lines
shelf_pass c h = not-false (well_formed c.words c.bytes c.used) (none_given (shelf_lines c) h).0

pub room_pass : (c : Call) → first (room_lines c) ≡ Ok tt → Each (room_tests c)
unfolding room_lines
room_pass c h = each (room_tests c) (not-false (all_of (room_tests c)) (none_given (room_lines c) h).0)
