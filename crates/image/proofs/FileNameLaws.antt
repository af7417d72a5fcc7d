-- Files at places: one more of them, and which has a name. Assumes nothing.
use mathlib.Core.Path.{◌≡◌, refl, sym, ap, ◌∙◌}
use mathlib.Core.Bool.{Bool}
use mathlib.Core.List.{List, [], ◌∷◌, ◌++◌}
use Prim.Native.Nat.{ℕ, ◌+◌}
use native.Mathlib.Numerals.{add-one}
use lib.ListN.{get_or}
use Rattle.lists.specs.Below.{found_below}
use Rattle.lists.specs.Lists.{same, table}
use Rattle.lists.proofs.BelowLaws.{first_agree}
use Rattle.lists.proofs.TableLaws.{length_table, get_or_table}
use Rattle.image.specs.Schema.{schema_in}
use Rattle.image.specs.declared.rows.Sections.{Sections}
use Rattle.image.specs.Record.{File, no_file, says}
use Rattle.image.specs.Shelf.{file_named}
use Rattle.image.specs.Places.{file_in, files_in}
use Rattle.image.specs.declared.shelf.Places.{Places}
use Rattle.image.proofs.SearchLaws.{first_in}

pub imports_in : (image : List ℕ) (s : Sections) (pool : List ℕ) → s.imports.count ≡ (schema_in image s pool).imports
unfolding schema_in
imports_in image s pool = refl

pub files_more : (ws bs : List ℕ) (p : Places) (f : ℕ) → files_in ws bs p (f + 1) ≡ files_in ws bs p f ++ (file_in ws bs p f ∷ [])
unfolding table
files_more ws bs p f = rw (add-one)

module _ (ws bs : List ℕ) (p : Places) (n : ℕ) (name : List ℕ) where
  -- file f has the name
  abbrev pub named : ℕ → Bool
  named f = same (says (file_in ws bs p f)).file_name name

  abbrev listed : ℕ → Bool
  listed f = same (says (get_or (files_in ws bs p n) f no_file)).file_name name

  pub named_first : first_in n named ≡ file_named (files_in ws bs p n) name
  unfolding file_named
  named_first =
      ap (found_below n) (first_agree n named listed n (λ f h. sym (ap (λ (x : File). same (says x).file_name name) (get_or_table n (file_in ws bs p) f no_file h))))
      ∙ rw (length_table n (file_in ws bs p))
