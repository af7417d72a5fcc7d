-- What a name or a type leads to exists: the index lies below the rows of that kind in the file that the file word names. Assumes nothing.
use mathlib.Core.Path.{◌≡◌, ap, subst, ◌∙◌}
use mathlib.Core.Bool.{Bool, true, false}
use mathlib.Core.List.{List, [], ◌∷◌}
use Prim.Native.Nat.{ℕ, ◌+◌, ◌<◌}
use native.Mathlib.Numerals.{add-one}
use lib.Dec.{ltb, eqb}
use lib.ListN.{get_or}
use borrow.Author.Tests.{ltb-true, lt-ltb}
use Rattle.std.specs.Prelude.{Option, Some, None}
use Rattle.lists.specs.Below.{first_below}
use Rattle.lists.proofs.Cases.{by}
use Rattle.names.specs.Package.{lies_beneath, rest_beneath}
use Rattle.image.specs.Schema.{Schema}
use Rattle.image.specs.Record.{File, no_file, says}
use Rattle.image.specs.Lookup.{first_flat, message_by_path, enum_by_path}
use Rattle.image.specs.LinkTests.{file_by, message_exists, enum_exists, target_fits}
use Rattle.image.specs.declared.rows.Flat.{Flat}
use Rattle.link.specs.Sight.{Sight, in_sight}
use Rattle.link.specs.Lookup.{count_of}
use Rattle.link.specs.Resolve.{by_path, item_in, found_or, first_in, order, target, is_message_type, type_target}
use Rattle.link.specs.declared.building.Wanted.{Wanted}
use Rattle.link.specs.declared.building.Wanted.TheVariants.{Message, Enum}
use Rattle.link.specs.declared.building.Target.{Target}

-- ---- in one file

-- what was found is below n
abbrev pub FlatBelow : ℕ → Option Flat → Type 0
FlatBelow n (Some m) = m.0 < n
FlatBelow n None = Unit

flat_below : (n : ℕ) (p : ℕ → Bool) → FlatBelow n (first_flat n p)
unfolding first_flat
flat_below n p = by (ltb (first_below n p n) n) (λ t. rw t (ltb-true (first_below n p n) n t)) (λ t. rw t tt)

path_below : (wanted : Wanted) (g : Schema) (links path : List ℕ) → FlatBelow (count_of wanted g) (by_path wanted g links path)
unfolding message_by_path enum_by_path
path_below Message g links path = flat_below g.messages _
path_below Enum g links path = flat_below g.enums _

-- what is found in a file is one of its rows
pub item_below : (wanted : Wanted) (file : File) (name : List ℕ) → FlatBelow (count_of wanted (says file)) (item_in wanted file name)
unfolding item_in
item_below wanted file name =
    by (lies_beneath name (says file).«package»)
    (λ t. rw t (path_below wanted (says file) file.links (rest_beneath name (says file).«package»)))
    (λ t. rw t tt)

-- so, of what was found
found_below_lem : (n : ℕ) (x : Option Flat) (m : Flat) → FlatBelow n x → x ≡ Some m → m.0 < n
found_below_lem n x m b e = subst (FlatBelow n) e b

pub message_below : (file : File) (name : List ℕ) (m : Flat) → item_in Message file name ≡ Some m → m.0 < (says file).messages
message_below file name m e = found_below_lem (says file).messages (item_in Message file name) m (item_below Message file name) e

-- ---- in files, one after the other

-- the target exists among the files, if there is one
abbrev pub Existing : Wanted → List File → Option Target → Type 0
Existing wanted files (Some t) = ltb t.index (count_of wanted (says (file_by files t.file))) ≡ true
Existing wanted files None = Unit

by_number : (files : List File) (f : ℕ) → file_by files (f + 1) ≡ get_or files f no_file
unfolding file_by
by_number files f = rw (add-one f)

found_existing : (wanted : Wanted) (files : List File) (f : ℕ) (x : Option Flat) (t : Option Target) → FlatBelow (count_of wanted (says (get_or files f no_file))) x
    → Existing wanted files t → Existing wanted files (found_or f x t)
found_existing wanted files f (Some m) t b e =
    ap (λ (y : File). ltb m.0 (count_of wanted (says y))) (by_number files f) ∙ lt-ltb m.0 (count_of wanted (says (get_or files f no_file))) b
found_existing wanted files f None t b e = e

first_existing : (wanted : Wanted) (files : List File) (name list : List ℕ) → Existing wanted files (first_in (λ f. item_in wanted (get_or files f no_file) name) list)
unfolding first_in
first_existing wanted files name [] = tt
first_existing wanted files name (f ∷ fs) =
    found_existing wanted files f (item_in wanted (get_or files f no_file) name) (first_in (λ f. item_in wanted (get_or files f no_file) name) fs)
    (item_below wanted (get_or files f no_file) name) (first_existing wanted files name fs)

module _ (s : Sight) (list name : List ℕ) where
  -- whatever the list of files is
  pub target_existing : (wanted : Wanted) → Existing wanted (in_sight s) (target wanted s list name)
  unfolding target
  target_existing wanted = first_existing wanted (in_sight s) name (order s list)

  -- a message that is found exists, and so does an enum
  pub message_exists_lem : (t : Target) → target Message s list name ≡ Some t → message_exists (in_sight s) t.file t.index ≡ true
  message_exists_lem t e = subst (Existing Message (in_sight s)) e (target_existing Message)

  pub enum_exists_lem : (t : Target) → target Enum s list name ≡ Some t → enum_exists (in_sight s) t.file t.index ≡ true
  enum_exists_lem t e = subst (Existing Enum (in_sight s)) e (target_existing Enum)

-- ---- of a type

-- a target fits a type, if there is one
abbrev pub Fitting : List File → ℕ → Option Target → Type 0
Fitting files «type» (Some t) = target_fits files «type» t.file t.index ≡ true
Fitting files «type» None = Unit

module _ (files : List File) («type» : ℕ) where
  fits_message : is_message_type «type» ≡ true → (t : Option Target) → Existing Message files t → Fitting files «type» t
  unfolding target_fits
  fits_message h (Some t) e = rw h e
  fits_message h None e = tt

  fits_enum : is_message_type «type» ≡ false → eqb «type» 14 ≡ true → (t : Option Target) → Existing Enum files t → Fitting files «type» t
  unfolding target_fits
  fits_enum h g (Some t) e = rw (h, g) e
  fits_enum h g None e = tt

  fits_none : is_message_type «type» ≡ false → eqb «type» 14 ≡ false → target_fits files «type» 0 0 ≡ true
  unfolding target_fits
  fits_none h g = rw (h, g)

module _ (s : Sight) (list : List ℕ) («type» : ℕ) (name : List ℕ) where
  pub type_fitting : Fitting (in_sight s) «type» (type_target s list «type» name)
  unfolding type_target
  type_fitting =
      by (is_message_type «type»)
      (λ h. simp h (fits_message (in_sight s) «type» h (target Message s list name) (target_existing s list name Message)))
      (λ h. by (eqb «type» 14)
      (λ g. simp (h, g) (fits_enum (in_sight s) «type» h g (target Enum s list name) (target_existing s list name Enum)))
      (λ g. simp (h, g) (fits_none (in_sight s) «type» h g)))

  -- the target of a type fits it
  pub type_fits : (t : Target) → type_target s list «type» name ≡ Some t → target_fits (in_sight s) «type» t.file t.index ≡ true
  type_fits t e = subst (Fitting (in_sight s) «type») e type_fitting
