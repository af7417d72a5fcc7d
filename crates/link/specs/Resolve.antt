-- Messages and enums by name: this file first, then the search list. Assumes nothing.
use Rattle.std.specs.Prelude.{List, [], ◌∷◌, Bool, cond, ◌||◌, ℕ, ◌+◌, eqb, length, get_or, Option, Some, None, unwrap_or}
use Rattle.names.specs.Package.{lies_beneath, rest_beneath}
use Rattle.image.specs.Schema.{Schema}
use Rattle.image.specs.Record.{File, no_file, says}
use Rattle.image.specs.Lookup.{message_by_path, enum_by_path}
use Rattle.image.specs.declared.rows.Flat.{Flat}
use Rattle.link.specs.Sight.{Sight, in_sight}
use Rattle.link.specs.declared.building.Wanted.{Wanted}
use Rattle.link.specs.declared.building.Wanted.TheVariants.{Message, Enum}
use Rattle.link.specs.declared.building.Target.{Target}

-- ---- in one file: the name lies beneath its package, and the rest is a path in it

abbrev pub by_path : Wanted → Schema → List ℕ → List ℕ → Option Flat
by_path Message g links path = message_by_path g links path
by_path Enum g links path = enum_by_path g links path

unfoldable pub item_in : Wanted → File → List ℕ → Option Flat
item_in wanted file name =
    cond (lies_beneath name (says file).«package») (by_path wanted (says file) file.links (rest_beneath name (says file).«package»)) None

-- ---- in files, one after the other

-- what was found in file f, or else what is found further on. A target is a file word, shelf number + 1, and an index
abbrev pub found_or : ℕ → Option Flat → Option Target → Option Target
found_or f (Some m) further = Some (record { file = f + 1; index = m.0 })
found_or f None further = further

unfoldable pub first_in : (ℕ → Option Flat) → List ℕ → Option Target
first_in look [] = None
first_in look (f ∷ fs) = found_or f (look f) (first_in look fs)

-- this file, then those of the search list
abbrev pub order : Sight → List ℕ → List ℕ
order s list = length s.files ∷ list

unfoldable pub target : Wanted → Sight → List ℕ → List ℕ → Option Target
unfolding first_in
target wanted s list name = first_in (λ f. item_in wanted (get_or (in_sight s) f no_file) name) (order s list)

-- ---- the target of a type: types 10 and 11 have a message, 14 an enum, others none, which is file word and index 0

abbrev pub is_message_type : ℕ → Bool
is_message_type «type» = eqb «type» 10 || eqb «type» 11

abbrev pub nowhere : Target
nowhere = record { file = 0; index = 0 }

unfoldable pub type_target : Sight → List ℕ → ℕ → List ℕ → Option Target
type_target s list «type» name =
    cond (is_message_type «type») (target Message s list name) (cond (eqb «type» 14) (target Enum s list name) (Some nowhere))

-- file word and index of a target, 0 where there is none
abbrev pub target_file : Option Target → ℕ
target_file t = (unwrap_or t nowhere).file

abbrev pub target_index : Option Target → ℕ
target_index t = (unwrap_or t nowhere).index
