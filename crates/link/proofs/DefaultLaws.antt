-- The default of a field, case by case as the code goes. Assumes nothing.
use mathlib.Core.Path.{◌≡◌, refl, sym, ◌∙◌}
use mathlib.Core.List.{List, [], ◌∷◌}
use mathlib.Core.Bool.{true, false}
use Prim.Native.Nat.{ℕ}
use lib.Dec.{eqb}
use Rattle.std.specs.Prelude.{Option, Some, None, Ok, Err}
use Rattle.names.specs.declared.runtime_type_box.Words.{Words}
use Rattle.names.specs.declared.runtime_type_box.ReadDefault.TheVariants.{Integer, Text, ValueName}
use Rattle.names.specs.declared.runtime_type_box.DefaultRefused.TheVariants.{Unreadable, Unsupported}
use Rattle.image.specs.Schema.{FieldSays}
use Rattle.image.specs.LinkTests.{file_by}
use Rattle.image.specs.Verdict.{first, judged}
use Rattle.image.specs.declared.verdict.Refusal.TheVariants.{DefaultWrong, DefaultBarred, EnumMissing}
use Rattle.link.specs.Sight.{Sight, in_sight}
use Rattle.link.specs.Resolve.{target}
use Rattle.link.specs.Field.{default_read, default_lines, default_part, enum_default, value_default, value_in}
use Rattle.link.specs.declared.building.Wanted.TheVariants.{Enum}
use Rattle.link.specs.declared.building.Target.{Target}

module _ (s : Sight) (list : List ℕ) (f : FieldSays) (at : ℕ) where
  -- ---- the default of an enum

  module _ {t : Option Target} (e : t ≡ target Enum s list f.type_name) where
    pub enum_found : (a : Target) → t ≡ Some a → enum_default s list f at ≡ value_default (value_in (file_by (in_sight s) a.file) a.index f.default) at
    unfolding enum_default
    enum_found a g = rw (sym e ∙ g)

    pub enum_missing : t ≡ None → enum_default s list f at ≡ Err (record { refusal = EnumMissing; place = at })
    unfolding enum_default
    enum_missing g = rw (sym e ∙ g)

  -- ---- no default

  pub default_absent : eqb f.given 0 ≡ true → Ok (0 ∷ 0 ∷ 0 ∷ []) ≡ judged (first (default_lines s list f at)) (default_part s list f)
  unfolding default_lines default_part first
  default_absent g = rw g

  -- ---- a default, by what its text says

  module _ (g : eqb f.given 0 ≡ false) where
    pub default_integer : (w : Words) → default_read f ≡ Ok (Integer w) → Ok (1 ∷ w.low ∷ w.high ∷ []) ≡ judged (first (default_lines s list f at)) (default_part s list f)
    unfolding default_lines default_part first
    default_integer w d = rw (g, d)

    pub default_text : (w : Words) → default_read f ≡ Ok (Text w) → Ok (3 ∷ w.low ∷ w.high ∷ []) ≡ judged (first (default_lines s list f at)) (default_part s list f)
    unfolding default_lines default_part first
    default_text w d = rw (g, d)

    pub default_unreadable : default_read f ≡ Err Unreadable → Err (record { refusal = DefaultWrong; place = at }) ≡ judged (first (default_lines s list f at)) (default_part s list f)
    unfolding default_lines first
    default_unreadable d = rw (g, d)

    pub default_unsupported : default_read f ≡ Err Unsupported → Err (record { refusal = DefaultBarred; place = at }) ≡ judged (first (default_lines s list f at)) (default_part s list f)
    unfolding default_lines first
    default_unsupported d = rw (g, d)

    module _ (d : default_read f ≡ Ok ValueName) where
      value_is : (a : Target) → target Enum s list f.type_name ≡ Some a → (v : Option ℕ) → value_in (file_by (in_sight s) a.file) a.index f.default ≡ v
          → value_default v at ≡ judged (first (default_lines s list f at)) (default_part s list f)
      unfolding default_lines default_part first
      value_is a t (Some k) v = rw (g, d, t, v)
      value_is a t None v = rw (g, d, t, v)

      missing_is : target Enum s list f.type_name ≡ None → Err (record { refusal = EnumMissing; place = at }) ≡ judged (first (default_lines s list f at)) (default_part s list f)
      unfolding default_lines first
      missing_is t = rw (g, d, t)

      name_is : (t : Option Target) → target Enum s list f.type_name ≡ t → enum_default s list f at ≡ judged (first (default_lines s list f at)) (default_part s list f)
      name_is (Some a) t = enum_found (sym t) a refl ∙ value_is a t (value_in (file_by (in_sight s) a.file) a.index f.default) refl
      name_is None t = enum_missing (sym t) refl ∙ missing_is t

      pub default_name : enum_default s list f at ≡ judged (first (default_lines s list f at)) (default_part s list f)
      default_name = name_is (target Enum s list f.type_name) refl
