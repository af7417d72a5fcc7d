-- The lines of the imports, by what was found on the shelf. Assumes nothing.
use mathlib.Core.Path.{◌≡◌, refl}
use mathlib.Core.Bool.{true, false, not}
use mathlib.Core.List.{List, [], ◌∷◌}
use Prim.Native.Nat.{ℕ}
use Rattle.std.specs.Prelude.{Option, Some, None, is_some, is_none, Ok}
use Rattle.image.specs.Schema.{Schema}
use Rattle.image.specs.Record.{File}
use Rattle.image.specs.Shelf.{file_named}
use Rattle.image.specs.Verdict.{Line, line, stopped, first, in_order}
use Rattle.image.specs.declared.verdict.Refusal.TheVariants.{ImportMissing}
use Rattle.link.specs.Refusals.{import_lines}

none_not : {A : Type 0} (x : Option A) → is_none x ≡ not (is_some x)
none_not (Some a) = refl
none_not None = refl

module _ (files : List File) (g : Schema) where
  abbrev pub imported : ℕ → Option ℕ
  imported i = file_named files (g.import_name i)

  -- the lines of import i
  abbrev pub import_line : ℕ → List Line
  import_line i = line ImportMissing (is_none (imported i)) i ∷ []

  pub import_missing : (i : ℕ) → is_some (imported i) ≡ false → first (import_line i) ≡ stopped ImportMissing i
  unfolding first
  import_missing i e = rw (none_not (imported i), e)

  pub import_found : (i : ℕ) → is_some (imported i) ≡ true → first (import_line i) ≡ Ok tt
  unfolding first
  import_found i e = rw (none_not (imported i), e)

  -- all of them
  pub import_lines_lem : first (in_order g.imports import_line) ≡ first (import_lines files g)
  unfolding import_lines
  import_lines_lem = refl
