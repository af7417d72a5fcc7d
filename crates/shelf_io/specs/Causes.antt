-- Why the system did not do what it was asked, by the number of its error. Assumes nothing.
use Rattle.std.specs.Prelude.{ℕ, ℤ, pos, int_lt, unsigned_abs, List, [], ◌∷◌, Option, Some, None, if◌then◌else◌, ◌==◌}
use Rattle.shelf_io.specs.declared.files.Cause.{Cause}
use Rattle.shelf_io.specs.declared.files.Cause.TheVariants.{Missing, Forbidden, Folder, NoFolder, LongPath, Taken, Full, Other}

-- the errors that have a cause of their own
abbrev pub causes : List (ℕ × Cause)
causes = (1, Forbidden) ∷ (2, Missing) ∷ (13, Forbidden) ∷ (17, Taken) ∷ (20, NoFolder) ∷ (21, Folder) ∷ (28, Full) ∷ (30, Forbidden) ∷ (36, LongPath) ∷ []

unfoldable pub cause_in : List (ℕ × Cause) → ℕ → Cause
cause_in [] number = Other number
cause_in (row ∷ rows) number = if number == row.0 then row.1 else cause_in rows number

-- a number below 0, and none, are said to be 0
abbrev pub said_number : Option ℤ → ℕ
said_number None = 0
said_number (Some number) = if int_lt number (pos 0) then 0 else unsigned_abs number

abbrev pub cause_of : Option ℤ → Cause
cause_of number = cause_in causes (said_number number)
