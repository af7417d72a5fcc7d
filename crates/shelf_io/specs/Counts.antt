-- How many bytes an answer counts. Assumes nothing.
use Rattle.std.specs.Prelude.{ℕ, ◌-◌, ◌≤◌, ◌<◌}
use Rattle.io.specs.Digits.{IsDigitCount}

-- a word is so long in decimal, read as a signed number: the fewest digits, behind a sign where it is below 0
abbrev pub SignedLength : ℕ → ℕ → Type 0
SignedLength word r = (word < 2147483648 → IsDigitCount 10 1 word r) × (2147483648 ≤ word → IsDigitCount 10 1 (4294967296 - word) (r - 1))
