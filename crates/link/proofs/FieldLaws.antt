-- The file that a file word names, among those in sight. Assumes nothing.
use mathlib.Core.Path.{◌≡◌, ◌∙◌}
use mathlib.Core.List.{[], ◌∷◌, ◌++◌}
use Prim.Native.Nat.{ℕ, zero, suc, ◌+◌, ◌-◌, ◌≤◌, ◌<◌}
use native.Mathlib.Omega.{arith}
use native.Mathlib.Numerals.{sub-one}
use lib.ListN.{get_or-append}
use lib.Seq.{get_or_at}
use Rattle.lists.specs.Lists.{table}
use Rattle.lists.proofs.TableLaws.{get_or_table, length_table}
use Rattle.image.specs.Record.{File, no_file}
use Rattle.image.specs.LinkTests.{file_by}

module _ (file : ℕ → File) (n : ℕ) (own : File) where
  pub sight_own : (word : ℕ) → word ≡ n + 1 → file_by (table n file ++ (own ∷ [])) word ≡ own
  unfolding file_by
  sight_own zero e = absurd (omega arith)
  sight_own (suc f) e = get_or_at (table n file) own [] no_file f (length_table n file ∙ omega arith)

  pub sight_shelved : (word : ℕ) → 0 < word → word ≤ n → file_by (table n file ++ (own ∷ [])) word ≡ file (word - 1)
  unfolding file_by
  sight_shelved zero h l = absurd (omega arith)
  sight_shelved (suc f) h l =
      rw (sub-one (suc f))
      (get_or-append (table n file) (own ∷ []) no_file f (omega (arith, length_table n file)) ∙ get_or_table n file f no_file (omega arith))
