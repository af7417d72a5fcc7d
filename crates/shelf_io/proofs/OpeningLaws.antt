-- What opening a shelf file leaves of lent words and bytes. Assumes nothing.
use mathlib.Core.Path.{◌≡◌, refl, sym, ap, ◌∙◌}
use mathlib.Core.List.{List}
use Prim.Native.Nat.{ℕ}
use lib.ListN.{length}
use Rattle.std.specs.Prelude.{Result, Ok, Err}
use Rattle.formats.specs.Files.{shelf_kind}
use Rattle.formats.specs.Reading.{ReadOutcome, judged, filled, read_file, shelf_answer, read_shelf}
use Rattle.formats.specs.declared.file.Fault.{Fault}
use Rattle.formats.specs.declared.file.Sizes.{Sizes}
use Rattle.formats.specs.declared.shelf_file.ShelfSizes.{ShelfSizes}

module _ (file words bytes : List ℕ) where
  -- a file with a fault leaves all as it was
  filled_unread : (r : Result Sizes Fault) (f : Fault) → shelf_answer file (filled shelf_kind file words bytes r).answer ≡ Err f
      → ((filled shelf_kind file words bytes r).words ≡ words) × ((filled shelf_kind file words bytes r).bytes ≡ bytes)
  unfolding filled
  filled_unread (Err g) f e = (refl, refl)
  filled_unread (Ok s) f e = absurd (cc)

  pub unread_keeps : (after : ReadOutcome (Result ShelfSizes Fault)) (f : Fault) → after ≡ read_shelf file words bytes → after.answer ≡ Err f
      → (after.words ≡ words) × (after.bytes ≡ bytes)
  unfolding read_file
  unread_keeps after f e u =
      let k = filled_unread (judged shelf_kind file (length words) (length bytes)) f (ap (λ o. o.answer) (sym e) ∙ u) in
      (ap (λ o. o.words) e ∙ k.0, ap (λ o. o.bytes) e ∙ k.1)
