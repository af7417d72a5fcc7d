-- How a shelf is read: the tests one after the other, and what is answered. Assumes nothing.
use mathlib.Core.Path.{◌≡◌, refl, sym, ap, ◌∙◌}
use mathlib.Core.Bool.{Bool, true, false, cond}
use mathlib.Core.List.{List}
use Prim.Native.Nat.{ℕ, ◌≤◌, ◌<◌}
use lib.ListN.{length}
use borrow.Author.Tests.{le-leb, lt-leb, leb-true}
use Rattle.lists.proofs.Cases.{by, clash, each, and-true}
use Rattle.image.specs.Shelf.{Shelf, files_of, shelved, used_part, shelf_tests, well_formed}
use Rattle.std.specs.Prelude.{Option, Some, None, is_some, is_none}
use Rattle.image.specs.Places.{files_in, places_of, read_shelf, chained, files_fit}
use Rattle.image.specs.declared.shelf.Used.{Used}
use Rattle.image.specs.declared.shelf.Places.{Places}
use Rattle.image.proofs.PlaceLaws.{located, halves_broken, halves_files}

module _ (ws bs : List ℕ) (u : Used) where
  abbrev used : Shelf
  used = used_part ws bs u

  pub not-formed : well_formed ws bs u ≡ false → None ≡ read_shelf ws bs u
  unfolding read_shelf
  not-formed h = rw h

  pub formed : well_formed ws bs u ≡ true → Some (places_of u.files used) ≡ read_shelf ws bs u
  unfolding read_shelf
  formed h = rw h

  pub read_whole : is_some (read_shelf ws bs u) ≡ well_formed ws bs u
  unfolding read_shelf
  read_whole = by (well_formed ws bs u) (λ h. rw h) (λ h. rw h)

  pub too_many : 32 < u.files → well_formed ws bs u ≡ false
  unfolding well_formed
  too_many h = rw (lt-leb u.files 32 h)

  module _ (few : u.files ≤ 32) where
    pub words_short : length ws < u.words → well_formed ws bs u ≡ false
    unfolding well_formed
    words_short h = rw (le-leb u.files 32 few, lt-leb u.words (length ws) h)

    module _ (w : u.words ≤ length ws) where
      pub bytes_short : length bs < u.bytes → well_formed ws bs u ≡ false
      unfolding well_formed
      bytes_short h = rw (le-leb u.files 32 few, le-leb u.words (length ws) w, lt-leb u.bytes (length bs) h)

      module _ (b : u.bytes ≤ length bs) where
        left : well_formed ws bs u ≡ shelved u.files used
        unfolding well_formed
        left = simp (le-leb u.files 32 few, le-leb u.words (length ws) w, le-leb u.bytes (length bs) b, and-true)

        pub chain_broken : chained u.files used ≡ false → well_formed ws bs u ≡ false
        chain_broken h = left ∙ halves_broken ws bs u.files u.words u.bytes few w b h

        pub chain-whole : chained u.files used ≡ true → well_formed ws bs u ≡ files_fit ws bs (places_of u.files used) u.files
        chain-whole h = left ∙ halves_files ws bs u.files u.words u.bytes few w b h

-- what the walk over the records answers: the places where they chain, and nothing else
abbrev some_or : Places → Option Places → Places
some_or d None = d
some_or d (Some p) = p

kept : (b : Bool) (q : Places) {p : Places} → Some p ≡ cond b (Some q) None → (b ≡ true) × (p ≡ q)
kept true q {p} e = (refl, ap (some_or p) e)
kept false q {p} e = clash true refl (sym (ap is_none e))

lost : (b : Bool) (q : Places) → None ≡ cond b (Some q) None → b ≡ false
lost true q e = clash true refl (ap is_none e)
lost false q e = refl

module _ (ws bs : List ℕ) (u : Used) where
  pub walked : {p : Places} → Some p ≡ cond (chained u.files (used_part ws bs u)) (Some (places_of u.files (used_part ws bs u))) None → (chained u.files (used_part ws bs u) ≡ true) × (p ≡ places_of u.files (used_part ws bs u))
  walked e = kept (chained u.files (used_part ws bs u)) (places_of u.files (used_part ws bs u)) e

  pub unwalked : None ≡ cond (chained u.files (used_part ws bs u)) (Some (places_of u.files (used_part ws bs u))) None → chained u.files (used_part ws bs u) ≡ false
  unwalked e = lost (chained u.files (used_part ws bs u)) (places_of u.files (used_part ws bs u)) e

-- the files of a well-formed shelf are those at the places that are answered
pub read_files : (ws bs : List ℕ) (u : Used) → well_formed ws bs u ≡ true → files_of u.files (used_part ws bs u) ≡ files_in ws bs (places_of u.files (used_part ws bs u)) u.files
unfolding well_formed
read_files ws bs u h =
    let t = each (shelf_tests ws bs u) h in
    let few = leb-true u.files 32 t.0 in
    let w = leb-true u.words (length ws) t.1.0 in
    let b = leb-true u.bytes (length bs) t.1.1.0 in
    by (chained u.files (used_part ws bs u))
    (λ c. located ws bs u.files u.words u.bytes few w b c)
    (λ c. clash (well_formed ws bs u) h (chain_broken ws bs u few w b c))
