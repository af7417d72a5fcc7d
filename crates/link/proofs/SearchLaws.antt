-- What the search list is, whatever the imports: every file of it is on the shelf, and it is no longer than the shelf. Assumes nothing.
use mathlib.Core.Path.{◌≡◌, ◌∙◌}
use mathlib.Core.Bool.{false}
use mathlib.Core.List.{List, [], ◌∷◌, ◌++◌}
use Prim.Native.Nat.{ℕ, zero, suc, ◌-◌, ◌<◌, ◌≤◌}
use native.Mathlib.Omega.{arith}
use lib.ListN.{length, get_or, replicate, length-append}
use lib.Seq.{take-append_seam}
use Rattle.lists.specs.Below.{count_below}
use Rattle.lists.proofs.Cases.{by}
use Rattle.lists.proofs.BelowLaws.{count_le, count_more}
use Rattle.image.specs.Schema.{Schema}
use Rattle.image.specs.Record.{File}
use Rattle.link.specs.Search.{has, first_to_last, last_to_first, visit, search_list, Below, listed, list_of, imports_of, publics_of, Searchable}
use Rattle.link.proofs.VisitLaws.{Earlier, has_more, has_last, below_append, below_up}
use Rattle.link.proofs.RunLaws.{fits}

-- a step keeps a property of lists, for every file below n
abbrev Keeps : (List ℕ → Type 0) → ℕ → (List ℕ → ℕ → List ℕ) → Type 0
Keeps P n step = (l : List ℕ) (f : ℕ) → f < n → P l → P (step l f)

module _ (P : List ℕ → Type 0) (n : ℕ) where
  last_keeps : (step : List ℕ → ℕ → List ℕ) → Keeps P n step → (l fs : List ℕ) → Below n fs → P l → P (last_to_first step l fs)
  unfolding last_to_first
  last_keeps step k l [] b p = p
  last_keeps step k l (f ∷ fs) b p = k (last_to_first step l fs) f b.0 (last_keeps step k l fs b.1 p)

  first_keeps : (step : List ℕ → ℕ → List ℕ) → Keeps P n step → (l fs : List ℕ) → Below n fs → P l → P (first_to_last step l fs)
  unfolding first_to_last
  first_keeps step k l [] b p = p
  first_keeps step k l (f ∷ fs) b p = first_keeps step k (step l f) fs b.1 (k l f b.0 p)

  -- what holds of the empty list, and goes over to a list with one new file more, holds of the search list
  module _ (publics : ℕ → List ℕ) (earlier : Earlier publics n) (more : (l : List ℕ) (f : ℕ) → f < n → has f l ≡ false → P l → P (l ++ (f ∷ []))) where
    visit_keeps : (depth : ℕ) → Keeps P n (visit publics depth)
    unfolding visit
    visit_keeps zero l f h p = p
    visit_keeps (suc depth) l f h p =
        by (has f l) (λ t. simp t p)
        (λ t. simp t (last_keeps (visit publics depth) (visit_keeps depth) (l ++ (f ∷ [])) (publics f) (below_up f n (publics f) (omega arith) (earlier f h)) (more l f h t p)))

    pub search_keeps : (direct : List ℕ) → Below n direct → P [] → P (search_list publics n direct)
    unfolding search_list
    search_keeps direct b p = first_keeps (visit publics n) (visit_keeps n) [] direct b p

-- as many files of a list as it has are below n
few_more : (n : ℕ) (l : List ℕ) (f : ℕ) → f < n → has f l ≡ false → length l ≤ count_below n (λ j. has j l)
    → length (l ++ (f ∷ [])) ≤ count_below n (λ j. has j (l ++ (f ∷ [])))
few_more n l f h t p =
    omega (
      arith,
      p,
      length-append l (f ∷ []),
      count_more n (λ j. has j l) (λ j. has j (l ++ (f ∷ []))) f h (λ i k u. has_more i f l ∙ simp u) t (has_last f l),
    )

module _ (publics : ℕ → List ℕ) (n : ℕ) (earlier : Earlier publics n) (direct : List ℕ) (inside : Below n direct) where
  -- every file of the search list is on the shelf
  pub search_inside : Below n (search_list publics n direct)
  search_inside = search_keeps (λ l. Below n l) n publics earlier (λ l f h t p. below_append n l (f ∷ []) p (h, tt)) direct inside tt

  -- so it has at most as many files as the shelf
  pub search_few : length (search_list publics n direct) ≤ n
  search_few =
      omega (
        arith,
        search_keeps (λ l. length l ≤ count_below n (λ j. has j l)) n publics earlier (few_more n) direct inside (omega arith),
        count_le n (λ j. has j (search_list publics n direct)),
      )

-- ---- the list that the struct of an answer holds

pub listed_list : (l : List ℕ) → list_of (listed l) ≡ l
listed_list l = take-append_seam l (replicate (32 - length l) 0)

pub below_at : (n : ℕ) (l : List ℕ) (i : ℕ) → Below n l → i < length l → get_or l i 0 < n
below_at n [] i p h = absurd (omega arith)
below_at n (f ∷ l) zero p h = p.0
below_at n (f ∷ l) (suc i) p h = below_at n l i p.1 (omega arith)

pub all_below : (n : ℕ) (l : List ℕ) → ((k : ℕ) → k < length l → get_or l k 0 < n) → Below n l
all_below n [] h = tt
all_below n (f ∷ l) h = (h 0 (omega arith), all_below n l (λ k m. h (suc k) (omega arith)))

-- ---- the same of the search list of an image

module _ (files : List File) (g : Schema) {n : ℕ} (l : length files ≡ n) (s : Searchable files g) where
  pub searchable_inside : Below n (search_list (publics_of files) n (imports_of files g))
  searchable_inside = let fit = fits files g l s in search_inside (publics_of files) n fit.earlier (imports_of files g) fit.direct_in

  pub searchable_few : length (search_list (publics_of files) n (imports_of files g)) ≤ n
  searchable_few = let fit = fits files g l s in search_few (publics_of files) n fit.earlier (imports_of files g) fit.direct_in
