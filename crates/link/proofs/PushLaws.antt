-- Imports, and the two loops that put them on the stack. What stands on a stack with a given top is `take top stack`. Assumes nothing.
use mathlib.Core.Path.{◌≡◌, refl, sym, ap, ◌∙◌}
use mathlib.Core.Bool.{cond}
use mathlib.Core.List.{List, [], ◌∷◌, ◌++◌, append_assoc, append-nil, reverse, reverse-cons}
use Prim.Native.Nat.{ℕ, zero, suc, ◌+◌, ◌-◌, ◌<◌, ◌≤◌}
use native.Mathlib.Numerals.{add-one}
use native.Mathlib.Omega.{arith}
use lib.Dec.{eqb}
use lib.ListN.{length, get_or, take, drop, set, length-append, length-set, drop_of_length-le}
use lib.Seq.{take-suc-set, drop-cons}
use borrow.Author.Tests.{eq-eqb, ne_eqb, eqb-true, eqb-false}
use Rattle.lists.proofs.Cases.{by}
use Rattle.lists.proofs.TableLaws.{length_table, get_or_table}
use Rattle.image.specs.Schema.{Schema}
use Rattle.image.specs.Record.{File}
use Rattle.link.specs.Search.{import_number, imports_of, publics_to, Below}
use Rattle.link.proofs.VisitLaws.{below_append}

-- ---- public imports

module _ (files : List File) (g : Schema) where
  pub publics_public : (k : ℕ) → (g.import_public k ≡ 0 → ⊥) → publics_to files g (k + 1) ≡ publics_to files g k ++ (import_number files g k ∷ [])
  unfolding publics_to
  publics_public k h = rw (add-one k, ne_eqb (g.import_public k) 0 h)

  pub publics_other : (k : ℕ) → g.import_public k ≡ 0 → publics_to files g (k + 1) ≡ publics_to files g k
  unfolding publics_to
  publics_other k h = rw (add-one k, eq-eqb (g.import_public k) 0 h) (append-nil (publics_to files g k))

  pub publics_few : (k : ℕ) → length (publics_to files g k) ≤ k
  unfolding publics_to
  publics_few zero = omega arith
  publics_few (suc k) =
      by (eqb (g.import_public k) 0)
      (λ t. simp t (omega (arith, publics_few k, length-append (publics_to files g k) [])))
      (λ t. simp t (omega (arith, publics_few k, length-append (publics_to files g k) (import_number files g k ∷ []))))

  pub publics_grow : (k m : ℕ) → k ≤ m → length (publics_to files g k) ≤ length (publics_to files g m)
  unfolding publics_to
  publics_grow k zero h = let e : k ≡ 0 = omega arith in rw e (omega arith)
  publics_grow k (suc m) h =
      by (eqb k (suc m))
      (λ t. rw (eqb-true k (suc m) t) (omega arith))
      (λ t. omega (arith, eqb-false k (suc m) t, publics_grow k m (omega (arith, h, eqb-false k (suc m) t)), length-append (publics_to files g m) (cond (eqb (g.import_public m) 0) [] (import_number files g m ∷ []))))

  pub publics_below : (f k : ℕ) → ((i : ℕ) → i < k → import_number files g i < f) → Below f (publics_to files g k)
  unfolding publics_to
  publics_below f zero h = tt
  publics_below f (suc k) h =
      by (eqb (g.import_public k) 0)
      (λ t. simp t (below_append f (publics_to files g k) [] (publics_below f k (λ i l. h i (omega arith))) tt))
      (λ t. simp t (below_append f (publics_to files g k) (import_number files g k ∷ []) (publics_below f k (λ i l. h i (omega arith))) (h k (omega arith), tt)))

-- ---- one file more on the stack

pub push_one : (stack : List ℕ) (top f : ℕ) → top < length stack → take (top + 1) (set stack top f) ≡ take top stack ++ (f ∷ [])
push_one stack top f h = rw (add-one top) (take-suc-set stack top f h)

-- ---- `push_imports`, after i files: the last i of a list, reversed

pub record Reversing (direct stack₀ stack : List ℕ) (i : ℕ) : Type 0 where
  pub at : i ≤ length direct
  pub fits : length direct ≤ length stack₀
  pub same_size : length stack ≡ length stack₀
  pub back : take i stack ≡ reverse (drop (length direct - i) direct)

pub reversing_start : (direct stack : List ℕ) → length direct ≤ length stack → Reversing direct stack stack 0
reversing_start direct stack h =
    record {
      at = omega arith;
      fits = h;
      same_size = refl;
      back = sym (ap (λ (l : List ℕ). reverse l) (drop_of_length-le direct {i = length direct - 0} (omega arith)));
    }

module _ {direct stack₀ stack : List ℕ} {i : ℕ} (r : Reversing direct stack₀ stack i) where
  pub reversing_more : (v : ℕ) → i < length direct → v ≡ get_or direct (length direct - 1 - i) 0 → Reversing direct stack₀ (set stack i v) (i + 1)
  reversing_more v h e =
      let j = length direct - 1 - i in
      let f = get_or direct j 0 in
      let next : suc j ≡ length direct - i = omega arith in
      let here : length direct - (i + 1) ≡ j = omega arith in
      rw e
      (record {
        at = omega arith;
        fits = r.fits;
        same_size = length-set stack i f ∙ r.same_size;
        back = push_one stack i f (omega (arith, h, r.fits, r.same_size))
            ∙ ap (λ (l : List ℕ). l ++ (f ∷ [])) (r.back ∙ ap (λ (k : ℕ). reverse (drop k direct)) (sym next))
            ∙ sym (reverse-cons f (drop (suc j) direct))
            ∙ ap (λ (l : List ℕ). reverse l) (sym (drop-cons direct j 0 (omega arith)))
            ∙ ap (λ (k : ℕ). reverse (drop k direct)) (sym here);
      })

  pub reversing_end : {m : ℕ} → m ≡ length direct → m ≤ i → take m stack ≡ reverse direct
  reversing_end {m} q h =
      let e : m ≡ i = omega (arith, r.at, q, h) in
      let z : length direct - i ≡ 0 = omega (arith, q, h) in
      ap (λ (k : ℕ). take k stack) e ∙ r.back ∙ ap (λ (k : ℕ). reverse (drop k direct)) z

-- import i of a schema, as an element of its list
pub import_at : (files : List File) (g : Schema) (i : ℕ) {v : ℕ} → i < g.imports → v ≡ import_number files g (g.imports - 1 - i)
    → v ≡ get_or (imports_of files g) (length (imports_of files g) - 1 - i) 0
import_at files g i h e =
    e
    ∙ sym (get_or_table g.imports (import_number files g) (g.imports - 1 - i) 0 (omega arith))
    ∙ ap (λ (m : ℕ). get_or (imports_of files g) (m - 1 - i) 0) (sym (length_table g.imports (import_number files g)))

-- ---- `push_publics`, after k import rows

pub record Pushing (files : List File) (g : Schema) (stack₀ : List ℕ) (top : ℕ) (stack : List ℕ) (end k : ℕ) : Type 0 where
  pub at : k ≤ g.imports
  pub fits : top + length (publics_to files g g.imports) ≤ length stack₀
  pub same_size : length stack ≡ length stack₀
  pub upto : end ≡ top + length (publics_to files g k)
  pub back : take end stack ≡ take top stack₀ ++ publics_to files g k

module _ {files : List File} {g : Schema} where
  pub pushing_start : (stack : List ℕ) (top : ℕ) → top + length (publics_to files g g.imports) ≤ length stack → Pushing files g stack top stack top 0
  unfolding publics_to
  pushing_start stack top h = record { at = omega arith; fits = h; same_size = refl; upto = omega arith; back = sym (append-nil (take top stack)) }

  module _ {stack₀ : List ℕ} {top : ℕ} {stack : List ℕ} {end k : ℕ} (p : Pushing files g stack₀ top stack end k) where
    module _ (h : k < g.imports) where
      pub pushing_other : g.import_public k ≡ 0 → Pushing files g stack₀ top stack end (k + 1)
      pushing_other t =
          let e = sym (publics_other files g k t) in
          record {
            at = omega arith;
            fits = p.fits;
            same_size = p.same_size;
            upto = p.upto ∙ ap (λ (l : List ℕ). top + length l) e;
            back = p.back ∙ ap (λ (l : List ℕ). take top stack₀ ++ l) e;
          }

      module _ (t : g.import_public k ≡ 0 → ⊥) where
        -- the stack has room for one more
        pub pushing_room : end < length stack
        pushing_room =
            omega (
              arith,
              p.fits,
              p.same_size,
              p.upto,
              publics_grow files g (k + 1) g.imports (omega arith),
              ap (λ (l : List ℕ). length l) (publics_public files g k t),
              length-append (publics_to files g k) (import_number files g k ∷ []),
            )

        pub pushing_public : (v : ℕ) → v ≡ import_number files g k → Pushing files g stack₀ top (set stack end v) (end + 1) (k + 1)
        pushing_public v q =
            let f = import_number files g k in
            let ps = publics_to files g k in
            let e = sym (publics_public files g k t) in
            rw q
            (record {
              at = omega arith;
              fits = p.fits;
              same_size = length-set stack end f ∙ p.same_size;
              upto = omega (arith, p.upto, length-append ps (f ∷ []), ap (λ (l : List ℕ). length l) e);
              back = push_one stack end f pushing_room
                  ∙ ap (λ (l : List ℕ). l ++ (f ∷ [])) p.back
                  ∙ append_assoc (take top stack₀) ps (f ∷ [])
                  ∙ ap (λ (l : List ℕ). take top stack₀ ++ l) e;
            })

    pub pushing_end : g.imports ≤ k
        → (end ≡ top + length (publics_to files g g.imports)) × (take end stack ≡ take top stack₀ ++ publics_to files g g.imports)
    pushing_end h =
        let e : k ≡ g.imports = omega (arith, p.at, h) in
        (p.upto ∙ ap (λ (m : ℕ). top + length (publics_to files g m)) e, p.back ∙ ap (λ (m : ℕ). take top stack₀ ++ publics_to files g m) e)
