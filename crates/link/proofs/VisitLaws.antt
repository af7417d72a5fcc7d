-- The walk of the search list on plain lists: what waits on a stack, last one first, is what is left of the walk. Assumes nothing.
use mathlib.Core.Path.{◌≡◌, refl, sym, ap, ◌∙◌}
use mathlib.Core.Bool.{true, false, ◌||◌}
use mathlib.Core.List.{List, [], ◌∷◌, ◌++◌, reverse, reverse-cons}
use Prim.Native.Nat.{ℕ, zero, suc, ◌+◌, ◌*◌, ◌<◌, ◌≤◌}
use native.Mathlib.Omega.{arith}
use lib.Dec.{eqb}
use lib.ListN.{length, length-append}
use borrow.Author.Tests.{eq-eqb}
use Rattle.lists.specs.Below.{count_below}
use Rattle.lists.specs.Lists.{table}
use Rattle.lists.proofs.Cases.{by}
use Rattle.lists.proofs.BelowLaws.{count_le, count_more}
use Rattle.link.specs.Search.{has, first_to_last, last_to_first, visit, search_list, Below}

-- ---- ways through lists

-- of two lists behind one another the second is gone through first
pub last_append : (step : List ℕ → ℕ → List ℕ) (l xs ys : List ℕ) → last_to_first step l (xs ++ ys) ≡ last_to_first step (last_to_first step l ys) xs
unfolding last_to_first
last_append step l [] ys = refl
last_append step l (x ∷ xs) ys = ap (λ (m : List ℕ). step m x) (last_append step l xs ys)

-- the first one first is the last one first of the reversed list
pub in_order_lem : (step : List ℕ → ℕ → List ℕ) (l fs : List ℕ) → first_to_last step l fs ≡ last_to_first step l (reverse fs)
unfolding first_to_last last_to_first
in_order_lem step l [] = refl
in_order_lem step l (f ∷ fs) =
    in_order_lem step (step l f) fs ∙ sym (ap (λ (r : List ℕ). last_to_first step l r) (reverse-cons f fs) ∙ last_append step l (reverse fs) (f ∷ []))

-- two steps that agree on the files of a list
pub last_agree : (s t : List ℕ → ℕ → List ℕ) (f : ℕ) → ((l : List ℕ) (g : ℕ) → g < f → s l g ≡ t l g)
    → (l gs : List ℕ) → Below f gs → last_to_first s l gs ≡ last_to_first t l gs
unfolding last_to_first
last_agree s t f h l [] p = refl
last_agree s t f h l (g ∷ gs) p = ap (λ (m : List ℕ). s m g) (last_agree s t f h l gs p.1) ∙ h (last_to_first t l gs) g p.0

pub length-reverse : (l : List ℕ) → length (reverse l) ≡ length l
length-reverse [] = refl
length-reverse (x ∷ l) = ap (λ (r : List ℕ). length r) (reverse-cons x l) ∙ length-append (reverse l) (x ∷ []) ∙ omega (arith, length-reverse l)

-- ---- lists of files below a number

pub below_append : (n : ℕ) (xs ys : List ℕ) → Below n xs → Below n ys → Below n (xs ++ ys)
below_append n [] ys p q = q
below_append n (x ∷ xs) ys p q = (p.0, below_append n xs ys p.1 q)

pub below_left : (n : ℕ) (xs ys : List ℕ) → Below n (xs ++ ys) → Below n xs
below_left n [] ys p = tt
below_left n (x ∷ xs) ys p = (p.0, below_left n xs ys p.1)

pub below_right : (n : ℕ) (xs ys : List ℕ) → Below n (xs ++ ys) → Below n ys
below_right n [] ys p = p
below_right n (x ∷ xs) ys p = below_right n xs ys p.1

pub below_reverse : (n : ℕ) (xs : List ℕ) → Below n xs → Below n (reverse xs)
below_reverse n [] p = tt
below_reverse n (x ∷ xs) p = rw (reverse-cons x xs) (below_append n (reverse xs) (x ∷ []) (below_reverse n xs p.1) (p.0, tt))

pub below_up : (m n : ℕ) (xs : List ℕ) → m ≤ n → Below m xs → Below n xs
below_up m n [] h p = tt
below_up m n (x ∷ xs) h p = (omega (arith, p.0), below_up m n xs h p.1)

pub below_table : (n k : ℕ) (f : ℕ → ℕ) → ((i : ℕ) → i < k → f i < n) → Below n (table k f)
unfolding table
below_table n zero f h = tt
below_table n (suc k) f h = below_append n (table k f) (f k ∷ []) (below_table n k f (λ i l. h i (omega arith))) (h k (omega arith), tt)

-- ---- a list and one file more

pub has_more : (j f : ℕ) (l : List ℕ) → has j (l ++ (f ∷ [])) ≡ has j l || eqb j f
unfolding has
has_more j f [] = by (eqb j f) (λ t. simp t) (λ t. simp t)
has_more j f (g ∷ l) = by (eqb j g) (λ t. simp t) (λ t. simp t (has_more j f l))

pub has_last : (f : ℕ) (l : List ℕ) → has f (l ++ (f ∷ [])) ≡ true
has_last f l = has_more f f l ∙ by (has f l) (λ t. simp t) (λ t. rw (t, eq-eqb f f refl))

-- ---- the walk

-- at a moment: `waiting` stands on the stack, its top at the end; `out` is the list so far
pub record Walking (publics : ℕ → List ℕ) (n : ℕ) (direct waiting out : List ℕ) : Type 0 where
  pub whole : last_to_first (visit publics n) out waiting ≡ search_list publics n direct
  pub inside : Below n waiting
  pub fewer : length out ≤ count_below n (λ j. has j out)
  pub room : length waiting ≤ 32 + 32 * length out

-- public imports are earlier files
abbrev pub Earlier : (ℕ → List ℕ) → ℕ → Type 0
Earlier publics n = (f : ℕ) → f < n → Below f (publics f)

module _ (publics : ℕ → List ℕ) (n : ℕ) (earlier : Earlier publics n) where
  -- any depth above the file's number is enough
  pub visit_enough : (a b : ℕ) (l : List ℕ) (f : ℕ) → f < n → f < a → f < b → visit publics a l f ≡ visit publics b l f
  unfolding visit
  visit_enough zero b l f h p q = absurd (omega arith)
  visit_enough (suc a) zero l f h p q = absurd (omega arith)
  visit_enough (suc a) (suc b) l f h p q =
      by (has f l) (λ t. simp t)
      (λ t. simp t (last_agree (visit publics a) (visit publics b) f (λ m g k. visit_enough a b m g (omega arith) (omega arith) (omega arith)) (l ++ (f ∷ [])) (publics f) (earlier f h)))

  -- so with the depth n the walk is its own step
  pub visit_new : (l : List ℕ) (f : ℕ) → f < n → has f l ≡ false → visit publics n l f ≡ last_to_first (visit publics n) (l ++ (f ∷ [])) (publics f)
  unfolding visit
  visit_new l f h e = visit_enough n (suc n) l f h h (omega arith) ∙ simp e

  pub visit_old : (l : List ℕ) (f : ℕ) → f < n → has f l ≡ true → visit publics n l f ≡ l
  unfolding visit
  visit_old l f h e = visit_enough n (suc n) l f h h (omega arith) ∙ simp e

  module _ {direct : List ℕ} where
    pub walking_start : length direct ≤ 32 → Below n direct → Walking publics n direct (reverse direct) []
    unfolding search_list
    walking_start h p =
        record {
          whole = sym (in_order_lem (visit publics n) [] direct);
          inside = below_reverse n direct p;
          fewer = omega arith;
          room = simp length-reverse (omega arith);
        }

    module _ (waiting : List ℕ) {out : List ℕ} (f : ℕ) (w : Walking publics n direct (waiting ++ (f ∷ [])) out) where
      pub top_inside : f < n
      top_inside = (below_right n waiting (f ∷ []) w.inside).0

      -- the file on top is in the list: it goes
      pub walking_old : has f out ≡ true → Walking publics n direct waiting out
      unfolding last_to_first
      walking_old e =
          record {
            whole = ap (λ (l : List ℕ). last_to_first (visit publics n) l waiting) (sym (visit_old out f top_inside e))
                ∙ sym (last_append (visit publics n) out waiting (f ∷ [])) ∙ w.whole;
            inside = below_left n waiting (f ∷ []) w.inside;
            fewer = w.fewer;
            room = omega (arith, w.room, length-append waiting (f ∷ []));
          }

      -- it is not: then the list is not full
      pub not_full : has f out ≡ false → length out < n
      not_full e =
          omega (arith, w.fewer, count_le n (λ j. true), count_more n (λ j. has j out) (λ j. true) f top_inside (λ i l t. refl) e refl)

      -- and it goes over to the list, and its public imports take its place
      pub walking_new : has f out ≡ false → length (publics f) ≤ 32 → Walking publics n direct (waiting ++ publics f) (out ++ (f ∷ []))
      unfolding last_to_first
      walking_new e h =
          record {
            whole = last_append (visit publics n) (out ++ (f ∷ [])) waiting (publics f)
                ∙ ap (λ (l : List ℕ). last_to_first (visit publics n) l waiting) (sym (visit_new out f top_inside e))
                ∙ sym (last_append (visit publics n) out waiting (f ∷ [])) ∙ w.whole;
            inside = below_append n waiting (publics f) (below_left n waiting (f ∷ []) w.inside) (below_up f n (publics f) (omega (arith, top_inside)) (earlier f top_inside));
            fewer = omega (
              arith,
              w.fewer,
              length-append out (f ∷ []),
              count_more n (λ j. has j out) (λ j. has j (out ++ (f ∷ []))) f top_inside (λ i l t. has_more i f out ∙ simp t) e (has_last f out),
            );
            room = omega (arith, h, w.room, length-append waiting (publics f), length-append waiting (f ∷ []), length-append out (f ∷ []));
          }

    pub walking_end : {out : List ℕ} → Walking publics n direct [] out → out ≡ search_list publics n direct
    unfolding last_to_first
    walking_end w = w.whole
