-- Laws of joined names, and of names beneath a package. Assumes nothing.
use Prim.Native.Nat.{ℕ, ◌+◌, ◌-◌, ◌≤◌, ◌<◌}
use native.Mathlib.Nat.{zero-add}
use native.Mathlib.Numerals.{add-one}
use native.Mathlib.Omega.{arith}
use mathlib.Core.Path.{◌≡◌, refl, sym, ap, ◌∙◌}
use mathlib.Core.Bool.{Bool, true, false, ◌&&◌}
use mathlib.Core.List.{List, [], ◌∷◌, ◌++◌}
use lib.Dec.{eqb}
use lib.Pointwise.{pointwise}
use lib.ListN.{length, take, drop, set, length-append, length-drop}
use lib.Seq.{drop-drop, take_all, length-take-le, take-suc-set, drop-set-lt, append_snoc}
use borrow.Author.Tests.{le-leb, lt-leb}
use Rattle.lists.specs.Lists.{is_prefix_of, part}
use Rattle.lists.specs.Splice.{splice, fronted}
use Rattle.lists.proofs.Cases.{order, equal}
use Rattle.lists.proofs.ListLaws.{part_all, prefix_append}
use Rattle.lists.proofs.StdLaws.{prefix_taken}
use Rattle.lists.proofs.SpliceLaws.{splice_nil, fronted_fits}
use Rattle.names.specs.Answers.{front_answer}
use Rattle.std.specs.Prelude.{Option, Some, None, if◌then◌else◌}
use Rattle.std.specs.Option.{MatchOption, option_map, unwrap_or}
use Rattle.std.specs.Borrow.{Bor}
use Rattle.std.proofs.lemmas.Option.{none-some, same_Some}
use Rattle.names.specs.Package.{concat_paths, lead_of, lies_beneath, rest_beneath}

-- ---- joined names

concat_first : (s t : List ℕ) → length s ≡ 0 → concat_paths s t ≡ t
unfolding concat_paths
concat_first [] t h = refl
concat_first (a ∷ s) t h = absurd (omega arith)

pub concat_second : (s t : List ℕ) → length t ≡ 0 → concat_paths s t ≡ []
unfolding concat_paths
concat_second [] [] h = refl
concat_second [] (b ∷ t) h = absurd (omega arith)
concat_second (a ∷ s) [] h = refl
concat_second (a ∷ s) (b ∷ t) h = absurd (omega arith)

concat_both : (s t : List ℕ) → 0 < length s → 0 < length t → concat_paths s t ≡ s ++ 46 ∷ t
unfolding concat_paths
concat_both [] t n m = absurd (omega arith)
concat_both (a ∷ s) [] n m = absurd (omega arith)
concat_both (a ∷ s) (b ∷ t) n m = refl

-- ---- the first n bytes of a buffer, joined with a text in place

module _ (d t : List ℕ) (n : ℕ) where
  pub concat_start : n ≡ 0 → concat_paths (take n d) t ≡ t
  concat_start e = rw e (concat_first [] t refl)

  pub concat_past : (n ≡ 0 → ⊥) → (length t ≡ 0 → ⊥) → length d ≤ n → length d < length (concat_paths (take n d) t)
  concat_past n0 t0 h =
      rw (take_all n d h)
      (order 0 (length d)
      (λ l. rw (concat_both d t l (omega arith)) (simp length-append (omega arith)))
      (λ l. rw (concat_first d t (omega arith)) (omega arith)))

  module _ (first : n ≡ 0 → ⊥) (second : length t ≡ 0 → ⊥) (inside : n < length d) where
    concat_is : concat_paths (take n d) t ≡ take n d ++ 46 ∷ t
    concat_is = concat_both (take n d) t (rw (length-take-le n d (omega arith)) (omega arith)) (omega arith)

    pub length-concat : length (concat_paths (take n d) t) ≡ n + 1 + length t
    length-concat = rw (concat_is, length-append (take n d) (46 ∷ t), length-take-le n d (omega arith)) (omega arith)

    -- a dot behind the first n bytes, and the text behind the dot
    pub splice-concat : n + 1 + length t ≤ length d → splice (set d n 46) (n + 1) t ≡ splice d 0 (concat_paths (take n d) t)
    unfolding splice
    splice-concat h =
        let p : take (n + 1) (set d n 46) ≡ take n d ++ (46 ∷ []) = rw add-one (take-suc-set d n 46 inside) in
        let q : drop (n + 1 + length t) (set d n 46) ≡ drop (n + 1 + length t) d = drop-set-lt (n + 1 + length t) d n 46 (omega arith) in
        let e : 0 + length (concat_paths (take n d) t) ≡ n + 1 + length t = zero-add (length (concat_paths (take n d) t)) ∙ length-concat in
        rw (e, p, q, concat_is, append_snoc (take n d) 46 t)

-- ---- what is written to the front of a buffer

pub front_fits : (d t : List ℕ) → length t ≤ length d → front_answer d t ≡ Some (length t)
front_fits d t h = rw (le-leb (length t) (length d) h)

pub front_short : (d t : List ℕ) → length d < length t → front_answer d t ≡ None
front_short d t h = rw (lt-leb (length t) (length d) h)

-- what an answer tells of the room
pub front_none : (d t : List ℕ) → None ≡ front_answer d t → length d < length t
front_none d t e = order (length d) (length t) (λ h. h) (λ h. absurd (none-some (length t) (e ∙ front_fits d t h)))

pub front_some : (d t : List ℕ) (m : ℕ) → Some m ≡ front_answer d t → (m ≡ length t) × (length t ≤ length d)
front_some d t m e = order (length d) (length t) (λ h. absurd (none-some m (sym (e ∙ front_short d t h)))) (λ h. (same_Some m (length t) (e ∙ front_fits d t h), h))

-- how much lies behind the first n bytes
pub length-behind : (d : List ℕ) (n : ℕ) → length (part n (length d - n) d) ≡ length d - n
length-behind d n = ap length (part_all d n) ∙ length-drop n d

pub fronted_nil : (d : List ℕ) → fronted d [] ≡ d
fronted_nil d = fronted_fits d [] (omega arith) ∙ splice_nil d 0

-- ---- names beneath a package

-- beneath no package: the dot alone decides
pub lies_root : (s p : List ℕ) → length p ≡ 0 → lies_beneath s p ≡ is_prefix_of (46 ∷ []) s
unfolding lies_beneath
lies_root s [] z = refl
lies_root s (a ∷ p) z = absurd (omega arith)

-- beneath a package: a dot, it, then a dot
pub lies_more : (s p : List ℕ) → (length p ≡ 0 → ⊥)
    → lies_beneath s p ≡ is_prefix_of (46 ∷ []) s && (is_prefix_of p (drop 1 s) && is_prefix_of (46 ∷ []) (drop (length p) (drop 1 s)))
unfolding lies_beneath
lies_more s [] n = absurd (n refl)
lies_more s (a ∷ p) n = prefix_append (46 ∷ []) ((a ∷ p) ++ (46 ∷ [])) s ∙ ap (λ v. is_prefix_of (46 ∷ []) s && v) (prefix_append (a ∷ p) (46 ∷ []) (drop 1 s))

-- beneath any: a dot first
pub lies_dot : (s p : List ℕ) → is_prefix_of (46 ∷ []) s ≡ false → lies_beneath s p ≡ false
lies_dot s p e = equal (length p) 0 (λ z. lies_root s p z ∙ e) (λ n. lies_more s p n ∙ simp e)

pub lead_root : (p : List ℕ) → length p ≡ 0 → length (lead_of p) ≡ 1
unfolding lead_of
lead_root [] h = refl
lead_root (a ∷ p) h = absurd (omega arith)

pub lead_more : (p : List ℕ) → (length p ≡ 0 → ⊥) → length (lead_of p) ≡ length p + 2
unfolding lead_of
lead_more [] n = absurd (n refl)
lead_more (a ∷ p) n = simp length-append (omega arith)

pub rest_none : (s p : List ℕ) → lies_beneath s p ≡ false → rest_beneath s p ≡ []
unfolding rest_beneath
rest_none s p e = rw e

pub rest_some : (s p : List ℕ) → lies_beneath s p ≡ true → rest_beneath s p ≡ drop (length (lead_of p)) s
unfolding rest_beneath
rest_some s p e = rw e

-- what stripping answers where the name lies beneath, and where not
pub stripped_none : (s p : List ℕ) → lies_beneath s p ≡ false → None ≡ (if lies_beneath s p then Some (rest_beneath s p) else None)
stripped_none s p e = rw e

pub stripped_some : (s p r : List ℕ) → lies_beneath s p ≡ true → r ≡ drop (length (lead_of p)) s → Some r ≡ (if lies_beneath s p then Some (rest_beneath s p) else None)
stripped_some s p r e h = rw (e, rest_some s p e, h)

-- what stripping the last dot answers, behind a dot and the package
pub stripped_last : (s p t : List ℕ) (o : Option (Bor (List ℕ))) → (length p ≡ 0 → ⊥) → is_prefix_of (46 ∷ []) s ≡ true → is_prefix_of p (drop 1 s) ≡ true → t ≡ drop (length p) (drop 1 s)
    → MatchOption o (pointwise eqb (take 1 t) (46 ∷ []) ≡ false) (λ x. (pointwise eqb (take 1 t) (46 ∷ []) ≡ true) × (x.now ≡ drop 1 t) × (length x.now + 1 ≡ length t))
    → option_map (λ x. x.now) o ≡ (if lies_beneath s p then Some (rest_beneath s p) else None)
stripped_last s p t None n d q is h =
    let e : is_prefix_of (46 ∷ []) t ≡ false = sym (prefix_taken (46 ∷ []) t) ∙ h in
    stripped_none s p (lies_more s p n ∙ simp (d, q, ← is, e))
stripped_last s p t (Some x) n d q is h =
    let e : is_prefix_of (46 ∷ []) t ≡ true = sym (prefix_taken (46 ∷ []) t) ∙ h.0 in
    let k : (1 + length p) + 1 ≡ length (lead_of p) = omega (arith, lead_more p n) in
    let j : drop 1 t ≡ drop 1 (drop (1 + length p) s) = ap (drop 1) (is ∙ drop-drop (length p) 1 s) in
    let i : drop 1 (drop (1 + length p) s) ≡ drop (length (lead_of p)) s = drop-drop 1 (1 + length p) s ∙ ap (λ m. drop m s) k in
    stripped_some s p x.now (lies_more s p n ∙ simp (d, q, ← is, e)) (h.1 ∙ j ∙ i)

-- `o.unwrap_or(d)`, where o holds r if b, and d is empty
pub unwrapped : (o : Option (Bor (List ℕ))) (d : Bor (List ℕ)) (b : Bool) (r : List ℕ) → option_map (λ x. x.now) o ≡ (if b then Some r else None) → (b ≡ false → r ≡ []) → d.now ≡ []
    → (unwrap_or o d).now ≡ r
unwrapped None d true r e z h = absurd (none-some r e)
unwrapped None d false r e z h = h ∙ sym (z refl)
unwrapped (Some x) d true r e z h = same_Some x.now r e
unwrapped (Some x) d false r e z h = absurd (none-some x.now (sym e))
