-- Laws of the two loops that set marks: `seeded` message by message, `stepped` reference by reference. Assumes nothing.
use mathlib.Core.Path.{◌≡◌, refl, sym, ◌∙◌}
use mathlib.Core.Bool.{Bool, true, false, ◌&&◌}
use mathlib.Core.List.{List}
use Prim.Native.Nat.{ℕ, ◌+◌, ◌<◌, ◌≤◌}
use native.Mathlib.Numerals.{add-one}
use native.Mathlib.Omega.{arith}
use lib.Dec.{eqb, ltb}
use lib.ListN.{length, get_or, set, length-set, replicate, length-replicate, get_or-replicate}
use lib.Seq.{get_or-set_same, get_or-set_other}
use borrow.Author.Tests.{eq-eqb, ne_eqb, lt-ltb, le-ltb}
use Rattle.lists.specs.Below.{any_below}
use Rattle.lists.proofs.Cases.{by, order, equal, clash}
use Rattle.link.specs.Chain.{no_chain}
use Rattle.link.specs.Edges.{from, to, seeded, hit, stepped}

-- ---- 256 words

-- every word of d is what f says
abbrev pub All : List ℕ → (ℕ → ℕ) → Type 0
All d f = (j : ℕ) → j < 256 → get_or d j 0 ≡ f j

-- a store at i takes f to f', where f' is v at i and f elsewhere
pub all_set : (d : List ℕ) (f f' : ℕ → ℕ) (i v : ℕ) → length d ≡ 256 → i < 256 → All d f → f' i ≡ v → ((j : ℕ) → (j ≡ i → ⊥) → f' j ≡ f j)
    → All (set d i v) f'
all_set d f f' i v len l h here other j m =
    equal j i
    (λ e. rw e (get_or-set_same d i v 0 (omega arith) ∙ sym here))
    (λ e. get_or-set_other d i j v 0 e ∙ h j m ∙ sym (other j e))

pub all_keep : (d : List ℕ) (f f' : ℕ → ℕ) → All d f → ((j : ℕ) → f' j ≡ f j) → All d f'
all_keep d f f' h same j m = h j m ∙ sym (same j)

-- ---- seeded

module _ (cs : List ℕ) where
  seeded_start : (j : ℕ) → seeded cs 0 j ≡ no_chain
  unfolding seeded
  seeded_start j = simp (le-ltb j 0 (omega arith))

  seeded_hit : (i : ℕ) → (get_or cs i 0 ≡ 0 → ⊥) → seeded cs (i + 1) i ≡ 0
  unfolding seeded
  seeded_hit i e = simp (lt-ltb i (i + 1) (omega arith), ne_eqb (get_or cs i 0) 0 e)

  seeded-not : (n i : ℕ) → get_or cs i 0 ≡ 0 → seeded cs n i ≡ no_chain
  unfolding seeded
  seeded-not n i e = by (ltb i n) (λ t. simp (t, eq-eqb (get_or cs i 0) 0 e)) (λ t. simp t)

  seeded_other : (i j : ℕ) → (j ≡ i → ⊥) → seeded cs (i + 1) j ≡ seeded cs i j
  unfolding seeded
  seeded_other i j e =
      order j i
      (λ l. simp (lt-ltb j i l, lt-ltb j (i + 1) (omega arith)))
      (λ l. simp (le-ltb j i l, le-ltb j (i + 1) (omega arith)))

  seeded_miss : (i : ℕ) → get_or cs i 0 ≡ 0 → (j : ℕ) → seeded cs (i + 1) j ≡ seeded cs i j
  seeded_miss i e j =
      equal j i (λ q. rw q (seeded-not (i + 1) i e ∙ sym (seeded-not i i e))) (λ q. seeded_other i j q)

-- what holds in the loop of `seed` before message i
pub record Seeding (cs : List ℕ) (n i : ℕ) (d : List ℕ) : Type 0 where
  pub at : i ≤ n
  pub len : length d ≡ 256
  pub words : All d (seeded cs i)

module _ {cs : List ℕ} {n : ℕ} where
  pub seeding_start : Seeding cs n 0 (replicate 256 no_chain)
  seeding_start =
      record {
        at = omega arith;
        len = length-replicate 256 no_chain;
        words = λ j l. get_or-replicate 256 j no_chain 0 l ∙ sym (seeded_start cs j);
      }

  pub seeding_hit : {i : ℕ} {d d' : List ℕ} → n ≤ 256 → Seeding cs n i d → i < n → (get_or cs i 0 ≡ 0 → ⊥) → d' ≡ set d i 0 → Seeding cs n (i + 1) d'
  seeding_hit {i} {d} {d'} few t l e q =
      rw q
      (record {
        at = omega arith;
        len = length-set d i 0 ∙ t.len;
        words = all_set d (seeded cs i) (seeded cs (i + 1)) i 0 t.len (omega arith) t.words (seeded_hit cs i e) (λ j x. seeded_other cs i j x);
      })

  pub seeding_miss : {i : ℕ} {d d' : List ℕ} → Seeding cs n i d → i < n → get_or cs i 0 ≡ 0 → d' ≡ d → Seeding cs n (i + 1) d'
  seeding_miss {i} {d} {d'} t l e q =
      rw q
      (record {
        at = omega arith;
        len = t.len;
        words = all_keep d (seeded cs i) (seeded cs (i + 1)) t.words (seeded_miss cs i e);
      })

-- ---- stepped

module _ (es d : List ℕ) (k : ℕ) where
  stepped_start : (j : ℕ) → stepped es d k 0 j ≡ get_or d j 0
  unfolding stepped any_below
  stepped_start j = by (eqb (get_or d j 0) no_chain) (λ t. simp t) (λ t. simp t)

  -- reference e sets nothing at j
  stepped_skip : (e j : ℕ) → (eqb (get_or d j 0) no_chain && hit es d k j e) ≡ false → stepped es d k (e + 1) j ≡ stepped es d k e j
  unfolding stepped any_below
  stepped_skip e j h = rw add-one (by (eqb (get_or d j 0) no_chain) (λ t. simp (t, simp t at h)) (λ t. simp t))

  stepped_hit : (e : ℕ) → get_or d (from es e) 0 ≡ no_chain → get_or d (to es e) 0 ≡ k → stepped es d k (e + 1) (from es e) ≡ k + 1
  unfolding stepped hit any_below
  stepped_hit e a b =
      rw add-one (simp (eq-eqb (get_or d (from es e) 0) no_chain a, eq-eqb (from es e) (from es e) refl, eq-eqb (get_or d (to es e) 0) k b))

  stepped_other : (e j : ℕ) → (j ≡ from es e → ⊥) → stepped es d k (e + 1) j ≡ stepped es d k e j
  unfolding hit
  stepped_other e j h =
      stepped_skip e j (by (eqb (get_or d j 0) no_chain) (λ t. simp (t, ne_eqb (from es e) j (λ q. h (sym q)))) (λ t. simp t))

  -- its target has another word
  pub stepped_far : (e : ℕ) → (get_or d (to es e) 0 ≡ k → ⊥) → (j : ℕ) → stepped es d k (e + 1) j ≡ stepped es d k e j
  unfolding hit
  stepped_far e h j =
      stepped_skip e j
      (by (eqb (get_or d j 0) no_chain)
      (λ t. by (eqb (from es e) j) (λ u. simp (t, u, ne_eqb (get_or d (to es e) 0) k h)) (λ u. simp (t, u)))
      (λ t. simp t))

  -- its source has a word
  pub stepped-set : (e : ℕ) → (get_or d (from es e) 0 ≡ no_chain → ⊥) → (j : ℕ) → stepped es d k (e + 1) j ≡ stepped es d k e j
  unfolding hit
  stepped-set e h j =
      equal j (from es e)
      (λ q. stepped_skip e j (rw q (simp (ne_eqb (get_or d (from es e) 0) no_chain h))))
      (λ q. stepped_other e j q)

-- what holds in the loop of `turn` before reference e
pub record Turning (es : List ℕ) (m k : ℕ) (old : List ℕ) (e : ℕ) (d : List ℕ) (changed : Bool) : Type 0 where
  pub at : e ≤ m
  pub len : length d ≡ 256
  pub words : All d (stepped es old k e)
  pub same : changed ≡ false → All d (λ j. get_or old j 0)

module _ {es : List ℕ} {m k : ℕ} {old : List ℕ} where
  pub turning_start : length old ≡ 256 → Turning es m k old 0 old false
  turning_start h =
      record { at = omega arith; len = h; words = λ j l. sym (stepped_start es old k j); same = λ _ j l. refl }

  pub turning_hit : {e : ℕ} {d d' : List ℕ} {ch ch' : Bool} → Turning es m k old e d ch → e < m → from es e < 256
      → get_or old (from es e) 0 ≡ no_chain → get_or old (to es e) 0 ≡ k → d' ≡ set d (from es e) (k + 1) → ch' ≡ true
      → Turning es m k old (e + 1) d' ch'
  turning_hit {e} {d} {d'} {ch} {ch'} t l f a b p q =
      rw p
      (record {
        at = omega arith;
        len = length-set d (from es e) (k + 1) ∙ t.len;
        words = all_set d (stepped es old k e) (stepped es old k (e + 1)) (from es e) (k + 1) t.len f t.words (stepped_hit es old k e a b) (λ j x. stepped_other es old k e j x);
        same = λ z. clash ch' q z;
      })

  pub turning_skip : {e : ℕ} {d d' : List ℕ} {ch ch' : Bool} → Turning es m k old e d ch → e < m
      → ((j : ℕ) → stepped es old k (e + 1) j ≡ stepped es old k e j) → d' ≡ d → ch' ≡ ch → Turning es m k old (e + 1) d' ch'
  turning_skip {e} {d} {d'} {ch} {ch'} t l s p q =
      rw (p, q)
      (record {
        at = omega arith;
        len = t.len;
        words = all_keep d (stepped es old k e) (stepped es old k (e + 1)) t.words s;
        same = t.same;
      })
