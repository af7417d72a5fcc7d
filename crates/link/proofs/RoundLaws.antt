-- Laws of the rounds: a round takes the words of chains up to k to those up to k + 1, and a round that sets nothing is the last. Assumes nothing.
use mathlib.Core.Path.{◌≡◌, refl, sym, ap, ◌∙◌}
use mathlib.Core.Bool.{true, false, cond, ◌&&◌}
use mathlib.Core.List.{List}
use Prim.Native.Nat.{ℕ, suc, ◌+◌, ◌-◌, ◌<◌, ◌≤◌}
use native.Mathlib.Decide.{le_ind}
use native.Mathlib.Numerals.{add-one}
use native.Mathlib.Omega.{arith}
use lib.Dec.{eqb, ltb}
use lib.ListN.{length, get_or}
use borrow.Author.Tests.{eqb-true, eq-eqb, ne_eqb, lt-ltb, le-ltb}
use Rattle.lists.specs.Below.{any_below, first_below}
use Rattle.lists.proofs.Cases.{by, order, both, left, right, clash}
use Rattle.lists.proofs.BelowLaws.{any_below_hit, any_below_elim, any_below_none}
use Rattle.lists.proofs.TableLaws.{as_table}
use Rattle.link.specs.Chain.{Graph, no_chain, reach, distance}
use Rattle.link.specs.Edges.{from, to, InFile, graph_by, seeded, hit, stepped, distance_table}
use Rattle.link.proofs.ChainLaws.{reach_step, Exact, exact_down, up_to, up_to_is, up_to_none, up_to_cases}
use Rattle.link.proofs.TurnLaws.{All}

-- ---- where no shortest chain is k, none is longer

stable : (g : Graph) (k : ℕ) → ((i : ℕ) → i < g.n → Exact g k i → ⊥) → (m : ℕ) → k ≤ m → (i : ℕ) → i < g.n → Exact g m i → ⊥
stable g k free m l =
    le_ind (λ m. (i : ℕ) → i < g.n → Exact g m i → ⊥) free
    (λ m l ih i b e. let r = exact_down g m i e in ih r.to r.below r.rest) m l

stays : (g : Graph) (k : ℕ) → ((i : ℕ) → i < g.n → Exact g k i → ⊥) → (b : ℕ) → k ≤ b → (i : ℕ) → i < g.n → up_to g b i ≡ up_to g k i
stays g k free b l i li =
    up_to_cases g b i
    (λ m lm e q. order m k (λ lt. q ∙ sym (up_to_is g k m i lt e)) (λ ge. absurd (stable g k free m ge i li e)))
    (λ h q. q ∙ sym (up_to_none g k i (λ m lm. h m (omega arith))))

-- ---- the words of chains below b

unfoldable pub word_at : Graph → ℕ → ℕ → ℕ
word_at g b i = cond (ltb i g.n) (up_to g b i) no_chain

in_file : (g : Graph) (b i : ℕ) → i < g.n → word_at g b i ≡ up_to g b i
unfolding word_at
in_file g b i l = simp (lt-ltb i g.n l)

out_of_file : (g : Graph) (b i : ℕ) → g.n ≤ i → word_at g b i ≡ no_chain
unfolding word_at
out_of_file g b i l = simp (le-ltb i g.n l)

-- ---- the graph of m references and a list of causes

module _ (es : List ℕ) (m : ℕ) (cs : List ℕ) (n : ℕ) where
  pub seeded-word : (i : ℕ) → seeded cs n i ≡ word_at (graph_by es m cs n) 1 i
  unfolding seeded word_at first_below reach
  seeded-word i = by (ltb i n) (λ t. simp t) (λ t. simp t)

  refers_intro : (x i j : ℕ) → x < m → from es x ≡ i → to es x ≡ j → (graph_by es m cs n).refers i j ≡ true
  refers_intro x i j l p q =
      any_below_hit m (λ x. eqb (from es x) i && eqb (to es x) j) x l
      (both (eqb (from es x) i) (eqb (to es x) j) (eq-eqb (from es x) i p) (eq-eqb (to es x) j q))

  refers_elim : (i j : ℕ) → (graph_by es m cs n).refers i j ≡ true → (x : ℕ) × (x < m) × (from es x ≡ i) × (to es x ≡ j)
  refers_elim i j h =
      let r = any_below_elim m (λ x. eqb (from es x) i && eqb (to es x) j) h in
      let x = r.0 in
      (x, r.1, eqb-true (from es x) i (left (eqb (from es x) i) (eqb (to es x) j) r.2), eqb-true (to es x) j (right (eqb (from es x) i) (eqb (to es x) j) r.2))

-- ---- a round over words of chains below k + 1

module _ (es : List ℕ) (m : ℕ) (cs : List ℕ) (n : ℕ) (few : n ≤ 256) (ends : InFile es m n) (d : List ℕ) (k : ℕ) (room : k + 1 < n) (words : All d (word_at (graph_by es m cs n) (k + 1))) where
  -- a word that is k is a shortest chain of k
  word_exact : (j : ℕ) → j < n → get_or d j 0 ≡ k → Exact (graph_by es m cs n) k j
  word_exact j l h =
      let w : up_to (graph_by es m cs n) (k + 1) j ≡ k = sym (in_file (graph_by es m cs n) (k + 1) j l) ∙ sym (words j (omega arith)) ∙ h in
      up_to_cases (graph_by es m cs n) (k + 1) j (λ x lx e q. rw (sym q ∙ w) at e) (λ _ q. absurd (omega arith))

  exact_word : (j : ℕ) → j < n → Exact (graph_by es m cs n) k j → get_or d j 0 ≡ k
  exact_word j l e =
      words j (omega arith) ∙ in_file (graph_by es m cs n) (k + 1) j l ∙ up_to_is (graph_by es m cs n) (k + 1) k j (omega arith) e

  -- a message with no chain of k or less is hit exactly if it has one of k + 1
  hit_exact : (i : ℕ) → ((l : ℕ) → l < k + 1 → reach (graph_by es m cs n) l i ≡ false) → any_below m (hit es d k i) ≡ true
      → Exact (graph_by es m cs n) (suc k) i
  unfolding hit
  hit_exact i free h =
      let r = any_below_elim m (λ x. eqb (from es x) i && eqb (get_or d (to es x) 0) k) h in
      let x = r.0 in
      let f = eqb-true (from es x) i (left (eqb (from es x) i) (eqb (get_or d (to es x) 0) k) r.2) in
      let t = eqb-true (get_or d (to es x) 0) k (right (eqb (from es x) i) (eqb (get_or d (to es x) 0) k) r.2) in
      let b = (ends.ends x r.1).1 in
      record {
        has = reach_step (graph_by es m cs n) k i (to es x) b (refers_intro es m cs n x i (to es x) r.1 f refl) (word_exact (to es x) b t).has;
        first = λ l z. free l (omega arith);
      }

  exact_hit : (i : ℕ) → Exact (graph_by es m cs n) (suc k) i → any_below m (hit es d k i) ≡ true
  unfolding hit
  exact_hit i e =
      let r = exact_down (graph_by es m cs n) k i e in
      let x = refers_elim es m cs n i r.to r.refer in
      let w : get_or d (to es x.0) 0 ≡ k = rw x.3 (exact_word r.to r.below r.rest) in
      any_below_hit m (λ x. eqb (from es x) i && eqb (get_or d (to es x) 0) k) x.0 x.1
      (both (eqb (from es x.0) i) (eqb (get_or d (to es x.0) 0) k) (eq-eqb (from es x.0) i x.2) (eq-eqb (get_or d (to es x.0) 0) k w))

  no_hit : (i : ℕ) → n ≤ i → any_below m (hit es d k i) ≡ false
  unfolding hit
  no_hit i ge =
      any_below_none m (λ x. eqb (from es x) i && eqb (get_or d (to es x) 0) k)
      (λ x l. simp (ne_eqb (from es x) i (λ q. absurd (omega (arith, (ends.ends x l).0)))))

  -- the round gives the words of chains below k + 2
  pub turned : (i : ℕ) → i < 256 → stepped es d k m i ≡ word_at (graph_by es m cs n) (k + 1 + 1) i
  unfolding stepped
  turned i l =
      order i n
      (λ li. rw (words i l, in_file (graph_by es m cs n) (k + 1) i li, in_file (graph_by es m cs n) (k + 1 + 1) i li)
      (up_to_cases (graph_by es m cs n) (k + 1) i
      (λ x lx e q. rw (q, ne_eqb x no_chain (omega arith)) (sym (up_to_is (graph_by es m cs n) (k + 1 + 1) x i (omega arith) e)))
      (λ free q. rw q
      (by (any_below m (hit es d k i))
      (λ t. rw t (add-one k ∙ sym (up_to_is (graph_by es m cs n) (k + 1 + 1) (suc k) i (omega arith) (hit_exact i free t))))
      (λ t. rw t (sym (up_to_none (graph_by es m cs n) (k + 1 + 1) i
      (λ x lx. order x (k + 1) (λ a. free x a)
      (λ a. by (reach (graph_by es m cs n) x i)
      (λ y. let z : x ≡ suc k = omega arith in clash (any_below m (hit es d k i)) (exact_hit i (record { has = rw z at y; first = λ l b. free l (omega arith) })) t)
      (λ y. y))))))))))
      (λ ge. rw (words i l, out_of_file (graph_by es m cs n) (k + 1) i ge, out_of_file (graph_by es m cs n) (k + 1 + 1) i ge)
      (rw (no_hit i ge)))

  -- a round that sets nothing is the last
  pub stopped : ((i : ℕ) → i < 256 → stepped es d k m i ≡ get_or d i 0) → (i : ℕ) → word_at (graph_by es m cs n) (k + 1) i ≡ word_at (graph_by es m cs n) n i
  stopped same i =
      let free : (j : ℕ) → j < n → Exact (graph_by es m cs n) (k + 1) j → ⊥ = λ j l e.
      let a : up_to (graph_by es m cs n) (k + 1) j ≡ k + 1 = sym (in_file (graph_by es m cs n) (k + 1) j l) ∙ sym (words j (omega arith)) ∙ sym (same j (omega arith)) ∙ turned j (omega arith) ∙ in_file (graph_by es m cs n) (k + 1 + 1) j l ∙ up_to_is (graph_by es m cs n) (k + 1 + 1) (k + 1) j (omega arith) e in
      up_to_cases (graph_by es m cs n) (k + 1) j (λ x lx _ q. omega arith) (λ _ q. omega arith) in
      order i n
      (λ l. in_file (graph_by es m cs n) (k + 1) i l ∙ sym (stays (graph_by es m cs n) (k + 1) free n (omega arith) i l) ∙ sym (in_file (graph_by es m cs n) n i l))
      (λ l. out_of_file (graph_by es m cs n) (k + 1) i l ∙ sym (out_of_file (graph_by es m cs n) n i l))

-- ---- the outcome

-- all rounds done
pub at_end : (g : Graph) (k i : ℕ) → k ≤ g.n - 1 → g.n ≤ k + 1 → word_at g (k + 1) i ≡ word_at g g.n i
at_end g k i a b =
    order i g.n
    (λ l. ap (λ (x : ℕ). word_at g x i) (omega arith))
    (λ l. out_of_file g (k + 1) i l ∙ sym (out_of_file g g.n i l))

pub outcome : (es : List ℕ) (m : ℕ) (cs : List ℕ) (n : ℕ) (d : List ℕ) → length d ≡ 256 → All d (word_at (graph_by es m cs n) n)
    → d ≡ distance_table es m cs n
unfolding distance_table word_at distance
outcome es m cs n d len h = as_table d 256 (word_at (graph_by es m cs n) n) 0 len h
