-- Laws of chains: `reach` says that there is one, a shortest one has fewer references than the file has messages, and what the search for the
-- least length finds. Assumes nothing.
use mathlib.Core.Path.{◌≡◌, refl}
use mathlib.Core.Bool.{Bool, true, false, ◌&&◌}
use Prim.Native.Nat.{ℕ, zero, suc, ◌<◌, ◌≤◌}
use native.Mathlib.Omega.{arith}
use Rattle.lists.specs.Below.{any_below, count_below, first_below}
use Rattle.lists.proofs.Cases.{by, order, either, clash, both, left, right}
use Rattle.lists.proofs.BelowLaws.{any_below_hit, any_below_elim, any_below_none, first_none, first_is, least, searched, count_le, count_more}
use Rattle.link.specs.Chain.{Graph, Chain, here, step, Distance, no_chain, reach}

-- ---- reach

pub reach_step : (g : Graph) (k i j : ℕ) → j < g.n → g.refers i j ≡ true → reach g k j ≡ true → reach g (suc k) i ≡ true
unfolding reach
reach_step g k i j l r h =
    any_below_hit g.n (λ j. g.refers i j && reach g k j) j l (both (g.refers i j) (reach g k j) r h)

-- the first reference of a chain, and the rest
pub record Next (g : Graph) (k i : ℕ) : Type 0 where
  pub to : ℕ
  pub below : to < g.n
  pub refer : g.refers i to ≡ true
  pub rest : reach g k to ≡ true

pub reach_next : (g : Graph) (k i : ℕ) → reach g (suc k) i ≡ true → Next g k i
unfolding reach
reach_next g k i h =
    let r = any_below_elim g.n (λ j. g.refers i j && reach g k j) h in
    record {
      to = r.0;
      below = r.1;
      refer = left (g.refers i r.0) (reach g k r.0) r.2;
      rest = right (g.refers i r.0) (reach g k r.0) r.2;
    }

pub chain-reach : (g : Graph) {k i : ℕ} → Chain g k i → reach g k i ≡ true
unfolding reach
chain-reach g (here c) = c
chain-reach g (step {k} {i} {j} l r c) = reach_step g k i j l r (chain-reach g c)

pub reach-chain : (g : Graph) (k i : ℕ) → reach g k i ≡ true → Chain g k i
unfolding reach
reach-chain g zero i h = here h
reach-chain g (suc k) i h = let r = reach_next g k i h in step r.below r.refer (reach-chain g k r.to r.rest)

-- ---- the shortest chain

-- there is a chain of k, and none of less
pub record Exact (g : Graph) (k i : ℕ) : Type 0 where
  pub has : reach g k i ≡ true
  pub first : (l : ℕ) → l < k → reach g l i ≡ false

-- the first reference of a shortest chain, and the rest, which is a shortest chain too
pub record Down (g : Graph) (k i : ℕ) : Type 0 where
  pub to : ℕ
  pub below : to < g.n
  pub refer : g.refers i to ≡ true
  pub rest : Exact g k to

pub exact_down : (g : Graph) (k i : ℕ) → Exact g (suc k) i → Down g k i
exact_down g k i e =
    let r = reach_next g k i e.has in
    record {
      to = r.to;
      below = r.below;
      refer = r.refer;
      rest = record {
        has = r.rest;
        first = λ l m. by (reach g l r.to) (λ t. clash (reach g (suc l) i) (reach_step g l i r.to r.below r.refer t) (e.first (suc l) (omega arith))) (λ t. t);
      };
    }

-- a chain of k or less
abbrev within : Graph → ℕ → ℕ → Bool
within g k i = any_below (suc k) (λ l. reach g l i)

-- where some message's shortest chain is k, more than k messages have a chain of k or less
exact_count : (g : Graph) (k i : ℕ) → i < g.n → Exact g k i → k < count_below g.n (within g k)
exact_count g zero i l e =
    omega (arith, count_more g.n (λ j. false) (within g 0) i l (λ j m t. clash false t refl) refl (any_below_hit 1 (λ l. reach g l i) 0 (omega arith) e.has))
exact_count g (suc k) i l e =
    let d = exact_down g k i e in
    let ih = exact_count g k d.to d.below d.rest in
    let more = count_more g.n (within g k) (within g (suc k)) i l
    (λ j m t. let r = any_below_elim (suc k) (λ x. reach g x j) t in any_below_hit (suc (suc k)) (λ x. reach g x j) r.0 (omega arith) r.2)
    (any_below_none (suc k) (λ x. reach g x i) (λ x m. e.first x m))
    (any_below_hit (suc (suc k)) (λ x. reach g x i) (suc k) (omega arith) e.has) in
    omega arith

-- so a shortest chain has fewer references than there are messages
pub exact_bound : (g : Graph) (k i : ℕ) → i < g.n → Exact g k i → k < g.n
exact_bound g k i l e = omega (arith, exact_count g k i l e, count_le g.n (within g k))

-- where there is a chain there is a shortest
pub shortest : (g : Graph) (k i : ℕ) → reach g k i ≡ true → (l : ℕ) × (l ≤ k) × Exact g l i
shortest g k i h =
    either (least (suc k) (λ l. reach g l i))
    (λ r. (r.at, omega (arith, r.below), record { has = r.has; first = r.first }))
    (λ free. clash (reach g k i) h (free k (omega arith)))

pub exact_least : (g : Graph) (k i l : ℕ) → Exact g k i → reach g l i ≡ true → k ≤ l
exact_least g k i l e h = order l k (λ m. clash (reach g l i) h (e.first l m)) (λ m. m)

pub exact_distance : (g : Graph) (k i : ℕ) → Exact g k i → Distance g i k
exact_distance g k i e =
    record { chain = reach-chain g k i e.has; least = λ l c. exact_least g k i l e (chain-reach g c) }

-- ---- the search for the least length

-- the least length of a chain from i, of those below b, or none
abbrev pub up_to : Graph → ℕ → ℕ → ℕ
up_to g b i = first_below b (λ k. reach g k i) no_chain

pub up_to_is : (g : Graph) (b k i : ℕ) → k < b → Exact g k i → up_to g b i ≡ k
up_to_is g b k i l e = first_is b (λ k. reach g k i) no_chain k l e.has e.first

pub up_to_none : (g : Graph) (b i : ℕ) → ((k : ℕ) → k < b → reach g k i ≡ false) → up_to g b i ≡ no_chain
up_to_none g b i h = first_none b (λ k. reach g k i) no_chain h

pub up_to_cases : {C : Type 0} (g : Graph) (b i : ℕ) → ((k : ℕ) → k < b → Exact g k i → up_to g b i ≡ k → C)
    → (((k : ℕ) → k < b → reach g k i ≡ false) → up_to g b i ≡ no_chain → C) → C
up_to_cases g b i f h =
    searched b (λ k. reach g k i) no_chain (λ r q. f r.at r.below (record { has = r.has; first = r.first }) q) h
