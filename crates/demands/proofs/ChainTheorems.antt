-- What the recorded marks mean, of demand 3: a message is marked exactly if a chain of references leads from it to a message with a cause of its
-- own, and the word recorded is then the length of the shortest such chain. Where `no_chain` is told from a length, the graph has at most
-- `no_chain` messages; a file has at most 256. Assumes nothing.
use mathlib.Core.Path.{◌≡◌}
use mathlib.Core.Logic.{◌⊎◌, inl, inr, ⊎_elim, ◌↔◌}
use Prim.Native.Nat.{ℕ, ◌<◌, ◌≤◌}
use native.Mathlib.Omega.{arith}
use Rattle.link.specs.Chain.{Graph, Marked, Distance, no_chain, distance}
use Rattle.link.proofs.ChainLaws.{chain-reach, reach-chain, exact_bound, shortest, exact_distance, up_to_is, up_to_cases}

-- the word recorded is `no_chain`, or below the number of messages
pub distance_or : (g : Graph) (i : ℕ) → (distance g i ≡ no_chain) ⊎ (distance g i < g.n)
unfolding distance
distance_or g i = up_to_cases g g.n i (λ k b e q. inr (rw q b)) (λ free q. inl q)

-- a message is marked exactly if its word is below the number of messages
pub marked-distance : (g : Graph) (i : ℕ) → i < g.n → g.n ≤ no_chain → (Marked g i ↔ (distance g i < g.n))
unfolding distance
marked-distance g i l few = (
  λ m. let s = shortest g m.0 i (chain-reach g m.1) in
      let b = exact_bound g s.0 i l s.2 in
      rw (up_to_is g g.n s.0 i b s.2) b,
  λ h. up_to_cases g g.n i (λ k b e q. (k, reach-chain g k i e.has)) (λ free q. absurd (omega arith)),
)

-- a message is not marked exactly if its word is `no_chain`
pub unmarked-distance : (g : Graph) (i : ℕ) → i < g.n → g.n ≤ no_chain → ((Marked g i → ⊥) ↔ (distance g i ≡ no_chain))
unmarked-distance g i l few = (
  λ free. ⊎_elim (λ q. q) (λ b. absurd (free ((marked-distance g i l few).1 b))) (distance_or g i),
  λ q m. absurd (omega (arith, (marked-distance g i l few).0 m)),
)

-- where a message is marked, its word is the length of the shortest chain
pub distance-shortest : (g : Graph) (i : ℕ) → i < g.n → Marked g i → Distance g i (distance g i)
unfolding distance
distance-shortest g i l m =
    let s = shortest g m.0 i (chain-reach g m.1) in
    rw (up_to_is g g.n s.0 i (exact_bound g s.0 i l s.2) s.2) (exact_distance g s.0 i s.2)
