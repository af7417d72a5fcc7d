-- `link::is_initialized_is_always_true::distances` meets its contract. Assumes nothing.
use mathlib.Core.Path.{◌≡◌, sym, ap, ◌∙◌}
use Prim.Native.Nat.{ℕ, ◌+◌, ◌-◌, ◌<◌}
use native.Mathlib.Omega.{arith}
use Rattle.std.proofs.Common.{rules}
use Rattle.link.specs.Edges.{graph_by}
use Rattle.link.proofs.TurnLaws.{All}
use Rattle.link.proofs.RoundLaws.{word_at, seeded-word, turned, stopped, at_end, outcome}
use Rattle.link.proofs.is_initialized_is_always_true.distances.Goals as goal

pub loop-k-init : goal.loop-k-init
loop-k-init c = let a = c.args in (omega arith, search rules, λ j l. c.seed-d.ensures j l ∙ seeded-word a.edges.now a.m a.cause.now a.n j)

pub loop-k-preserved : goal.loop-k-preserved
loop-k-preserved c =
    let a = c.args in
    let g = graph_by a.edges.now a.m a.cause.now a.n in
    let k = c.loop-k.k - 1 in
    let e : c.loop-k.k ≡ k + 1 = omega (arith, c.loop-k.auto.k) in
    let room : k + 1 < a.n = omega (arith, e, c.loop-k-test.true) in (
      omega (arith, e, room),
      search rules,
      λ j l.
          c.turn.ensures.words c.in-Some.next c.in-Some.is j l
          ∙ turned a.edges.now a.m a.cause.now a.n c.requires.0 c.requires.2 c.loop-k.d k room (λ i m. c.loop-k.invariant.2 i m ∙ ap (λ (x : ℕ). word_at g x i) e) j l
          ∙ ap (λ (x : ℕ). word_at g (x + 1) j) (sym e),
    )

pub returns-after-loop-k : goal.returns-after-loop-k
returns-after-loop-k c =
    let a = c.args in
    let g = graph_by a.edges.now a.m a.cause.now a.n in
    let k = c.loop-k.k - 1 in
    let e : c.loop-k.k ≡ k + 1 = omega (arith, c.loop-k.auto.k) in
    let full : All c.loop-k.d (word_at g a.n) = λ j l. c.loop-k.invariant.2 j l ∙ ap (λ (x : ℕ). word_at g x j) e ∙ at_end g k j c.loop-k.invariant.0 (omega (arith, e, c.loop-k-test.false)) in
    outcome a.edges.now a.m a.cause.now a.n c.loop-k.d c.loop-k.invariant.1 full

pub returns-in_default : goal.returns-in_default
returns-in_default c =
    let a = c.args in
    let g = graph_by a.edges.now a.m a.cause.now a.n in
    let k = c.loop-k.k - 1 in
    let e : c.loop-k.k ≡ k + 1 = omega (arith, c.loop-k.auto.k) in
    let room : k + 1 < a.n = omega (arith, e, c.loop-k-test.true) in
    let words : All c.loop-k.d (word_at g (k + 1)) = λ i m. c.loop-k.invariant.2 i m ∙ ap (λ (x : ℕ). word_at g x i) e in
    outcome a.edges.now a.m a.cause.now a.n c.loop-k.d c.loop-k.invariant.1
    (λ j m. words j m ∙ stopped a.edges.now a.m a.cause.now a.n c.requires.0 c.requires.2 c.loop-k.d k room words (c.turn.ensures.same c.in_default.is) j)
