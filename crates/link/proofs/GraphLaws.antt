-- Graphs that agree below their number of messages have the same distances; so the references and causes that are read off link rows do. Assumes nothing.
use mathlib.Core.Path.{◌≡◌, refl, sym, ap, ◌∙◌, subst}
use mathlib.Core.Bool.{Bool, true, false, cond, not, ◌&&◌, ◌||◌}
use mathlib.Core.List.{List}
use Prim.Native.Nat.{ℕ, zero, suc, ◌+◌, ◌<◌, ◌≤◌}
use native.Mathlib.Omega.{arith}
use lib.Dec.{eqb, ltb}
use lib.ListN.{length, get_or}
use borrow.Author.Tests.{eqb-true, eq-eqb, lt-ltb}
use Rattle.lists.specs.Below.{bit, any_below, first_below}
use Rattle.lists.proofs.Cases.{by, both, left, right, clash, or-false}
use Rattle.lists.proofs.BelowLaws.{any_below_hit, any_below_elim, any_below_start, any_below_agree, first_agree}
use Rattle.lists.proofs.TableLaws.{get_or_table}
use Rattle.image.specs.Schema.{Schema}
use Rattle.image.specs.Laid.{Sound}
use Rattle.image.specs.Links.{links_of}
use Rattle.image.specs.Walk.{Indexed}
use Rattle.image.specs.Record.{says}
use Rattle.image.proofs.ChainLaws.{links_indexed}
use Rattle.link.specs.Sight.{Sight}
use Rattle.link.specs.Chain.{Graph, no_chain, reach, distance}
use Rattle.link.specs.Marks.{message_refers, graph_of}
use Rattle.link.specs.Edges.{from, to, InFile, graph_by, distance_table, has_cause, is_in, refers_below, Pushed}

-- ---- graphs that agree

pub record Alike (g h : Graph) : Type 0 where
  pub size : g.n ≡ h.n
  pub cause : (i : ℕ) → i < g.n → g.cause i ≡ h.cause i
  pub refers : (i j : ℕ) → i < g.n → j < g.n → g.refers i j ≡ h.refers i j

module _ (g h : Graph) (a : Alike g h) where
  pub reach_alike : (k i : ℕ) → i < g.n → reach g k i ≡ reach h k i
  unfolding reach
  reach_alike zero i l = a.cause i l
  reach_alike (suc k) i l =
      any_below_agree g.n (λ j. g.refers i j && reach g k j) (λ j. h.refers i j && reach h k j)
      (λ j m. ap (λ (b : Bool). b && reach g k j) (a.refers i j l m) ∙ ap (λ (b : Bool). h.refers i j && b) (reach_alike k j m))
      ∙ ap (λ (n : ℕ). any_below n (λ j. h.refers i j && reach h k j)) a.size

  pub distance_alike : (i : ℕ) → i < g.n → distance g i ≡ distance h i
  unfolding distance
  distance_alike i l =
      first_agree g.n (λ k. reach g k i) (λ k. reach h k i) no_chain (λ k m. reach_alike k i l)
      ∙ ap (λ (n : ℕ). first_below n (λ k. reach h k i) no_chain) a.size

-- ---- the graph that is read

-- no reference is there at first, and those that were put are of the file
pub inside_all : {es₀ es : List ℕ} {m k n most : ℕ} {new : ℕ → ℕ → Bool} → n ≡ k → Pushed es₀ 0 es m k most new → InFile es m n
inside_all {es₀} {es} {m} e p = subst (InFile es m) (sym e) (p.inside (record { ends = λ x l. absurd (omega arith) }))

-- of a message of the file, `refers_below` says what its own rows say
refers-here : (g : Schema) (rows : List ℕ) (own n i j : ℕ) → i < n → refers_below g rows own n i j ≡ message_refers g rows i (is_in own j)
refers-here g rows own n i j l =
    let p : ℕ → Bool = λ x. eqb x i && message_refers g rows x (is_in own j) in
    by (message_refers g rows i (is_in own j))
    (λ t. any_below_hit n p i l (both (eqb i i) (message_refers g rows i (is_in own j)) (eq-eqb i i refl) t) ∙ sym t)
    (λ f. by (any_below n p)
    (λ t. let r = any_below_elim n p t in
    let e = eqb-true r.0 i (left (eqb r.0 i) (message_refers g rows r.0 (is_in own j)) r.2) in
    clash (message_refers g rows i (is_in own j)) (ap (λ (x : ℕ). message_refers g rows x (is_in own j)) (sym e) ∙ right (eqb r.0 i) (message_refers g rows r.0 (is_in own j)) r.2) f)
    (λ t. t ∙ sym f))

not_zero : (b : Bool) → not (eqb (bit b) 0) ≡ b
not_zero true = refl
not_zero false = refl

module _ (s : Sight) (rows es₀ es causes : List ℕ) (m n own : ℕ) {most : ℕ} (size : n ≡ (says s.own).messages) (word : own ≡ length s.files + 1)
    (pushed : Pushed es₀ 0 es m n most (refers_below (says s.own) rows own n))
    (caused : (i : ℕ) → i < n → get_or causes i 0 ≡ bit (has_cause (says s.own) s.files rows i)) where
  alike : Alike (graph_by es m causes n) (graph_of s rows)
  unfolding graph_of
  alike =
      record {
        size = size;
        cause = λ i l. ap (λ (x : ℕ). not (eqb x 0)) (caused i l) ∙ not_zero (has_cause (says s.own) s.files rows i);
        refers = λ i j li lj.
            pushed.has i j lj
            ∙ ap (λ (b : Bool). refers_below (says s.own) rows own n i j || b) (any_below_start (λ x. eqb (from es₀ x) i && eqb (to es₀ x) j))
            ∙ or-false (refers_below (says s.own) rows own n i j)
            ∙ refers-here (says s.own) rows own n i j li
            ∙ ap (λ (x : ℕ). message_refers (says s.own) rows i (is_in x j)) word;
      }

  -- its distances are those of the file
  pub marks_read : {d : List ℕ} → n ≤ 256 → d ≡ distance_table es m causes n → (i : ℕ) → i < n → get_or d i 0 ≡ distance (graph_of s rows) i
  unfolding distance_table
  marks_read few e i l =
      ap (λ (x : List ℕ). get_or x i 0) e
      ∙ get_or_table 256 (λ x. cond (ltb x n) (distance (graph_by es m causes n) x) no_chain) i 0 (omega arith)
      ∙ ap (λ (b : Bool). cond b (distance (graph_by es m causes n) i) no_chain) (lt-ltb i n l)
      ∙ distance_alike (graph_by es m causes n) (graph_of s rows) alike i l

-- ---- in the words of the code, where g' is what the image says

module _ {g g' : Schema} (e : g' ≡ g) (ok : Sound g) where
  pub sound_as : Sound g'
  sound_as = subst Sound (sym e) ok

  pub indexed_as : {l : List ℕ} → l ≡ links_of g → Indexed g' l
  indexed_as {l} p = subst (λ (x : Schema). Indexed x l) (sym e) (subst (λ (x : List ℕ). Indexed g x) (sym p) (links_indexed g ok))

  pub few_as : g'.messages ≤ 256
  few_as = subst (λ (x : Schema). x.messages ≤ 256) (sym e) ok.few-messages

module _ (s : Sight) (rows causes : List ℕ) (own : ℕ) {es₀ es : List ℕ} {m n most : ℕ} {g : Schema} (said : g ≡ says s.own) (size : n ≡ g.messages)
    (word : own ≡ length s.files + 1) (pushed : Pushed es₀ 0 es m g.messages most (refers_below g rows own g.messages))
    (caused : (i : ℕ) → i < g.messages → get_or causes i 0 ≡ bit (has_cause g s.files rows i)) where
  pub marks_all : {d : List ℕ} → n ≤ 256 → d ≡ distance_table es m causes n → (i : ℕ) → i < (says s.own).messages → get_or d i 0 ≡ distance (graph_of s rows) i
  marks_all few e i l =
      let k : n ≡ (says s.own).messages = size ∙ ap (λ (x : Schema). x.messages) said in
      marks_read s rows es₀ es causes m n own k word
      (subst (λ (x : ℕ). Pushed es₀ 0 es m x most (refers_below (says s.own) rows own x)) (sym k)
      (subst (λ (x : Schema). Pushed es₀ 0 es m x.messages most (refers_below x rows own x.messages)) said pushed))
      (λ j h. subst (λ (x : Schema). (i : ℕ) → i < x.messages → get_or causes i 0 ≡ bit (has_cause x s.files rows i)) said caused j (omega (arith, k)))
      few e i (omega (arith, k))
