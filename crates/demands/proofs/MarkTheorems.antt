-- Demand 3, over the words that an accepted call writes: each message's mark is true, and so is what is read of it. Assumes nothing.
use mathlib.Core.Path.{◌≡◌, refl, sym, ap, ◌∙◌}
use mathlib.Core.Logic.{◌↔◌}
use mathlib.Core.List.{◌++◌}
use Prim.Native.Nat.{ℕ, ◌+◌, ◌<◌, ◌≤◌}
use native.Mathlib.Omega.{arith}
use lib.Dec.{eqb}
use lib.ListN.{length, length-append, get_or-append}
use lib.Seq.{get_or-append-add}
use borrow.Author.Tests.{eq-eqb, ne_eqb, eqb-true}
use Rattle.std.specs.Prelude.{Ok}
use Rattle.lists.specs.Below.{bit}
use Rattle.lists.proofs.Cases.{by, either}
use Rattle.image.specs.Words.{word_at}
use Rattle.image.specs.Record.{message_link_at, end_words}
use Rattle.image.specs.LinkTests.{no_distance}
use Rattle.image.specs.declared.shelf.Used.{Used}
use Rattle.link.specs.Search.{searched}
use Rattle.link.specs.Chain.{Graph, Marked, Distance, no_chain, distance}
use Rattle.link.specs.Marks.{graph_of}
use Rattle.link.specs.Refusals.{Call, said, seen, new_file}
use Rattle.link.specs.Link.{linked}
use Rattle.link.specs.Audit.{mark_by, read_mark}
use Rattle.link.specs.declared.audit.Mark.{Mark}
use Rattle.link.specs.declared.audit.Mark.TheVariants.{AlwaysInitialised, MayBeIncomplete}
use Rattle.demands.specs.Demands.{graph_of_call, message_written_at, always_word, distance_word, EachMarkTrue, EachMarkRead}
use Rattle.demands.proofs.ChainTheorems.{distance_or, marked-distance, distance-shortest}
use Rattle.link.proofs.PhaseLaws.{all_links-length}
use Rattle.demands.proofs.RowFacts.{always_word_lem, distance_word_lem}
use Rattle.demands.proofs.Demands.{accepted_verdict, acceptance_appends}
use Rattle.demands.proofs.ShelfTheorems.{passed_sound}

-- a mark is not both
marks_differ : {C : Type 0} (a : Mark) {d : ℕ} → a ≡ MayBeIncomplete d → AlwaysInitialised ≡ a → C
marks_differ a e f = cc

-- ---- the two words of a mark, for a graph of few messages

module _ (g : Graph) (i : ℕ) (l : i < g.n) (few : g.n ≤ 256) {always far : ℕ} (a : always ≡ bit (eqb (distance g i) no_chain)) (d : far ≡ distance g i) where
  -- the word is 1 without a distance, or 0 with one
  unmarked_words : distance g i ≡ no_chain → (always ≡ 1) × (far ≡ no_distance)
  unmarked_words e = (a ∙ ap bit (eq-eqb (distance g i) no_chain e), d ∙ e)

  marked_words : distance g i < g.n → (always ≡ 0) × (far < g.n)
  marked_words h = let apart : distance g i ≡ no_chain → ⊥ = λ e. omega arith in (a ∙ ap bit (ne_eqb (distance g i) no_chain apart), omega arith)

  zero_below : always ≡ 0 → distance g i < g.n
  zero_below z = either (distance_or g i) (λ e. absurd (omega (arith, (unmarked_words e).0))) (λ h. h)

  pub zero_marked : always ≡ 0 → Marked g i
  zero_marked z = (marked-distance g i l (omega arith)).1 (zero_below z)

  pub marked_zero : Marked g i → always ≡ 0
  marked_zero m = (marked_words ((marked-distance g i l (omega arith)).0 m)).0

  pub zero_shortest : always ≡ 0 → Distance g i far
  zero_shortest z = rw d (distance-shortest g i l (zero_marked z))

  pub zero_few : always ≡ 0 → far < g.n
  zero_few z = (marked_words (zero_below z)).1

  pub not_zero : (always ≡ 0 → ⊥) → (always ≡ 1) × (far ≡ no_distance)
  not_zero n = either (distance_or g i) unmarked_words (λ h. absurd (n (marked_words h).0))

  -- ---- as a mark that is read

  pub read_incomplete : (k : ℕ) → (mark_by always far ≡ MayBeIncomplete k) ↔ Distance g i k
  read_incomplete k = (
    (λ t. by
        (eqb always 0)
        (λ e. let alike : MayBeIncomplete far ≡ MayBeIncomplete k = rw e at t in
        let is : far ≡ k = cc in
        rw is at (zero_shortest (eqb-true always 0 e)))
        (λ e. marks_differ (MayBeIncomplete k) refl (rw e at t))),
    (λ s. let z = marked_zero (k, s.chain) in
        let is : far ≡ k = omega (arith, s.least far (zero_shortest z).chain, (zero_shortest z).least k s.chain) in
        rw (eq-eqb always 0 z, is)),
  )

  pub read_always : (mark_by always far ≡ AlwaysInitialised) ↔ (Marked g i → ⊥)
  read_always = (
    (λ t m. let e = eq-eqb always 0 (marked_zero m) in marks_differ (MayBeIncomplete far) refl (sym (rw e at t))),
    (λ free. by (eqb always 0) (λ e. absurd (free (zero_marked (eqb-true always 0 e)))) (λ e. rw e)),
  )

-- ---- where they stand

module _ (c : Call) (u : Used) (h : (linked c).answer ≡ Ok u) where
  -- a word of the link rows, on the shelf
  written-word : (k : ℕ) → k < length (new_file c).links → word_at (linked c).words (c.used.words + (length c.image + k)) ≡ word_at (new_file c).links k
  written-word k l =
      let links = (new_file c).links in
      let end = end_words (new_file c) c.used.words c.used.bytes in
      (acceptance_appends c u h).words.there (length c.image + k) (omega (arith, length-append c.image (links ++ end), length-append links end))
      ∙ get_or-append-add c.image (links ++ end) k 0
      ∙ get_or-append links end 0 k l

  module _ (m : ℕ) (l : m < (said c).messages) where
    -- word k of the link row of message m
    row_word : (k : ℕ) → k < 10 → word_at (linked c).words (message_written_at c m + k) ≡ word_at (new_file c).links (message_link_at m + k)
    row_word k s =
        let size = all_links-length (seen c) (searched (seen c)) (passed_sound c (accepted_verdict c h).0) in
        let e : message_written_at c m + k ≡ c.used.words + (length c.image + (message_link_at m + k)) = omega arith in
        ap (word_at (linked c).words) e ∙ written-word (message_link_at m + k) (omega (arith, size))

    always_is : always_word c m ≡ bit (eqb (distance (graph_of_call c) m) no_chain)
    always_is = row_word 8 (omega arith) ∙ always_word_lem (seen c) (searched (seen c)) m l

    distance_is : distance_word c m ≡ distance (graph_of_call c) m
    distance_is = row_word 9 (omega arith) ∙ distance_word_lem (seen c) (searched (seen c)) m l

    few-messages : (said c).messages ≤ 256
    few-messages = (passed_sound c (accepted_verdict c h).0).few-messages

-- ---- the theorems

-- Each mark of an accepted file is true.
pub marks_true : (c : Call) → EachMarkTrue c
unfolding graph_of
marks_true c u h m l =
    let g = graph_of_call c in
    let few = few-messages c u h m l in
    let a = always_is c u h m l in
    let d = distance_is c u h m l in
    record {
      marked = (zero_marked g m l few a d, marked_zero g m l few a d);
      shortest = zero_shortest g m l few a d;
      below = zero_few g m l few a d;
      unmarked = not_zero g m l few a d;
    }

-- And each is read as it is.
pub marks_read : (c : Call) → EachMarkRead c
unfolding graph_of read_mark
marks_read c u h m l =
    let g = graph_of_call c in
    let few = few-messages c u h m l in
    let a = always_word_lem (seen c) (searched (seen c)) m l in
    let d = distance_word_lem (seen c) (searched (seen c)) m l in
    record { incomplete = read_incomplete g m l few a d; always = read_always g m l few a d }
