-- The words of all link rows that linking writes: the rows of messages with their marks, then the words of enums and oneofs that the image
-- gives, then the rows of fields. All but the fields meet the tests of rule 2 as they stand. Assumes nothing.
use mathlib.Core.Path.{◌≡◌, refl, sym, ap, ◌∙◌}
use mathlib.Core.Logic.{◌⊎◌}
use mathlib.Core.Bool.{true}
use mathlib.Core.List.{List, ◌++◌, append_assoc}
use Prim.Native.Nat.{ℕ, ◌+◌, ◌*◌, ◌-◌, ◌<◌, ◌≤◌}
use native.Mathlib.Omega.{arith}
use lib.Dec.{eqb}
use lib.ListN.{length, take, drop, get_or, length-append, length-drop, get_or-append}
use lib.Seq.{take_at, take_all, drop_at, get_or-drop, get_or-append-add}
use borrow.Author.Tests.{eq-eqb, ne_eqb, lt-ltb}
use Rattle.lists.specs.Below.{bit}
use Rattle.lists.proofs.Cases.{either}
use Rattle.lists.proofs.BelowLaws.{all_below_intro}
use Rattle.lists.proofs.ListLaws.{same_refl}
use Rattle.image.specs.Words.{word_at}
use Rattle.image.specs.Laid.{Sound}
use Rattle.image.specs.Links.{message_link, links_of, link_words, enum_row}
use Rattle.image.specs.Record.{message_link_at}
use Rattle.image.specs.LinkTests.{mark_at, mark_fits, marks_fit, are_given, messages_given, others_given}
use Rattle.image.proofs.LinkLaws.{run, run_length}
use Rattle.image.proofs.IndexLaws.{links-length}
use Rattle.link.specs.Sight.{Sight, own_says}
use Rattle.link.specs.Chain.{Graph, no_chain, distance}
use Rattle.link.specs.Marks.{graph_of}
use Rattle.link.specs.Rows.{field_links, marked_link, all_links}
use Rattle.demands.proofs.ChainTheorems.{distance_or}
use Rattle.link.proofs.RecordLaws.{drop_run, links_row}

-- always initialised 0 with a distance below n, or 1 with none
mark_fits_lem : (n d : ℕ) → n ≤ 256 → (d ≡ no_chain) ⊎ (d < n) → mark_fits n (bit (eqb d no_chain)) d ≡ true
unfolding mark_fits
mark_fits_lem n d few h =
    either h
    (λ e. rw (eq-eqb d no_chain e))
    (λ l. let apart : d ≡ no_chain → ⊥ = λ e. omega arith in rw (ne_eqb d no_chain apart, lt-ltb d n l))

module _ (s : Sight) (list : List ℕ) where
  abbrev graph : Graph
  graph = graph_of s (field_links s list)

  abbrev rows : List ℕ
  rows = run (marked_link (own_says s) graph) 0 (own_says s).messages

  -- the words of enums and oneofs
  abbrev others : List ℕ
  others = drop ((own_says s).messages * 10) (links_of (own_says s))

  links_are : all_links s list ≡ rows ++ (others ++ field_links s list)
  unfolding all_links
  links_are = refl

  rows-length : length rows ≡ (own_says s).messages * 10
  rows-length = run_length (marked_link (own_says s) graph) 10 (λ x. refl) 0 (own_says s).messages

  -- ---- messages

  module _ (m : ℕ) (h : m < (own_says s).messages) where
    row_there : drop (m * 10) (all_links s list) ≡ marked_link (own_says s) graph m ++ drop ((m + 1) * 10) (all_links s list)
    unfolding all_links
    row_there = drop_run (marked_link (own_says s) graph) (λ x. refl) (own_says s).messages m (others ++ field_links s list) h

    -- the two words of its mark
    pub always_word_lem : word_at (all_links s list) (message_link_at m + mark_at) ≡ bit (eqb (distance graph m) no_chain)
    always_word_lem = sym (get_or-drop (m * 10) (all_links s list) 8 0) ∙ ap (λ (l : List ℕ). get_or l 8 0) row_there

    pub distance_word_lem : word_at (all_links s list) (message_link_at m + (mark_at + 1)) ≡ distance graph m
    distance_word_lem = sym (get_or-drop (m * 10) (all_links s list) 9 0) ∙ ap (λ (l : List ℕ). get_or l 9 0) row_there

    -- the words in front of it
    front-given : are_given (own_says s) (all_links s list) (message_link_at m) mark_at ≡ true
    front-given = rw (row_there, links_row (own_says s) m h) (same_refl (take 8 (message_link (own_says s) m)))

  pub messages_given_lem : messages_given (own_says s) (all_links s list) ≡ true
  unfolding messages_given
  messages_given_lem = all_below_intro (own_says s).messages (λ m. are_given (own_says s) (all_links s list) (message_link_at m) mark_at) front-given

  -- ---- the rest

  module _ (ok : Sound (own_says s)) where
    others_length : length others ≡ link_words (own_says s) - (own_says s).messages * 10
    others_length = length-drop ((own_says s).messages * 10) (links_of (own_says s)) ∙ ap (λ (n : ℕ). n - (own_says s).messages * 10) (links-length (own_says s) ok)

    pub marks_fit_lem : marks_fit (own_says s) (all_links s list) ≡ true
    unfolding marks_fit graph_of
    marks_fit_lem =
        let n = (own_says s).messages in
        all_below_intro n (λ m. mark_fits n (word_at (all_links s list) (message_link_at m + mark_at)) (word_at (all_links s list) (message_link_at m + (mark_at + 1))))
        (λ m h. rw (always_word_lem m h, distance_word_lem m h) (mark_fits_lem n (distance graph m) ok.few-messages (distance_or graph m)))

    pub others_given_lem : others_given (own_says s) (all_links s list) ≡ true
    unfolding others_given
    others_given_lem =
        let n = (own_says s).messages * 10 in
        let k = (own_says s).enums * 2 + (own_says s).oneofs * 4 in
        let size : length others ≡ k = omega (arith, others_length) in
        let here : take k (drop n (all_links s list)) ≡ others =
        ap (λ (l : List ℕ). take k (drop n l)) links_are
        ∙ ap (take k) (drop_at rows (others ++ field_links s list) n rows-length)
        ∙ take_at others (field_links s list) k size in
        let there : take k others ≡ others = take_all k others (omega (arith, size)) in
        rw (here, there) (same_refl others)

    -- the image row of an enum
    pub enum_row_kept : (e : ℕ) → e < (own_says s).enums → enum_row (own_says s) (all_links s list) e ≡ enum_row (own_says s) (links_of (own_says s)) e
    enum_row_kept e h =
        let n = (own_says s).messages * 10 in
        ap (λ (l : List ℕ). get_or l (n + e * 2) 0) links_are
        ∙ ap (λ (k : ℕ). get_or (rows ++ (others ++ field_links s list)) (k + e * 2) 0) (sym rows-length)
        ∙ get_or-append-add rows (others ++ field_links s list) (e * 2) 0
        ∙ get_or-append others (field_links s list) 0 (e * 2) (omega (arith, others_length))
        ∙ get_or-drop n (links_of (own_says s)) (e * 2) 0

    -- the words of fields
    pub field-word : (k : ℕ) → word_at (all_links s list) (link_words (own_says s) + k) ≡ word_at (field_links s list) k
    field-word k =
        let size : length (rows ++ others) ≡ link_words (own_says s) = length-append rows others ∙ omega (arith, rows-length, others_length) in
        ap (λ (l : List ℕ). get_or l (link_words (own_says s) + k) 0) (links_are ∙ sym (append_assoc rows others (field_links s list)))
        ∙ ap (λ (n : ℕ). get_or ((rows ++ others) ++ field_links s list) (n + k) 0) (sym size)
        ∙ get_or-append-add (rows ++ others) (field_links s list) k 0
