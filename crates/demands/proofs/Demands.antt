-- Demand 1, and of demand 2 that full names differ. Assumes nothing.
use mathlib.Core.Path.{◌≡◌, refl, sym, ap, ◌∙◌}
use mathlib.Core.Bool.{false}
use mathlib.Core.List.{List}
use Prim.Native.Nat.{ℕ, ◌+◌, ◌≤◌, ◌<◌}
use native.Mathlib.Omega.{arith}
use lib.ListN.{length}
use borrow.Author.Tests.{leb-true}
use Rattle.std.specs.Prelude.{Ok, Err}
use Rattle.lists.specs.Below.{any_below}
use Rattle.lists.specs.Lists.{same}
use Rattle.lists.specs.Splice.{splice}
use Rattle.lists.proofs.Cases.{clash, order, equal}
use Rattle.lists.proofs.BelowLaws.{any_below_false}
use Rattle.lists.proofs.ListLaws.{same_refl}
use Rattle.lists.proofs.SpliceLaws.{length-splice, get_or-splice_in, get_or-splice-before, get_or-splice-behind}
use Rattle.image.specs.Schema.{Schema}
use Rattle.image.specs.Links.{links_of}
use Rattle.image.specs.FullName.{items, full_name, shares_name}
use Rattle.image.specs.Shelf.{used_with}
use Rattle.image.specs.Verdict.{Verdict, first}
use Rattle.image.specs.Judge.{naming_lines}
use Rattle.image.specs.declared.shelf.Used.{Used}
use Rattle.image.specs.declared.verdict.Refused.{Refused}
use Rattle.link.specs.Refusals.{Call, said, new_file, new_record, table}
use Rattle.link.specs.Link.{answer_used, Outcome, outcome, linked}
use Rattle.link.proofs.TableLaws.{naming_group, all_passed, room_pass, none_given, given_none, first_given, given_first}
use Rattle.demands.specs.Demands.{used_after, RefusedExactlyIf, AcceptedExactlyIf, RefusalLeaves, Written, AcceptanceAppends, OneOutcome, NamesDiffer}

-- ---- the outcome, by the table's verdict

module _ (c : Call) where
  pub linked_is : linked c ≡ outcome c (first (table c))
  unfolding linked
  linked_is = refl

  refused_by : (v : Verdict) {r : Refused} → (outcome c v).answer ≡ Err r → v ≡ Err r
  unfolding outcome
  refused_by (Ok t) h = cc
  refused_by (Err r) h = cc

  accepted_by : (v : Verdict) {u : Used} → (outcome c v).answer ≡ Ok u → (v ≡ Ok tt) × (u ≡ used_with c.used (new_file c))
  unfolding outcome
  accepted_by (Ok t) h = (refl, cc)
  accepted_by (Err r) h = cc

  -- the answer says what the verdict was
  pub refused_verdict : {r : Refused} → (linked c).answer ≡ Err r → first (table c) ≡ Err r
  refused_verdict h = refused_by (first (table c)) (ap (λ (o : Outcome). o.answer) (sym linked_is) ∙ h)

  pub accepted_verdict : {u : Used} → (linked c).answer ≡ Ok u → (first (table c) ≡ Ok tt) × (u ≡ used_with c.used (new_file c))
  accepted_verdict h = accepted_by (first (table c)) (ap (λ (o : Outcome). o.answer) (sym linked_is) ∙ h)

  -- and the verdict what the outcome is
  pub linked_stopped : {r : Refused} → first (table c) ≡ Err r → linked c ≡ record { answer = Err r; words = c.words; bytes = c.bytes }
  unfolding outcome
  linked_stopped h = linked_is ∙ rw h

  pub linked_passed : first (table c) ≡ Ok tt
      → linked c ≡ record { answer = Ok (used_with c.used (new_file c)); words = splice c.words c.used.words (new_record c); bytes = splice c.bytes c.used.bytes c.pool }
  unfolding outcome
  linked_passed h = linked_is ∙ rw h

-- ---- a refusal leaves all as it was

pub refusal_leaves : (c : Call) → RefusalLeaves c
refusal_leaves c r h =
    let o = linked_stopped c (refused_verdict c h) in
    record { words = ap (λ (x : Outcome). x.words) o; bytes = ap (λ (x : Outcome). x.bytes) o; numbers = ap (answer_used c.used) h }

-- ---- an acceptance changes only the room just behind what was used

module _ (c : Call) (u : Used) (h : (linked c).answer ≡ Ok u) where
  -- the three numbers, the words and the bytes, as the verdict gives them
  pub accepted_outcome : (u ≡ used_with c.used (new_file c))
      × ((linked c).words ≡ splice c.words c.used.words (new_record c))
      × ((linked c).bytes ≡ splice c.bytes c.used.bytes c.pool)
  accepted_outcome =
      let v = accepted_verdict c h in
      let o = linked_passed c v.0 in
      (v.1, ap (λ (x : Outcome). x.words) o, ap (λ (x : Outcome). x.bytes) o)

  -- there is room for the record and the pool
  pub accepted_fits : (c.used.words + length (new_record c) ≤ length c.words) × (c.used.bytes + length c.pool ≤ length c.bytes)
  accepted_fits =
      let r = room_pass c (all_passed c (accepted_verdict c h).0).room in
      (leb-true (c.used.words + length (new_record c)) (length c.words) r.0, leb-true (c.used.bytes + length c.pool) (length c.bytes) r.1.0)

  pub used_after_lem : used_after c ≡ u
  used_after_lem = ap (answer_used c.used) h

written : (was vs : List ℕ) (at : ℕ) → at + length vs ≤ length was → Written was (splice was at vs) vs at
written was vs at h =
    let l : at ≤ length was = omega arith in
    record {
      room = h;
      size = length-splice was at vs h;
      before = λ k m. get_or-splice-before was at vs k 0 l m;
      there = λ k m. get_or-splice_in was at vs k 0 l m;
      behind = λ k m. get_or-splice-behind was at vs k 0 l m;
    }

pub acceptance_appends : (c : Call) → AcceptanceAppends c
acceptance_appends c u h =
    let o = accepted_outcome c u h in
    let room = accepted_fits c u h in
    record {
      words = rw o.1 (written c.words (new_record c) c.used.words room.0);
      bytes = rw o.2 (written c.bytes c.pool c.used.bytes room.1);
      numbers = used_after_lem c u h ∙ o.0;
    }

-- ---- exactly if

pub refused_exactly_if : (c : Call) → RefusedExactlyIf c
refused_exactly_if c r = (
  (λ h. first_given (table c) r.refusal r.place (refused_verdict c h)),
  (λ g. ap (λ (x : Outcome). x.answer) (linked_stopped c (given_first (table c) r.refusal r.place g))),
)

pub accepted_exactly_if : (c : Call) → AcceptedExactlyIf c
accepted_exactly_if c = (
  (λ h. none_given (table c) (accepted_verdict c h).0),
  (λ n. ap (λ (x : Outcome). x.answer) (linked_passed c (given_none (table c) n))),
)

-- ---- one outcome

pub one_outcome : (c : Call) → OneOutcome c
one_outcome c o p e f = e ∙ sym f

-- ---- full names

module _ (g : Schema) (links : List ℕ) (unshared : shares_name g links ≡ false) where
  earlier_differs : (i j : ℕ) → i < items g → j < i → same (full_name g links i) (full_name g links j) ≡ false
  unfolding shares_name
  earlier_differs i j h l =
      any_below_false i (λ k. same (full_name g links i) (full_name g links k)) (any_below_false (items g) (λ x. any_below x (λ k. same (full_name g links x) (full_name g links k))) unshared i h) j l

  -- two names that are equal are not those of an item and an earlier one
  not_earlier : {C : Type 0} (i j : ℕ) → i < items g → j < i → full_name g links i ≡ full_name g links j → C
  not_earlier i j h l e =
      clash (same (full_name g links i) (full_name g links j)) (ap (same (full_name g links i)) (sym e) ∙ same_refl (full_name g links i)) (earlier_differs i j h l)

  names_differ : (i j : ℕ) → i < items g → j < items g → full_name g links i ≡ full_name g links j → i ≡ j
  names_differ i j h k e =
      order i j (λ l. not_earlier j i k l (sym e)) (λ l. equal i j (λ q. q) (λ n. not_earlier i j h (omega (arith, l, n)) e))

pub accepted_names_differ : (c : Call) → NamesDiffer c
unfolding naming_lines
accepted_names_differ c u h =
    names_differ (said c) (links_of (said c)) (none_given (naming_group c) (all_passed c (accepted_verdict c h).0).naming).0
