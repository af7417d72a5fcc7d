-- The arrays of `search_list`: stack, marks and answer, as the lists of `Walking`. Assumes nothing.
use mathlib.Core.Path.{◌≡◌, refl, sym, ap, ◌∙◌}
use mathlib.Core.Bool.{true, false}
use mathlib.Core.List.{List, [], ◌∷◌, ◌++◌, append_assoc, reverse, reverse-reverse}
use Prim.Native.Nat.{ℕ, suc, ◌+◌, ◌-◌, ◌<◌, ◌≤◌}
use native.Mathlib.Omega.{arith}
use lib.Dec.{eqb}
use lib.ListN.{length, get_or, take, set, replicate, length-append, length-set, length-replicate, get_or-replicate}
use lib.Seq.{take-suc, set_at, get_or-set_same, get_or-set_other, length-take-le}
use borrow.Author.Tests.{eqb-true, eqb-false}
use Rattle.lists.specs.Below.{bit}
use Rattle.lists.proofs.Cases.{by, or-false}
use Rattle.lists.proofs.TableLaws.{length_table}
use Rattle.image.specs.Schema.{Schema}
use Rattle.image.specs.Record.{File, no_file, says}
use Rattle.link.specs.Search.{has, search_list, Below, listed, import_number, imports_of, publics_of, Searchable}
use Rattle.link.specs.declared.fds.SearchList.{SearchList}
use Rattle.link.proofs.VisitLaws.{Walking, Earlier, has_more, has_last, below_table, walking_start, walking_old, walking_new, walking_end, top_inside, not_full}
use Rattle.link.proofs.PushLaws.{publics_few, publics_below}

-- ---- the words of the answer

abbrev padded : List ℕ → List ℕ
padded l = l ++ replicate (32 - length l) 0

-- one file more
padded_more : (l : List ℕ) (f : ℕ) → length l < 32 → set (padded l) (length l) f ≡ padded (l ++ (f ∷ []))
padded_more l f h =
    let k = 31 - length l in
    let here : 32 - length l ≡ suc k = omega arith in
    let next : 32 - length (l ++ (f ∷ [])) ≡ k = omega (arith, length-append l (f ∷ [])) in
    ap (λ (m : ℕ). set (l ++ replicate m 0) (length l) f) here
    ∙ set_at l 0 (replicate k 0) f (length l) refl
    ∙ sym (append_assoc l (f ∷ []) (replicate k 0))
    ∙ ap (λ (m : ℕ). (l ++ (f ∷ [])) ++ replicate m 0) (sym next)

-- ---- the walk at a moment: `out` is the list so far, and a file is marked where it is in it

pub record Running (publics : ℕ → List ℕ) (n : ℕ) (direct stack : List ℕ) (top : ℕ) (seen found : List ℕ) (count : ℕ) : Type 0 where
  pub out : List ℕ
  pub walking : Walking publics n direct (take top stack) out
  pub stack_size : length stack ≡ 1056
  pub top_in : top ≤ 1056
  pub seen_size : length seen ≡ 32
  pub marks : (j : ℕ) → j < 32 → get_or seen j 0 ≡ bit (has j out)
  pub answer : found ≡ padded out
  pub counted : count ≡ length out

-- what the shelf gives: few files, few imports, each an earlier file; and the imports that the walk starts with
pub record Fit (publics : ℕ → List ℕ) (n : ℕ) (direct : List ℕ) : Type 0 where
  pub few : n ≤ 32
  pub short : (f : ℕ) → f < n → length (publics f) ≤ 32
  pub earlier : Earlier publics n
  pub few_direct : length direct ≤ 32
  pub direct_in : Below n direct

pub fits : (files : List File) (g : Schema) {n : ℕ} → length files ≡ n → Searchable files g → Fit (publics_of files) n (imports_of files g)
fits files g l s =
    rw (← l)
    (record {
      few = s.few;
      short = λ f h. let said = says (get_or files f no_file) in omega (arith, publics_few files said said.imports, s.few-imports f h);
      earlier = λ f h. let said = says (get_or files f no_file) in publics_below files said f said.imports (λ k m. s.earlier f k h m);
      few_direct = omega (arith, s.own-few, length_table g.imports (import_number files g));
      direct_in = below_table (length files) g.imports (import_number files g) s.own_found;
    })

module _ {publics : ℕ → List ℕ} {n : ℕ} {direct : List ℕ} (fit : Fit publics n direct) where
  -- the loop's start: what the walk starts with stands on the stack, reversed
  running_start : {stack : List ℕ} {top : ℕ} → length stack ≡ 1056 → top ≡ length direct → take top stack ≡ reverse direct
      → Running publics n direct stack top (replicate 32 0) (replicate 32 0) 0
  unfolding has
  running_start s t r =
      record {
        out = [];
        walking = rw r (walking_start publics n fit.earlier fit.few_direct fit.direct_in);
        stack_size = s;
        top_in = omega (arith, t, fit.few_direct);
        seen_size = length-replicate {A = ℕ} 32 0;
        marks = λ j l. get_or-replicate 32 j 0 0 l;
        answer = refl;
        counted = refl;
      }

  module _ {stack : List ℕ} {top : ℕ} {seen found : List ℕ} {count : ℕ} (r : Running publics n direct stack top seen found count) (some : 0 < top) where
    -- the file on top
    abbrev pub on_top : ℕ
    on_top = get_or stack (top - 1) 0

    -- the stack as the files below it, and it
    popped : Walking publics n direct (take (top - 1) stack ++ (on_top ∷ [])) r.out
    popped =
        let e : top ≡ suc (top - 1) = omega arith in
        rw (← take-suc stack (top - 1) 0 (omega (arith, r.stack_size, r.top_in)), ← e) r.walking

    pub top_file : on_top < n
    top_file = top_inside publics n fit.earlier (take (top - 1) stack) on_top popped

    marked : get_or seen on_top 0 ≡ bit (has on_top r.out)
    marked = r.marks on_top (omega (arith, top_file, fit.few))

    is_old : (get_or seen on_top 0 ≡ 0 → ⊥) → has on_top r.out ≡ true
    is_old h = by (has on_top r.out) (λ t. t) (λ t. absurd (h (marked ∙ simp t)))

    is_new_lem : get_or seen on_top 0 ≡ 0 → has on_top r.out ≡ false
    is_new_lem h = by (has on_top r.out) (λ t. absurd (omega (arith, h, marked ∙ ap bit t))) (λ t. t)

    pub running_old : (get_or seen on_top 0 ≡ 0 → ⊥) → Running publics n direct stack (top - 1) seen found count
    running_old h =
        record {
          out = r.out;
          walking = walking_old publics n fit.earlier (take (top - 1) stack) on_top popped (is_old h);
          stack_size = r.stack_size;
          top_in = omega (arith, r.top_in);
          seen_size = r.seen_size;
          marks = r.marks;
          answer = r.answer;
          counted = r.counted;
        }

    module _ (h : get_or seen on_top 0 ≡ 0) where
      -- the answer has room
      pub room : count < 32
      room = omega (arith, r.counted, not_full publics n fit.earlier (take (top - 1) stack) on_top popped (is_new_lem h), fit.few)

      -- and so has the stack, for all public imports of the file
      pub stack_room : top - 1 + length (publics on_top) ≤ 1056
      stack_room = omega (arith, room, r.counted, r.walking.room, length-take-le top stack (omega (arith, r.top_in, r.stack_size)), fit.short on_top top_file)

      pub running_new : {stack' : List ℕ} {top' : ℕ} → length stack' ≡ 1056 → top' ≡ top - 1 + length (publics on_top) → take top' stack' ≡ take (top - 1) stack ++ publics on_top
          → Running publics n direct stack' top' (set seen on_top 1) (set found count on_top) (count + 1)
      running_new {stack'} {top'} s t w =
          let there : (j : ℕ) → eqb j on_top ≡ false → has j (r.out ++ (on_top ∷ [])) ≡ has j r.out = λ j e. has_more j on_top r.out ∙ simp e (or-false (has j r.out)) in
          record {
            out = r.out ++ (on_top ∷ []);
            walking = rw w (walking_new publics n fit.earlier (take (top - 1) stack) on_top popped (is_new_lem h) (fit.short on_top top_file));
            stack_size = s;
            top_in = omega (arith, t, stack_room);
            seen_size = length-set seen on_top 1 ∙ r.seen_size;
            marks = λ j l. by (eqb j on_top)
                (λ e. rw (eqb-true j on_top e) (get_or-set_same seen on_top 1 0 (omega (arith, top_file, fit.few, r.seen_size)) ∙ sym (ap bit (has_last on_top r.out))))
                (λ e. get_or-set_other seen on_top j 1 0 (eqb-false j on_top e) ∙ r.marks j l ∙ sym (ap bit (there j e)));
            answer = rw (r.answer, r.counted) (padded_more r.out on_top (omega (arith, room, r.counted)));
            counted = omega (arith, r.counted, length-append r.out (on_top ∷ []));
          }

  pub running_end : {stack : List ℕ} {top : ℕ} {seen found : List ℕ} {count : ℕ} → Running publics n direct stack top seen found count → top ≤ 0
      → ◌≡◌ {A = SearchList} (record { files = found; count = count }) (listed (search_list publics n direct))
  running_end {stack} {top} {seen} {found} {count} r h =
      let z : top ≡ 0 = omega arith in
      let w : Walking publics n direct [] r.out = rw z at r.walking in
      rw (r.answer, r.counted) (ap listed (walking_end publics n fit.earlier w))

-- ---- what the stack holds at the start, last one first, is what the walk starts with

pub held : (direct stack : List ℕ) (top : ℕ) → take top stack ≡ reverse direct → reverse (take top stack) ≡ direct
held direct stack top r = ap (λ (l : List ℕ). reverse l) r ∙ reverse-reverse direct

pub held_start : {publics : ℕ → List ℕ} {n : ℕ} {direct : List ℕ} → Fit publics n direct → (stack : List ℕ) (top : ℕ)
    → length stack ≡ 1056 → top ≡ length direct → take top stack ≡ reverse direct
    → Fit publics n (reverse (take top stack)) × Running publics n (reverse (take top stack)) stack top (replicate 32 0) (replicate 32 0) 0
held_start {publics} {n} {direct} fit stack top s t r = rw (held direct stack top r) (fit, running_start fit s t r)

pub held_end : (publics : ℕ → List ℕ) (n : ℕ) (direct stack : List ℕ) (top : ℕ) → take top stack ≡ reverse direct
    → {l : SearchList} → l ≡ listed (search_list publics n (reverse (take top stack))) → l ≡ listed (search_list publics n direct)
held_end publics n direct stack top r e = e ∙ ap (λ (x : List ℕ). listed (search_list publics n x)) (held direct stack top r)
