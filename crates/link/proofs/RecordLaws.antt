-- Laws of the record that linking writes: marks in link rows, and its parts one behind the other. Assumes nothing.
use mathlib.Core.Path.{◌≡◌, refl, sym, ap, ◌∙◌}
use mathlib.Core.List.{List, [], ◌∷◌, ◌++◌, append_assoc}
use Prim.Native.Nat.{ℕ, zero, suc, ◌+◌, ◌*◌, ◌-◌, ◌<◌, ◌≤◌}
use native.Mathlib.Nat.{zero-add}
use native.Mathlib.Numerals.{add-one}
use native.Mathlib.Omega.{arith}
use lib.Dec.{eqb}
use lib.ListN.{length, take, drop, get_or, length-append, length-drop}
use lib.Seq.{take_at, drop_at}
use Rattle.lists.specs.Below.{bit}
use Rattle.lists.specs.Splice.{splice}
use Rattle.lists.proofs.SpliceLaws.{length-splice, splice-splice}
use Rattle.image.specs.Words.{sections_of}
use Rattle.image.specs.Schema.{Schema, schema_in, schema_of}
use Rattle.image.specs.Record.{end_words}
use Rattle.image.specs.declared.rows.Sections.{Sections}
use Rattle.image.specs.Laid.{Sound}
use Rattle.image.specs.Links.{message_link, enum_links, oneof_links, links_of, link_words}
use Rattle.image.proofs.LinkLaws.{run, run_none, run_add, run_next, run_length}
use Rattle.image.proofs.IndexLaws.{links-length}
use Rattle.link.specs.Chain.{Graph, no_chain, distance}
use Rattle.link.specs.Rows.{mark_of, marked_link}
use Rattle.link.specs.Phases.{mark_in, marked_to}

-- ---- marks, written one after the other

pub marked_none : (d links : List ℕ) → links ≡ marked_to d 0 links
unfolding marked_to
marked_none d links = refl

pub marked_more : (d links₀ : List ℕ) {links r v : List ℕ} (m : ℕ) → links ≡ marked_to d m links₀ → r ≡ splice links (m * 10 + 8) v → v ≡ mark_in d m → r ≡ marked_to d (m + 1) links₀
unfolding marked_to
marked_more d links₀ m p q e = rw (add-one m) (q ∙ rw (p, e))

-- ---- the parts of a record, written one after the other

-- the last words of a record, as they are read off an image
pub end_is : (image pool links : List ℕ) (w b : ℕ) {s : Sections} {ms es os fs : ℕ} → s ≡ sections_of image → ms ≡ s.messages.count → es ≡ s.enums.count → os ≡ s.oneofs.count → fs ≡ s.fields.count
    → w ∷ length image ∷ b ∷ length pool ∷ ms ∷ es ∷ os ∷ fs ∷ [] ≡ end_words (record { image = image; pool = pool; links = links }) w b
unfolding schema_of schema_in
end_is image pool links w b q m e o f = rw (m, e, o, f, q)

pub four_parts : (ws : List ℕ) (w : ℕ) (a b c d : List ℕ) → w + (length a + (length b + (length c + length d))) ≤ length ws
    → splice (splice (splice (splice ws w a) (w + length a) b) (w + length a + length b) c) (w + length a + length b + length c) d ≡ splice ws w (a ++ ((b ++ c) ++ d))
four_parts ws w a b c d h =
    let x = splice ws w a in
    let y = splice x (w + length a) b in
    let lx : length x ≡ length ws = length-splice ws w a (omega arith) in
    let ly : length y ≡ length ws = length-splice x (w + length a) b (omega (arith, lx)) ∙ lx in
    let lcd = length-append c d in
    let lbcd = length-append b (c ++ d) in
    splice-splice y (w + length a + length b) c d (length c) refl (omega (arith, ly))
    ∙ splice-splice x (w + length a) b (c ++ d) (length b) refl (omega (arith, lx, lcd))
    ∙ splice-splice ws w a (b ++ (c ++ d)) (length a) refl (omega (arith, lcd, lbcd))
    ∙ ap (λ (l : List ℕ). splice ws w (a ++ l)) (sym (append_assoc b c d))

pub four_written : (ws : List ℕ) (w : ℕ) (a b c : List ℕ) {d x₁ x₂ x₃ x₄ d' : List ℕ} → w + (length a + (length b + (length c + length d))) ≤ length ws
    → x₁ ≡ splice ws w a → x₂ ≡ splice x₁ (w + length a) b → x₃ ≡ splice x₂ (w + length a + length b) c → x₄ ≡ splice x₃ (w + length a + length b + length c) d' → d' ≡ d
    → x₄ ≡ splice ws w (a ++ ((b ++ c) ++ d))
four_written ws w a b c {d} h p₁ p₂ p₃ p₄ e = p₄ ∙ rw (e, p₃, p₂, p₁) (four_parts ws w a b c d h)

-- ---- the link rows with all marks

-- two words of a list, whose front is known
splice_two : (a b z v r : List ℕ) (n : ℕ) → length a + length b ≡ n → length z ≡ length v → splice (a ++ ((b ++ z) ++ r)) n v ≡ a ++ ((b ++ v) ++ r)
unfolding splice
splice_two a b z v r n e f =
    let p : a ++ ((b ++ z) ++ r) ≡ (a ++ b) ++ (z ++ r) = ap (λ (l : List ℕ). a ++ l) (append_assoc b z r) ∙ sym (append_assoc a b (z ++ r)) in
    let q : a ++ ((b ++ z) ++ r) ≡ ((a ++ b) ++ z) ++ r = p ∙ sym (append_assoc (a ++ b) z r) in
    let la : length (a ++ b) ≡ n = length-append a b ∙ e in
    let lz : length ((a ++ b) ++ z) ≡ n + length v = length-append (a ++ b) z ∙ omega (arith, la) in
    ap (λ (l : List ℕ). take n l ++ v ++ drop (n + length v) (a ++ ((b ++ z) ++ r))) p
    ∙ ap (λ (l : List ℕ). l ++ v ++ drop (n + length v) (a ++ ((b ++ z) ++ r))) (take_at (a ++ b) (z ++ r) n la)
    ∙ ap (λ (l : List ℕ). (a ++ b) ++ v ++ drop (n + length v) l) q
    ∙ ap (λ (l : List ℕ). (a ++ b) ++ v ++ l) (drop_at ((a ++ b) ++ z) r (n + length v) lz)
    ∙ append_assoc (a ++ b) v r
    ∙ append_assoc a b (v ++ r)
    ∙ ap (λ (l : List ℕ). a ++ l) (sym (append_assoc b v r))

-- a row of a run
pub drop_run : (f : ℕ → List ℕ) (wide : (x : ℕ) → length (f x) ≡ 10) (n m : ℕ) (rest : List ℕ) → m < n
    → drop (m * 10) (run f 0 n ++ rest) ≡ f m ++ drop ((m + 1) * 10) (run f 0 n ++ rest)
drop_run f wide n m rest h =
    let k = n - (m + 1) in
    let e : n ≡ m + 1 + k = omega arith in
    let tail = run f (0 + (m + 1)) k ++ rest in
    let s : run f 0 n ++ rest ≡ run f 0 (m + 1) ++ tail = ap (λ (x : ℕ). run f 0 x ++ rest) e ∙ ap (λ (l : List ℕ). l ++ rest) (run_add f 0 (m + 1) k) ∙ append_assoc (run f 0 (m + 1)) (run f (0 + (m + 1)) k) rest in
    let t : run f 0 n ++ rest ≡ run f 0 m ++ (f m ++ tail) =
    s ∙ ap (λ (l : List ℕ). l ++ tail) (run_next f 0 m ∙ ap (λ (x : ℕ). run f 0 m ++ f x) (zero-add m)) ∙ append_assoc (run f 0 m) (f m) tail in
    ap (drop (m * 10)) t
    ∙ drop_at (run f 0 m) (f m ++ tail) (m * 10) (run_length f 10 wide 0 m)
    ∙ ap (λ (l : List ℕ). f m ++ l) (sym (ap (drop ((m + 1) * 10)) s ∙ drop_at (run f 0 (m + 1)) tail ((m + 1) * 10) (run_length f 10 wide 0 (m + 1))))

pub links_row : (g : Schema) (m : ℕ) → m < g.messages → drop (m * 10) (links_of g) ≡ message_link g m ++ drop ((m + 1) * 10) (links_of g)
unfolding links_of
links_row g m h = drop_run (message_link g) (λ x. refl) g.messages m (enum_links g g.messages ++ oneof_links g g.messages) h

module _ (g : Schema) (graph : Graph) (d : List ℕ) (marks : (i : ℕ) → i < g.messages → get_or d i 0 ≡ distance graph i) (rest : List ℕ) where
  abbrev marked : ℕ → List ℕ
  marked m = marked_link g graph m

  mark_is : (m : ℕ) → m < g.messages → mark_in d m ≡ mark_of graph m
  mark_is m h = ap (λ (x : ℕ). bit (eqb x no_chain) ∷ x ∷ []) (marks m h)

  pub marked_all : (m : ℕ) → m ≤ g.messages → marked_to d m (links_of g ++ rest) ≡ run marked 0 m ++ (drop (m * 10) (links_of g) ++ rest)
  unfolding marked_to
  marked_all zero h = rw (run_none marked 0)
  marked_all (suc m) h =
      let front = run marked 0 m in
      let b = take 8 (message_link g m) in
      let r = drop ((m + 1) * 10) (links_of g) in
      let l : m < g.messages = omega arith in
      let n : length front ≡ m * 10 = run_length marked 10 (λ x. refl) 0 m in
      ap (λ (x : List ℕ). splice x (m * 10 + 8) (mark_in d m)) (marked_all m (omega arith))
      ∙ ap (λ (x : List ℕ). splice (front ++ (x ++ rest)) (m * 10 + 8) (mark_in d m)) (links_row g m l)
      ∙ ap (λ (x : List ℕ). splice (front ++ x) (m * 10 + 8) (mark_in d m)) (append_assoc (message_link g m) r rest)
      ∙ splice_two front b (0 ∷ 0 ∷ []) (mark_in d m) (r ++ rest) (m * 10 + 8) (omega (arith, n)) refl
      ∙ ap (λ (x : List ℕ). front ++ ((b ++ x) ++ (r ++ rest))) (mark_is m l)
      ∙ sym (append_assoc front (marked m) (r ++ rest))
      ∙ ap (λ (x : List ℕ). x ++ (r ++ rest)) (sym (run_next marked 0 m ∙ ap (λ (x : ℕ). front ++ marked x) (zero-add m)))
      ∙ ap (λ (x : ℕ). run marked 0 x ++ (drop (x * 10) (links_of g) ++ rest)) (add-one m)

  -- so they stand in front
  module _ (ok : Sound g) where
    pub marked-front : take (link_words g) (marked_to d g.messages (links_of g ++ rest)) ≡ run marked 0 g.messages ++ drop (g.messages * 10) (links_of g)
    marked-front =
        let front = run marked 0 g.messages in
        let r = drop (g.messages * 10) (links_of g) in
        let n : length front ≡ g.messages * 10 = run_length marked 10 (λ x. refl) 0 g.messages in
        let k : length r ≡ link_words g - g.messages * 10 = length-drop (g.messages * 10) (links_of g) ∙ ap (λ (x : ℕ). x - g.messages * 10) (links-length g ok) in
        ap (take (link_words g)) (marked_all g.messages (omega arith) ∙ sym (append_assoc front r rest))
        ∙ take_at (front ++ r) rest (link_words g) (length-append front r ∙ omega (arith, n, k))
