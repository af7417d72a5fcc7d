-- Words that begin with the link rows of all messages, and the link rows that are written behind these. Assumes nothing.
use mathlib.Core.Path.{◌≡◌, refl, sym, ap, ◌∙◌}
use mathlib.Core.List.{List, ◌++◌, append_assoc}
use Prim.Native.Nat.{ℕ, ◌+◌, ◌*◌, ◌<◌, ◌≤◌, ◌^◌}
use native.Mathlib.Nat.{add-zero, zero-add}
use native.Mathlib.Omega.{arith}
use lib.ListN.{length, get_or, take, length-append}
use lib.Seq.{take-take, get_or-take}
use Rattle.lists.specs.Lists.{total}
use Rattle.lists.specs.Splice.{splice}
use Rattle.lists.proofs.SpliceLaws.{length-splice, take-splice, take-splice_end, splice-splice}
use Rattle.image.specs.Schema.{Schema}
use Rattle.image.specs.Flat.{row_of, enclosing}
use Rattle.image.specs.Laid.{Sound}
use Rattle.image.specs.Links.{message_link, message_links, enum_link, enum_links, oneof_link, oneof_links, links_of, link_words, message_row, message_up}
use Rattle.image.specs.Walk.{Indexed, enum_part, enum_links_at, oneof_part, oneof_links_at}
use Rattle.image.proofs.Numbers.{row_in}
use Rattle.image.proofs.Owned.{enums_end_lem, enums_next, enums_mono, oneofs_end, oneofs_next, oneofs_mono}
use Rattle.image.proofs.LinkLaws.{run, run_length, message_links-length, run_word, Parts, Writing, parts_length}

module _ (g : Schema) where
  -- ---- the words of messages

  indexed_word : {l : List ℕ} → Indexed g l → (m k : ℕ) → m < g.messages → k < 10 → get_or l (m * 10 + k) 0 ≡ get_or (message_link g m) k 0
  indexed_word {l} h m k lm lk =
      sym (get_or-take (g.messages * 10) l (m * 10 + k) 0 (omega arith))
      ∙ ap (λ (x : List ℕ). get_or x (m * 10 + k) 0) h.front
      ∙ run_word (message_link g) 10 (λ x. refl) 0 g.messages m k lm lk
      ∙ ap (λ (x : ℕ). get_or (message_link g x) k 0) (zero-add m)

  pub indexed_row : {l : List ℕ} → Indexed g l → (m : ℕ) → m < g.messages → message_row l m ≡ row_of g m
  indexed_row {l} h m lm = ap (λ (x : ℕ). get_or l x 0) (sym (add-zero (m * 10))) ∙ indexed_word h m 0 lm (omega arith)

  pub indexed_up : {l : List ℕ} → Indexed g l → (m : ℕ) → m < g.messages → message_up l m ≡ enclosing g m
  indexed_up h m lm = indexed_word h m 1 lm (omega arith)

  -- written at the front
  pub indexed_by : (l₀ : List ℕ) {l : List ℕ} → g.messages * 10 ≤ length l₀ → l ≡ splice l₀ 0 (message_links g 0 g.messages) → Indexed g l
  indexed_by l₀ {l} h p =
      let n = message_links-length g 0 g.messages in
      record {
        room = rw p (omega (arith, length-splice l₀ 0 (message_links g 0 g.messages) (omega arith)));
        front =
            ap (take (g.messages * 10)) p
            ∙ ap (λ (k : ℕ). take k (splice l₀ 0 (message_links g 0 g.messages))) (sym (zero-add (g.messages * 10)))
            ∙ take-splice_end l₀ 0 (message_links g 0 g.messages) (g.messages * 10) (omega arith) n;
      }

  -- and kept where words are written behind
  pub indexed_kept : {l₀ l : List ℕ} → Indexed g l₀ → (at : ℕ) (vs : List ℕ) → g.messages * 10 ≤ at → at ≤ length l₀ → length l ≡ length l₀ → l ≡ splice l₀ at vs
      → Indexed g l
  indexed_kept {l₀} {l} h at vs low high len p =
      let k = g.messages * 10 in
      record {
        room = omega (arith, h.room);
        front =
            ap (take k) p
            ∙ sym (take-take k at (splice l₀ at vs) low)
            ∙ ap (take k) (take-splice l₀ at vs high)
            ∙ take-take k at l₀ low
            ∙ h.front;
      }

  -- in a loop that writes a part for each message behind them
  pub writing_row : {part : ℕ → List ℕ} {words : ℕ → ℕ} {l₀ l : List ℕ} {m at : ℕ} → Indexed g l₀ → Writing part words g.messages l₀ m at l
      → g.messages * 10 ≤ words 0 → words 0 ≤ length l₀ → m < g.messages → message_row l m ≡ row_of g m
  writing_row {part} {words} {l₀} {l} {m} h w low high lm = indexed_row (indexed_kept h (words 0) (run part 0 m) low high w.len w.done) m lm

  -- ---- the parts of enums and oneofs

  module _ (ok : Sound g) where
    enum_part-length : (m : ℕ) → length (enum_part g m) ≡ (g.enums_in (row_of g m)).count * 2
    enum_part-length m = run_length (enum_link (m + 1)) 2 (λ x. refl) (g.enums_in (row_of g m)).first (g.enums_in (row_of g m)).count

    pub enum_parts : Parts (enum_part g) (enum_links_at g) g.messages
    enum_parts m l = omega (arith, enums_next g ok m l, enum_part-length m)

    -- what message m leaves: where the next part goes, and that there is room
    pub enum_next : (m : ℕ) → m < g.messages → enum_links_at g (m + 1) ≡ enum_links_at g m + (g.enums_in (row_of g m)).count * 2
    enum_next m l = omega (arith, enums_next g ok m l)

    pub enum_mono : (m : ℕ) → m ≤ g.messages → enum_links_at g m ≤ enum_links_at g g.messages
    enum_mono m l = omega (arith, enums_mono g ok m g.messages l)

    pub enum_rows_fit : (m : ℕ) → m < g.messages → (g.enums_in (row_of g m)).first + (g.enums_in (row_of g m)).count < 2 ^ 32
    enum_rows_fit m l = omega (arith, ok.layout.enums-inside (row_of g m) (row_in g ok m l), ok.few-enums)

    pub enum_words_end : enum_links_at g g.messages ≡ g.messages * 10 + g.enums * 2
    enum_words_end = omega (arith, enums_end_lem g ok)

    pub enum_words_start : enum_links_at g 0 ≡ g.messages * 10 + g.top_enums * 2
    unfolding total
    enum_words_start = omega arith

    -- the file's own enums, and then those of all messages
    pub enum_links_both : (l₀ : List ℕ) {l₁ l₂ : List ℕ} {at : ℕ} → at ≡ g.messages * 10 + g.top_enums * 2 → g.messages * 10 + g.enums * 2 ≤ length l₀
        → l₁ ≡ splice l₀ (g.messages * 10) (run (enum_link 0) 0 g.top_enums) → l₂ ≡ splice l₁ at (run (enum_part g) 0 g.messages)
        → l₂ ≡ splice l₀ (g.messages * 10) (enum_links g g.messages)
    enum_links_both l₀ {l₁} {l₂} {at} e h p q =
        let n = parts_length (enum_part g) (enum_links_at g) g.messages enum_parts g.messages (omega arith) in
        q
        ∙ ap (λ (k : ℕ). splice l₁ k (run (enum_part g) 0 g.messages)) e
        ∙ ap (λ (x : List ℕ). splice x (g.messages * 10 + g.top_enums * 2) (run (enum_part g) 0 g.messages)) p
        ∙ splice-splice l₀ (g.messages * 10) (run (enum_link 0) 0 g.top_enums) (run (enum_part g) 0 g.messages) (g.top_enums * 2)
        (run_length (enum_link 0) 2 (λ x. refl) 0 g.top_enums) (omega (arith, enum_words_start, enum_words_end))

    -- ---- oneofs

    oneof_part-length : (m : ℕ) → length (oneof_part g m) ≡ (g.oneofs_in (row_of g m)).count * 4
    oneof_part-length m = run_length (oneof_link g m) 4 (λ x. refl) 0 (g.oneofs_in (row_of g m)).count

    pub oneof_parts : Parts (oneof_part g) (oneof_links_at g) g.messages
    oneof_parts m l = omega (arith, oneofs_next g ok m l, oneof_part-length m)

    pub oneof_next : (m : ℕ) → m < g.messages → oneof_links_at g (m + 1) ≡ oneof_links_at g m + (g.oneofs_in (row_of g m)).count * 4
    oneof_next m l = omega (arith, oneofs_next g ok m l)

    pub oneof_fits : (m : ℕ) → m ≤ g.messages → oneof_links_at g m ≤ link_words g
    oneof_fits m l = omega (arith, oneofs_mono g ok m g.messages l, oneofs_end g ok)

    pub oneof_words_start : oneof_links_at g 0 ≡ g.messages * 10 + g.enums * 2
    unfolding total
    oneof_words_start = omega arith

    pub few-oneofs_in : (m : ℕ) → m < g.messages → (g.oneofs_in (row_of g m)).count ≤ 256
    few-oneofs_in m l = omega (arith, ok.layout.oneofs-inside (row_of g m) (row_in g ok m l), ok.few-oneofs)

    -- ---- all together

    enum_links-length : length (enum_links g g.messages) ≡ g.enums * 2
    enum_links-length =
        let n = parts_length (enum_part g) (enum_links_at g) g.messages enum_parts g.messages (omega arith) in
        omega
        (arith, length-append (run (enum_link 0) 0 g.top_enums) (run (enum_part g) 0 g.messages), run_length (enum_link 0) 2 (λ x. refl) 0 g.top_enums, enum_words_start, enum_words_end)

    oneof_links-length : length (oneof_links g g.messages) ≡ g.oneofs * 4
    oneof_links-length =
        let n = parts_length (oneof_part g) (oneof_links_at g) g.messages oneof_parts g.messages (omega arith) in
        omega (arith, oneof_words_start, oneofs_end g ok)

    pub links-length : length (links_of g) ≡ link_words g
    unfolding links_of
    links-length =
        omega
        (arith, length-append (message_links g 0 g.messages) (enum_links g g.messages ++ oneof_links g g.messages), length-append (enum_links g g.messages) (oneof_links g g.messages), message_links-length g 0 g.messages, enum_links-length, oneof_links-length)

    -- messages, enums and oneofs, written one behind the other
    pub links_all : (l₀ : List ℕ) {l₁ l₂ l₃ : List ℕ} → link_words g ≤ length l₀ → l₁ ≡ splice l₀ 0 (message_links g 0 g.messages)
        → l₂ ≡ splice l₁ (g.messages * 10) (enum_links g g.messages) → l₃ ≡ splice l₂ (oneof_links_at g 0) (oneof_links g g.messages) → l₃ ≡ splice l₀ 0 (links_of g)
    unfolding links_of
    links_all l₀ {l₁} {l₂} {l₃} h p q r =
        let a = message_links g 0 g.messages in
        let b = enum_links g g.messages in
        let c = oneof_links g g.messages in
        let la = message_links-length g 0 g.messages in
        let lb = enum_links-length in
        let lc = oneof_links-length in
        let lab = length-append a b in
        let two : l₂ ≡ splice l₀ 0 (a ++ b) =
        q
        ∙ ap (λ (x : List ℕ). splice x (g.messages * 10) b) p
        ∙ ap (λ (k : ℕ). splice (splice l₀ 0 a) k b) (sym (zero-add (g.messages * 10)))
        ∙ splice-splice l₀ 0 a b (g.messages * 10) la (omega arith) in
        let e : oneof_links_at g 0 ≡ 0 + (g.messages * 10 + g.enums * 2) = omega (arith, oneof_words_start) in
        r
        ∙ ap (λ (x : List ℕ). splice x (oneof_links_at g 0) c) two
        ∙ ap (λ (k : ℕ). splice (splice l₀ 0 (a ++ b)) k c) e
        ∙ splice-splice l₀ 0 (a ++ b) c (g.messages * 10 + g.enums * 2) (omega arith) (omega arith)
        ∙ ap (splice l₀ 0) (append_assoc a b c)
