-- Laws of the phases of linking: what each of them relies on, and what it adds to the table. Assumes nothing.
use mathlib.Core.Path.{◌≡◌, refl, sym, ap, subst, ◌∙◌}
use mathlib.Core.Bool.{Bool, true, false, not}
use mathlib.Core.List.{List, ◌++◌, append_assoc}
use Prim.Native.Nat.{ℕ, ◌+◌, ◌*◌, ◌-◌, ◌<◌, ◌≤◌}
use native.Mathlib.Omega.{arith}
use lib.Dec.{leb}
use lib.ListN.{length, take, drop, get_or, length-append, length-drop, take-append-drop}
use borrow.Author.Tests.{le-leb, lt-leb, leb-true, leb-false}
use Rattle.std.specs.Prelude.{Option, Some, None, is_some, Result, Ok, Err}
use Rattle.lists.specs.Splice.{splice, fronted}
use Rattle.lists.proofs.Cases.{or_left}
use Rattle.lists.proofs.SpliceLaws.{fronted_fits}
use Rattle.lists.proofs.TableLaws.{length_table}
use Rattle.image.specs.Words.{sections_of}
use Rattle.image.specs.Schema.{Schema, schema_in, schema_of}
use Rattle.image.specs.Laid.{Sound}
use Rattle.image.specs.Links.{links_of, link_words}
use Rattle.image.specs.Record.{File, all_link_words, end_words}
use Rattle.image.specs.Limits.{within_limits}
use Rattle.image.specs.Shelf.{file_limit, used_with, well_formed}
use Rattle.image.specs.Places.{file_in, files_in, read_shelf}
use Rattle.image.specs.Verdict.{Verdict, Line, stopped, first}
use Rattle.image.specs.Judge.{opening, opening_lines, naming_lines, judged_by, links_by}
use Rattle.image.specs.declared.rows.Sections.{Sections}
use Rattle.image.specs.declared.shelf.Used.{Used}
use Rattle.image.specs.declared.shelf.Places.{Places}
use Rattle.image.specs.declared.verdict.Refusal.TheVariants.{NoRoom, ShelfBroken}
use Rattle.image.specs.declared.verdict.Refused.{Refused}
use Rattle.image.proofs.SchemaLaws.{schema_of_lem}
use Rattle.image.proofs.JudgeLaws.{front-links}
use Rattle.image.proofs.IndexLaws.{links-length}
use Rattle.image.proofs.Owned.{fields_end_lem}
use Rattle.image.proofs.FieldListLaws.{fields_start}
use Rattle.image.proofs.LinkLaws.{run, run_length, parts_length}
use Rattle.image.proofs.ObeyLaws.{sound_opened}
use Rattle.image.proofs.ReadLaws.{read_whole}
use Rattle.image.proofs.VerdictLaws.{first_append}
use Rattle.link.specs.Sight.{Sight, sight_of, own_says}
use Rattle.link.specs.Search.{search_list, searched, imports_of, publics_of, listed, list_of, Below, Searchable}
use Rattle.link.specs.Chain.{Graph, distance}
use Rattle.link.specs.Marks.{graph_of}
use Rattle.link.specs.Rows.{field_links, marked_link, all_links}
use Rattle.link.specs.Refusals.{Call, said, shelved_files, seen, length_lines, shelf_lines, name_lines, import_lines, all_field_lines, new_file, new_record, room_lines, table}
use Rattle.link.specs.Link.{outcome, linked}
use Rattle.link.specs.Phases.{from_fields, from_naming, from_imports, from_name, from_opening, Standing, new_fields, marked_to}
use Rattle.link.specs.declared.fds.SearchList.{SearchList}
use Rattle.link.proofs.JudgedLaws.{first_stops, first_passes, judged_passed, judged_value, judged_stopped}
use Rattle.link.proofs.FileIndexLaws.{links_wide, link_of, message_part, part_at, message_parts}
use Rattle.link.proofs.SearchLaws.{listed_list, searchable_inside, searchable_few}
use Rattle.link.proofs.ShelfFacts.{formed-few, opened_full, searchable, places_files}
use Rattle.link.proofs.TableLaws.{opening_group, pass_both, none_given, lengths_pass, room_pass}
use Rattle.link.proofs.RecordLaws.{marked-front}

-- ---- a phase that stopped, and one that passed

module _ (ls ms : List Line) {v : Verdict} (h : v ≡ first ls) where
  pub stops_here : {r : Refused} → v ≡ Err r → Err r ≡ first (ls ++ ms)
  stops_here {r} e = sym (first_stops ls ms r (sym h ∙ e))

  pub goes_on_lem : {w : Verdict} → v ≡ Ok tt → w ≡ first ms → w ≡ first (ls ++ ms)
  goes_on_lem e f = f ∙ sym (first_passes ls ms (sym h ∙ e))

-- ---- the lengths

pub words_short : (c : Call) → first (length_lines c) ≡ Ok tt → length c.words ≤ 262144
words_short c h = leb-true (length c.words) 262144 (lengths_pass c h).0

pub bytes_short : (c : Call) → first (length_lines c) ≡ Ok tt → length c.bytes ≤ 131072
bytes_short c h = leb-true (length c.bytes) 131072 (lengths_pass c h).1.0

pub image_short : (c : Call) → first (length_lines c) ≡ Ok tt → length c.image ≤ 65536
image_short c h = leb-true (length c.image) 65536 (lengths_pass c h).1.1.0

pub pool_short : (c : Call) → first (length_lines c) ≡ Ok tt → length c.pool ≤ 32768
pool_short c h = leb-true (length c.pool) 32768 (lengths_pass c h).1.1.1.0

-- ---- how many words there are

module _ (image pool : List ℕ) {s : Sections} (q : s ≡ sections_of image) where
  pub front_words : s.messages.count * 10 + (s.enums.count * 2 + s.oneofs.count * 4) ≡ link_words (schema_of image pool)
  unfolding schema_of schema_in
  front_words = rw q

  pub fields_words : s.fields.count * 16 ≡ (schema_of image pool).fields * 16
  unfolding schema_of schema_in
  fields_words = rw q

  pub messages_words : s.messages.count ≡ (schema_of image pool).messages
  unfolding schema_of schema_in
  messages_words = rw q

module _ (s : Sight) (list : List ℕ) (ok : Sound (own_says s)) where
  pub field_links-length : length (field_links s list) ≡ (own_says s).fields * 16
  unfolding field_links
  field_links-length =
      let g = own_says s in
      let own = run (message_part s list) 0 g.messages in
      let file = run (link_of s list 0) g.file_extensions.first g.file_extensions.count in
      omega (
        arith,
        length-append own file,
        parts_length (message_part s list) (part_at s) g.messages (message_parts s list ok) g.messages (omega arith),
        fields_start g ok,
        fields_end_lem g ok,
        run_length (link_of s list 0) 16 (links_wide s list 0) g.file_extensions.first g.file_extensions.count,
      )

  -- all link rows: marked messages, the others, the fields
  pub links_parts : (front : List ℕ) → front ≡ run (marked_link (own_says s) (graph_of s (field_links s list))) 0 (own_says s).messages ++ drop ((own_says s).messages * 10) (links_of (own_says s))
      → front ++ field_links s list ≡ all_links s list
  unfolding all_links
  links_parts front e =
      let g = own_says s in
      ap (λ (l : List ℕ). l ++ field_links s list) e
      ∙ append_assoc (run (marked_link g (graph_of s (field_links s list))) 0 g.messages) (drop (g.messages * 10) (links_of g)) (field_links s list)

  pub all_links-length : length (all_links s list) ≡ all_link_words (own_says s)
  all_links-length =
      let g = own_says s in
      let marked = run (marked_link g (graph_of s (field_links s list))) 0 g.messages in
      let others = drop (g.messages * 10) (links_of g) in
      let k : length others ≡ link_words g - g.messages * 10 = length-drop (g.messages * 10) (links_of g) ∙ ap (λ (x : ℕ). x - g.messages * 10) (links-length g ok) in
      ap length (sym (links_parts (marked ++ others) refl))
      ∙ length-append (marked ++ others) (field_links s list)
      ∙ omega (arith, length-append marked others, run_length (marked_link g (graph_of s (field_links s list))) 10 (λ x. refl) 0 g.messages, k, field_links-length)

-- ---- 18

module _ (c : Call) (ok : Sound (said c)) where
  pub record_length : length (new_record c) ≡ length c.image + (link_words (said c) + ((said c).fields * 16 + 8))
  record_length =
      let links = (new_file c).links in
      let end = end_words (new_file c) c.used.words c.used.bytes in
      omega (arith, length-append c.image (links ++ end), length-append links end, all_links-length (seen c) (searched (seen c)) ok)

  module _ {n k : ℕ} (p : n ≡ link_words (said c)) (q : k ≡ (said c).fields * 16) where
    size_is : c.used.words + length (new_record c) ≡ c.used.words + (length c.image + (n + (k + 8)))
    size_is = omega (arith, record_length)

    pub no_words : length c.words < c.used.words + (length c.image + (n + (k + 8))) → stopped NoRoom 0 ≡ first (room_lines c)
    unfolding room_lines first
    no_words h = rw (lt-leb (c.used.words + length (new_record c)) (length c.words) (omega (arith, size_is)))

    module _ (w : c.used.words + (length c.image + (n + (k + 8))) ≤ length c.words) where
      pub no_bytes : length c.bytes < c.used.bytes + length c.pool → stopped NoRoom 0 ≡ first (room_lines c)
      unfolding room_lines first
      no_bytes h = rw (le-leb (c.used.words + length (new_record c)) (length c.words) (omega (arith, size_is)), lt-leb (c.used.bytes + length c.pool) (length c.bytes) h)

      pub room_enough : c.used.bytes + length c.pool ≤ length c.bytes → Ok tt ≡ first (room_lines c)
      unfolding room_lines first
      room_enough h = rw (le-leb (c.used.words + length (new_record c)) (length c.words) (omega (arith, size_is)), le-leb (c.used.bytes + length c.pool) (length c.bytes) h)

-- ---- behind 1 and 2

-- with 3 to 5 passed, the image can be numbered
pub sound_said : (c : Call) → opening c.image c.pool (leb file_limit c.used.files) ≡ Ok tt → Sound (said c)
sound_said c o = sound_opened c.image c.pool (opened_full c.image c.pool (leb file_limit c.used.files) o)

module _ (c : Call) {p : Places} (st : Standing c p) where
  abbrev files_there : List File
  files_there = files_in c.words c.bytes p c.used.files

  -- the files at the places are those of the shelf
  files_there_lem : shelved_files c ≡ files_there
  files_there_lem = places_files c.words c.bytes c.used st.formed st.places

  pub few_files : c.used.files ≤ 32
  few_files = formed-few c.words c.bytes c.used st.formed

  count_files : length files_there ≡ c.used.files
  count_files = length_table c.used.files (file_in c.words c.bytes p)

  -- what the code sees is what is seen
  pub sight_is : {links : List ℕ} → links ≡ links_of (said c) → sight_of c.words c.bytes p c.used.files c.image c.pool links ≡ seen c
  sight_is k =
      ap (λ (x : List ℕ). sight_of c.words c.bytes p c.used.files c.image c.pool x) k
      ∙ ap (λ (x : List File). record { files = x; own = record { image = c.image; pool = c.pool; links = links_of (said c) } }) (sym files_there_lem)

  module _ {s : Sections} (q : s ≡ sections_of c.image) where
    said_is : schema_in c.image s c.pool ≡ said c
    said_is = ap (λ (x : Sections). schema_in c.image x c.pool) q ∙ sym (schema_of_lem c.image c.pool)

    pub name_judged : {v : Verdict} → v ≡ first (name_lines files_there (schema_in c.image s c.pool)) → v ≡ first (name_lines (shelved_files c) (said c))
    name_judged h = h ∙ ap (λ (g : Schema). first (name_lines files_there g)) said_is ∙ ap (λ (x : List File). first (name_lines x (said c))) (sym files_there_lem)

    pub imports-judged : {v : Verdict} → v ≡ first (import_lines files_there (schema_in c.image s c.pool)) → v ≡ first (import_lines (shelved_files c) (said c))
    imports-judged h = h ∙ ap (λ (g : Schema). first (import_lines files_there g)) said_is ∙ ap (λ (x : List File). first (import_lines x (said c))) (sym files_there_lem)

    module _ (o : opening c.image c.pool (leb file_limit c.used.files) ≡ Ok tt) (i : first (import_lines (shelved_files c) (said c)) ≡ Ok tt) where
      can_search : Searchable files_there (said c)
      can_search = subst (λ (x : List File). Searchable x (said c)) files_there_lem (searchable c.words c.bytes c.used st.formed c.image c.pool (leb file_limit c.used.files) o i)

      pub can_search_in : Searchable files_there (schema_in c.image s c.pool)
      can_search_in = subst (λ (g : Schema). Searchable files_there g) (sym said_is) can_search

      module _ {l : SearchList} (e : l ≡ listed (search_list (publics_of files_there) c.used.files (imports_of files_there (schema_in c.image s c.pool)))) where
        abbrev sought : List ℕ
        sought = search_list (publics_of files_there) c.used.files (imports_of files_there (said c))

        listed_is : l ≡ listed sought
        listed_is = e ∙ ap (λ (g : Schema). listed (search_list (publics_of files_there) c.used.files (imports_of files_there g))) said_is

        list_sought : list_of l ≡ sought
        list_sought = ap (λ (x : SearchList). list_of x) listed_is ∙ listed_list sought

        pub list_is : list_of l ≡ searched (seen c)
        unfolding searched
        list_is =
            list_sought
            ∙ ap (λ (n : ℕ). search_list (publics_of files_there) n (imports_of files_there (said c))) (sym count_files)
            ∙ ap (λ (x : List File). search_list (publics_of x) (length x) (imports_of x (said c))) (sym files_there_lem)

        pub list_inside : Below c.used.files (list_of l)
        list_inside = subst (λ (x : List ℕ). Below c.used.files x) (sym list_sought) (searchable_inside files_there (said c) count_files can_search)

        pub list_few : l.count ≤ 32
        list_few = omega (arith, few_files, ap (λ (x : SearchList). x.count) listed_is, searchable_few files_there (said c) count_files can_search)

        module _ {links : List ℕ} (k : links ≡ links_of (said c)) where
          abbrev in_sight_of : Sight
          in_sight_of = sight_of c.words c.bytes p c.used.files c.image c.pool links

          pub fields_judged : {v : Verdict} → v ≡ first (all_field_lines in_sight_of (list_of l)) → v ≡ first (all_field_lines (seen c) (searched (seen c)))
          fields_judged h = h ∙ ap (λ (x : Sight). first (all_field_lines x (list_of l))) (sight_is k) ∙ ap (λ (x : List ℕ). first (all_field_lines (seen c) x)) list_is

          pub fields_written : (o₀ : List ℕ) {o₁ : List ℕ} → o₁ ≡ splice o₀ 0 (field_links in_sight_of (list_of l)) → o₁ ≡ splice o₀ 0 (new_fields c)
          fields_written o₀ h =
              h ∙ ap (λ (x : Sight). splice o₀ 0 (field_links x (list_of l))) (sight_is k) ∙ ap (λ (x : List ℕ). splice o₀ 0 (field_links (seen c) x)) list_is

-- ---- 3 to 5, and what comes with them

module _ (c : Call) {j : Result Verdict Refused} {full : Bool} (f : full ≡ leb file_limit c.used.files) (h : j ≡ judged_by (opening c.image c.pool full) (said c)) where
  abbrev opening_of : Verdict
  opening_of = opening c.image c.pool (leb file_limit c.used.files)

  judged_is : j ≡ judged_by opening_of (said c)
  judged_is = h ∙ ap (λ (x : Bool). judged_by (opening c.image c.pool x) (said c)) f

  pub opened_stops : {r : Refused} → j ≡ Err r → Err r ≡ first (from_opening c)
  unfolding opening
  opened_stops {r} e =
      sym (first_stops (opening_lines c.image c.pool (leb file_limit c.used.files)) (from_name c) r (judged_stopped opening_of (first (naming_lines (said c) (links_of (said c)))) (sym judged_is ∙ e)))

  module _ {naming : Verdict} (e : j ≡ Ok naming) where
    pub opened_passed : opening_of ≡ Ok tt
    opened_passed = judged_passed opening_of (first (naming_lines (said c) (links_of (said c)))) (sym judged_is ∙ e)

    pub opened_decides : {v : Verdict} → v ≡ first (from_name c) → v ≡ first (from_opening c)
    unfolding opening
    opened_decides h = h ∙ sym (first_passes (opening_lines c.image c.pool (leb file_limit c.used.files)) (from_name c) opened_passed)

    pub naming_judged : naming ≡ first (naming_lines (said c) (links_of (said c)))
    naming_judged = sym (judged_value opening_of (first (naming_lines (said c) (links_of (said c)))) (sym judged_is ∙ e))

    pub links-written : (own : List ℕ) {ws : List ℕ} → link_words (said c) ≤ length own → ws ≡ links_by (opening c.image c.pool full) (said c) own
        → take (link_words (said c)) ws ≡ links_of (said c)
    links-written own {ws} room w =
        let ok = sound_said c opened_passed in
        let size = links-length (said c) ok in
        let q : ws ≡ fronted own (links_of (said c)) =
        w ∙ ap (λ (x : Bool). links_by (opening c.image c.pool x) (said c) own) f ∙ ap (λ (v : Verdict). links_by v (said c) own) opened_passed in
        front-links own (links_of (said c)) (link_words (said c)) (q ∙ fronted_fits own (links_of (said c)) (omega (arith, size, room))) size

-- ---- a file that draws no refusal

pub both_passed : (ls ms : List Line) → first (ls ++ ms) ≡ Ok tt → (first ls ≡ Ok tt) × (first ms ≡ Ok tt)
both_passed ls ms h = pass_both (first ls) (first ms) (sym (first_append ls ms) ∙ h)

module _ (c : Call) (all : first (from_opening c) ≡ Ok tt) where
  pub all_opened : opening c.image c.pool (leb file_limit c.used.files) ≡ Ok tt
  unfolding opening
  all_opened = (both_passed (opening_group c) (from_name c) all).0

  pub all_sound : Sound (said c)
  all_sound = sound_said c all_opened

  room_passed : first (room_lines c) ≡ Ok tt
  room_passed =
      let n = (both_passed (opening_group c) (from_name c) all).1 in
      let i = (both_passed (name_lines (shelved_files c) (said c)) (from_imports c) n).1 in
      let m = (both_passed (import_lines (shelved_files c) (said c)) (from_naming c) i).1 in
      let f = (both_passed (naming_lines (said c) (links_of (said c))) (from_fields c) m).1 in
      (both_passed (all_field_lines (seen c) (searched (seen c))) (room_lines c) f).1

  pub all_words : c.used.words + (length c.image + (link_words (said c) + ((said c).fields * 16 + 8))) ≤ length c.words
  all_words = omega (arith, record_length c all_sound, leb-true (c.used.words + length (new_record c)) (length c.words) (room_pass c room_passed).0)

  pub all_bytes : c.used.bytes + length c.pool ≤ length c.bytes
  all_bytes = leb-true (c.used.bytes + length c.pool) (length c.bytes) (room_pass c room_passed).1.0

  pub all_files : c.used.files < 32
  unfolding opening_lines
  all_files =
      let t = none_given (opening_group c) (both_passed (opening_group c) (from_name c) all).0 in
      leb-false 32 c.used.files (or_left (leb file_limit c.used.files) (not (within_limits c.image c.pool)) t.1.0)

  module _ {n k : ℕ} (x : n ≡ link_words (said c)) (y : k ≡ (said c).fields * 16) where
    pub used_is : {u : Used} → u ≡ record { words = c.used.words + (length c.image + (n + k + 8)); bytes = c.used.bytes + length c.pool; files = c.used.files + 1 }
        → u ≡ used_with c.used (new_file c)
    used_is h =
        let e : c.used.words + (length c.image + (n + k + 8)) ≡ c.used.words + length (new_record c) = omega (arith, record_length c all_sound) in
        h ∙ ap (λ (w : ℕ). record { words = w; bytes = c.used.bytes + length c.pool; files = c.used.files + 1 }) e

    module _ {p : Places} (st : Standing c p) (links rows : List ℕ) (own : take (link_words (said c)) links ≡ links_of (said c)) (fields : take ((said c).fields * 16) rows ≡ new_fields c) where
      pub own_taken : take n links ≡ links_of (said c)
      own_taken = ap (λ (w : ℕ). take w links) x ∙ own

      rows_taken : take k rows ≡ new_fields c
      rows_taken = ap (λ (w : ℕ). take w rows) y ∙ fields

      abbrev graph : Graph
      graph = graph_of (seen c) (new_fields c)

      graph_is : graph_of (sight_of c.words c.bytes p c.used.files c.image c.pool (take n links)) (take k rows) ≡ graph
      graph_is = ap (λ (s : Sight). graph_of s (take k rows)) (sight_is c st own_taken) ∙ ap (graph_of (seen c)) rows_taken

      -- with the marks written, the link rows are all there
      pub links_done : (d : List ℕ) {m : ℕ} {marked : List ℕ} → m ≡ (said c).messages
          → ((i : ℕ) → i < (said c).messages → get_or d i 0 ≡ distance (graph_of (sight_of c.words c.bytes p c.used.files c.image c.pool (take n links)) (take k rows)) i)
          → marked ≡ marked_to d m links → take n marked ++ take k rows ≡ all_links (seen c) (searched (seen c))
      links_done d {m} {marked} z marks e =
          let rest = drop (link_words (said c)) links in
          let whole : links ≡ links_of (said c) ++ rest = sym (take-append-drop (link_words (said c)) links) ∙ ap (λ (l : List ℕ). l ++ rest) own in
          let r : marked ≡ marked_to d (said c).messages (links_of (said c) ++ rest) = e ∙ ap (λ (w : ℕ). marked_to d w links) z ∙ ap (marked_to d (said c).messages) whole in
          let front = marked-front (said c) graph d (λ i l. marks i l ∙ ap (λ (g : Graph). distance g i) graph_is) rest all_sound in
          ap (λ (l : List ℕ). take n marked ++ l) rows_taken
          ∙ links_parts (seen c) (searched (seen c)) all_sound (take n marked) (ap (λ (w : ℕ). take w marked) x ∙ ap (take (link_words (said c))) r ∙ front)

-- the front of scratch rows
pub fields_front : (c : Call) → first (from_opening c) ≡ Ok tt → (o₀ : List ℕ) {o₁ : List ℕ} → o₁ ≡ splice o₀ 0 (new_fields c) → take ((said c).fields * 16) o₁ ≡ new_fields c
fields_front c all o₀ h = front-links o₀ (new_fields c) ((said c).fields * 16) h (field_links-length (seen c) (searched (seen c)) (all_sound c all))

-- ---- 2

module _ (c : Call) {p : Option Places} (h : p ≡ read_shelf c.words c.bytes c.used) where
  whole_is : is_some p ≡ well_formed c.words c.bytes c.used
  whole_is = ap (λ (x : Option Places). is_some x) h ∙ read_whole c.words c.bytes c.used

  pub shelf_broken : p ≡ None → stopped ShelfBroken 0 ≡ first (shelf_lines c)
  unfolding shelf_lines first
  shelf_broken e = let f : well_formed c.words c.bytes c.used ≡ false = sym whole_is ∙ ap (λ (x : Option Places). is_some x) e in rw f

  module _ {q : Places} (e : p ≡ Some q) where
    pub shelf_formed : well_formed c.words c.bytes c.used ≡ true
    shelf_formed = sym whole_is ∙ ap (λ (x : Option Places). is_some x) e

    pub shelf_fine : first (shelf_lines c) ≡ Ok tt
    unfolding shelf_lines first
    shelf_fine = rw shelf_formed

-- ---- the outcome

module _ (c : Call) where
  pub outcome_stopped : {v : Verdict} {r : Refused} (ls : List Line) → v ≡ first ls → v ≡ Err r
      → record { answer = Err r; words = c.words; bytes = c.bytes } ≡ outcome c (first ls)
  unfolding outcome
  outcome_stopped ls h e = sym (ap (outcome c) (sym h ∙ e))

  pub outcome_passed : {v : Verdict} (ls : List Line) {u : Used} {ws bs : List ℕ} → v ≡ first ls → v ≡ Ok tt → u ≡ used_with c.used (new_file c)
      → ws ≡ splice c.words c.used.words (new_record c) → bs ≡ splice c.bytes c.used.bytes c.pool
      → record { answer = Ok u; words = ws; bytes = bs } ≡ outcome c (first ls)
  unfolding outcome
  outcome_passed ls h e p q r = rw (p, q, r) (sym (ap (outcome c) (sym h ∙ e)))

  pub linked-from : outcome c (first (length_lines c ++ (shelf_lines c ++ from_opening c))) ≡ linked c
  unfolding linked table
  linked-from = refl
