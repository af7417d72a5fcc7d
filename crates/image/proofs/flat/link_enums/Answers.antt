-- `image::flat::link_enums` meets its contract: the file's own enums, then those of the messages. Assumes nothing.
use mathlib.Core.Path.{◌≡◌, sym, ap, ◌∙◌}
use Prim.Native.Nat.{ℕ, ◌*◌}
use native.Mathlib.Omega.{arith}
use Rattle.lists.specs.Splice.{splice}
use Rattle.image.specs.Schema.{schema_in}
use Rattle.image.specs.Links.{enum_link}
use Rattle.image.proofs.SchemaLaws.{messages_in, top_enums_in}
use Rattle.image.proofs.LinkLaws.{run}
use Rattle.image.proofs.IndexLaws.{indexed_kept, enum_words_start, enum_words_end, enum_links_both}
use Rattle.image.proofs.flat.link_enums.Goals as goal
use Rattle.image.proofs.flat.link_enums.Goals.{After-put_enum_links, After-trailer_word-count}

top : (c : After-trailer_word-count) → c.trailer_word-count.result ≡ (schema_in c.args.laid.now.image.rows.words.now c.args.laid.now.image.rows.sections c.args.laid.now.image.pool.now).top_enums
top c =
    let a = c.args in
    c.trailer_word-count.ensures ∙ sym (top_enums_in a.laid.now.image.rows.words.now a.laid.now.image.rows.sections a.laid.now.image.pool.now)

count : (c : After-trailer_word-count) → c.args.laid.now.image.rows.sections.messages.count ≡ (schema_in c.args.laid.now.image.rows.words.now c.args.laid.now.image.rows.sections c.args.laid.now.image.pool.now).messages
count c =
    let a = c.args in
    sym (messages_in a.laid.now.image.rows.words.now a.laid.now.image.rows.sections a.laid.now.image.pool.now)

-- the file's own enums stand behind the messages
own : (c : After-put_enum_links) →
    c.put_enum_links.new.links ≡ splice c.args.links.now ((schema_in c.args.laid.now.image.rows.words.now c.args.laid.now.image.rows.sections c.args.laid.now.image.pool.now).messages * 10) (run (enum_link 0) 0 (schema_in c.args.laid.now.image.rows.words.now c.args.laid.now.image.rows.sections c.args.laid.now.image.pool.now).top_enums)
own c =
    let l = c.args.links.now in
    c.put_enum_links.ensures
    ∙ ap (λ (k : ℕ). splice l (k * 10) (run (enum_link 0) 0 c.trailer_word-count.result)) (count (goal.at.After-put_enum_links c).After-trailer_word-count)
    ∙ ap (λ (k : ℕ). splice l ((schema_in c.args.laid.now.image.rows.words.now c.args.laid.now.image.rows.sections c.args.laid.now.image.pool.now).messages * 10) (run (enum_link 0) 0 k)) (top (goal.at.After-put_enum_links c).After-trailer_word-count)

pub put_enum_links-requires : goal.put_enum_links-requires
put_enum_links-requires c =
    let inside = c.args.laid.now.sound.layout.top_enums-inside in
    record { count_bound = omega (arith, top (goal.at.put_enum_links-requires c).After-trailer_word-count, c.args.laid.now.sound.few-enums); enum_link_width_in_bounds = omega (arith, top (goal.at.put_enum_links-requires c).After-trailer_word-count, count (goal.at.put_enum_links-requires c).After-trailer_word-count, c.requires.enum_link_width_in_bounds) }

pub link_inner_enums-requires : goal.link_inner_enums-requires
link_inner_enums-requires c =
    let g = (schema_in c.args.laid.now.image.rows.words.now c.args.laid.now.image.rows.sections c.args.laid.now.image.pool.now) in
    let len = c.put_enum_links.auto.links in
    record { indexed = indexed_kept g c.requires.indexed (g.messages * 10) (run (enum_link 0) 0 g.top_enums) (omega arith) c.requires.indexed.room len (own (goal.at.link_inner_enums-requires c).After-put_enum_links); at_value = omega (arith, top (goal.at.link_inner_enums-requires c).After-trailer_word-count, count (goal.at.link_inner_enums-requires c).After-trailer_word-count, enum_words_start g c.args.laid.now.sound); pool_in_bounds = omega (arith, c.requires.enum_link_width_in_bounds, enum_words_end g c.args.laid.now.sound) }

pub returns : goal.returns
returns c = enum_links_both (schema_in c.args.laid.now.image.rows.words.now c.args.laid.now.image.rows.sections c.args.laid.now.image.pool.now) c.args.laid.now.sound c.args.links.now (omega (arith, top (goal.at.returns c).After-trailer_word-count, count (goal.at.returns c).After-trailer_word-count)) c.requires.enum_link_width_in_bounds (own (goal.at.returns c).After-put_enum_links) c.link_inner_enums.ensures
