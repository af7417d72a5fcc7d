-- `image::judge::judge_sound` meets its contract. Assumes nothing.
use mathlib.Core.Path.{◌≡◌, sym, ◌∙◌}
use Prim.Native.Nat.{◌≤◌}
use native.Mathlib.Omega.{arith}
use lib.ListN.{length}
use lib.Seq.{length-take-le}
use Rattle.image.specs.Schema.{schema}
use Rattle.image.specs.Links.{links_of, link_words}
use Rattle.image.proofs.IndexLaws.{links-length}
use Rattle.image.proofs.JudgeLaws.{words_in, front-links}
use Rattle.image.proofs.judge.judge_sound.Goals as goal
use Rattle.image.proofs.judge.judge_sound.Goals.{After-link_words-n}

-- the count of words is that of the link rows
counted : (c : After-link_words-n) → c.link_words-n.result ≡ link_words (schema c.args.laid.now.image)
counted c =
    let a = c.args in
    c.link_words-n.ensures ∙ sym (words_in a.laid.now.image.rows.words.now a.laid.now.image.rows.sections a.laid.now.image.pool.now)

room : (c : After-link_words-n) → c.link_words-n.result ≤ length c.number.new.links
room c =
    omega (arith, counted c, c.requires.own_in_bounds, c.number.auto.links)

pub number-requires : goal.number-requires
number-requires c = record { pool_in_bounds = c.requires.own_in_bounds }

pub slice_bounds-judge_numbered-end : goal.slice_bounds-judge_numbered-end
slice_bounds-judge_numbered-end c = room (goal.at.slice_bounds-judge_numbered-end c).After-link_words-n

pub slice_bounds-judge_numbered-end-2 : goal.slice_bounds-judge_numbered-end-2
slice_bounds-judge_numbered-end-2 c = sym (length-take-le c.link_words-n.result c.number.new.links (room (goal.at.slice_bounds-judge_numbered-end-2 c).After-link_words-n))

pub judge_numbered-requires : goal.judge_numbered-requires
judge_numbered-requires c = record { sections_value = c.requires.sections_value; own_value = front-links c.args.own.now (links_of (schema c.args.laid.now.image)) c.link_words-n.result c.number.ensures (links-length (schema c.args.laid.now.image) c.args.laid.now.sound ∙ sym (counted (goal.at.judge_numbered-requires c).After-link_words-n)) }

pub returns : goal.returns
returns c = record { value = c.judge_numbered.ensures.value; links_after = c.judge_numbered.ensures.links_after }
