-- `link::link::write` meets its contract. Assumes nothing.
use Rattle.link.proofs.RecordLaws.{four_written}
use Rattle.link.proofs.link.write.Goals as goal

pub returns-clause-words_after : goal.returns-clause-words_after
returns-clause-words_after c =
    let a = c.args in
    four_written a.words.now a.used.words a.image.now a.front.now a.fields.now c.requires.fields_in_bounds c.put.ensures c.put-2.ensures c.put-3.ensures c.put-4.ensures c.end_words-end.ensures
