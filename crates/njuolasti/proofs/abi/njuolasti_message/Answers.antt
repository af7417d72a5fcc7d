-- `njuolasti::abi::njuolasti_message` meets its contract. Assumes nothing.
use Rattle.njuolasti.proofs.AbiLaws.{told}
use Rattle.njuolasti.proofs.abi.njuolasti_message.Goals as goal

pub returns : goal.returns
returns c = told c.answer.ensures (rw c.lent-lent.ensures at c.message_by_full_name-looked.ensures)
