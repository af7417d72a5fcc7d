-- `njuolasti::abi::njuolasti_value_by_name` meets its contract. Assumes nothing.
use Rattle.njuolasti.proofs.AbiLaws.{told}
use Rattle.njuolasti.proofs.abi.njuolasti_value_by_name.Goals as goal

pub returns : goal.returns
returns c = told c.answer.ensures (rw c.lent-lent.ensures at c.value_by_name-looked.ensures)
