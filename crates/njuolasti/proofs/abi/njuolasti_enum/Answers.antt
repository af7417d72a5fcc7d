-- `njuolasti::abi::njuolasti_enum` meets its contract. Assumes nothing.
use Rattle.njuolasti.proofs.AbiLaws.{told}
use Rattle.njuolasti.proofs.abi.njuolasti_enum.Goals as goal

pub returns : goal.returns
returns c = told c.answer.ensures (rw c.lent-lent.ensures at c.enum_by_full_name-looked.ensures)
