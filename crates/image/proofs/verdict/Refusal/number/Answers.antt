-- `image::verdict::Refusal::number` meets its contract. Assumes nothing.
use Rattle.image.proofs.verdict.Refusal.number.Goals as goal

pub returns-in-TooLong : goal.returns-in-TooLong
returns-in-TooLong c = rw c.in-TooLong.is

pub returns-in-ShelfBroken : goal.returns-in-ShelfBroken
returns-in-ShelfBroken c = rw c.in-ShelfBroken.is

pub returns-in-LayoutBroken : goal.returns-in-LayoutBroken
returns-in-LayoutBroken c = rw c.in-LayoutBroken.is

pub returns-in-LimitPassed : goal.returns-in-LimitPassed
returns-in-LimitPassed c = rw c.in-LimitPassed.is

pub returns-in-TextWrong : goal.returns-in-TextWrong
returns-in-TextWrong c = rw c.in-TextWrong.is

pub returns-in-NameTaken : goal.returns-in-NameTaken
returns-in-NameTaken c = rw c.in-NameTaken.is

pub returns-in-ImportMissing : goal.returns-in-ImportMissing
returns-in-ImportMissing c = rw c.in-ImportMissing.is

pub returns-in-NameShared : goal.returns-in-NameShared
returns-in-NameShared c = rw c.in-NameShared.is

pub returns-in-EntryName : goal.returns-in-EntryName
returns-in-EntryName c = rw c.in-EntryName.is

pub returns-in-EntryNotBare : goal.returns-in-EntryNotBare
returns-in-EntryNotBare c = rw c.in-EntryNotBare.is

pub returns-in-EntryFields : goal.returns-in-EntryFields
returns-in-EntryFields c = rw c.in-EntryFields.is

pub returns-in-DefaultWrong : goal.returns-in-DefaultWrong
returns-in-DefaultWrong c = rw c.in-DefaultWrong.is

pub returns-in-DefaultBarred : goal.returns-in-DefaultBarred
returns-in-DefaultBarred c = rw c.in-DefaultBarred.is

pub returns-in-ExtendeeAbsent : goal.returns-in-ExtendeeAbsent
returns-in-ExtendeeAbsent c = rw c.in-ExtendeeAbsent.is

pub returns-in-MessageMissing : goal.returns-in-MessageMissing
returns-in-MessageMissing c = rw c.in-MessageMissing.is

pub returns-in-EnumMissing : goal.returns-in-EnumMissing
returns-in-EnumMissing c = rw c.in-EnumMissing.is

pub returns-in-FieldClash : goal.returns-in-FieldClash
returns-in-FieldClash c = rw c.in-FieldClash.is

pub returns-in-NoRoom : goal.returns-in-NoRoom
returns-in-NoRoom c = rw c.in-NoRoom.is
