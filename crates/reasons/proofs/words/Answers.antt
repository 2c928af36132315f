use Rattle.reasons.proofs.words.Goals as goal

pub returns-in-ShortOutput : goal.returns-in-ShortOutput
returns-in-ShortOutput c = rw c.in-ShortOutput.is

pub returns-in-BadCount : goal.returns-in-BadCount
returns-in-BadCount c = rw c.in-BadCount.is

pub returns-in-BadByte : goal.returns-in-BadByte
returns-in-BadByte c = rw c.in-BadByte.is

pub returns-in-WrongCheck : goal.returns-in-WrongCheck
returns-in-WrongCheck c = rw c.in-WrongCheck.is

pub returns-in-UnknownCountry : goal.returns-in-UnknownCountry
returns-in-UnknownCountry c = rw c.in-UnknownCountry.is

pub returns-in-WrongLayout : goal.returns-in-WrongLayout
returns-in-WrongLayout c = rw c.in-WrongLayout.is

pub returns-in-BadBitCount : goal.returns-in-BadBitCount
returns-in-BadBitCount c = rw c.in-BadBitCount.is

pub returns-in-NoStart : goal.returns-in-NoStart
returns-in-NoStart c = rw c.in-NoStart.is

pub returns-in-CutShort : goal.returns-in-CutShort
returns-in-CutShort c = rw c.in-CutShort.is

pub returns-in-WrongParity : goal.returns-in-WrongParity
returns-in-WrongParity c = rw c.in-WrongParity.is

pub returns-in-LongTrack : goal.returns-in-LongTrack
returns-in-LongTrack c = rw c.in-LongTrack.is

pub returns-in-WrongLrc : goal.returns-in-WrongLrc
returns-in-WrongLrc c = rw c.in-WrongLrc.is

pub returns-in-MarksAfter : goal.returns-in-MarksAfter
returns-in-MarksAfter c = rw c.in-MarksAfter.is

pub returns-in-BadTable : goal.returns-in-BadTable
returns-in-BadTable c = rw c.in-BadTable.is

pub returns-in-NoRange : goal.returns-in-NoRange
returns-in-NoRange c = rw c.in-NoRange.is

pub returns-in-BadJournal : goal.returns-in-BadJournal
returns-in-BadJournal c = rw c.in-BadJournal.is

pub returns-in-ZeroAmount : goal.returns-in-ZeroAmount
returns-in-ZeroAmount c = rw c.in-ZeroAmount.is

pub returns-in-JournalFull : goal.returns-in-JournalFull
returns-in-JournalFull c = rw c.in-JournalFull.is

pub returns-in-SerialsUsedUp : goal.returns-in-SerialsUsedUp
returns-in-SerialsUsedUp c = rw c.in-SerialsUsedUp.is

pub returns-in-NoSerial : goal.returns-in-NoSerial
returns-in-NoSerial c = rw c.in-NoSerial.is

pub returns-in-BadHotList : goal.returns-in-BadHotList
returns-in-BadHotList c = rw c.in-BadHotList.is

pub returns-in-ListedCard : goal.returns-in-ListedCard
returns-in-ListedCard c = rw c.in-ListedCard.is

pub returns-in-BadDate : goal.returns-in-BadDate
returns-in-BadDate c = rw c.in-BadDate.is

pub returns-in-ExpiredCard : goal.returns-in-ExpiredCard
returns-in-ExpiredCard c = rw c.in-ExpiredCard.is
