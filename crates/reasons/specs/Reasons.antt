-- The numbered reasons, 1 to 20 of document 01 and from 21 on of document 02, and what a call says in the paper's terms.
use Rattle.std.specs.Prelude.{ℕ, Bool, true, false, Result, Ok, Err}
use Prim.Native.String.{String}
use Rattle.reasons.specs.declared.Reason.{Reason}
use Rattle.reasons.specs.declared.Reason.TheVariants.{ShortOutput, BadCount, BadByte, WrongCheck, UnknownCountry, WrongLayout, BadBitCount}
use Rattle.reasons.specs.declared.Reason.TheVariants.{NoStart, CutShort, WrongParity, LongTrack, WrongLrc, MarksAfter, BadTable}
use Rattle.reasons.specs.declared.Reason.TheVariants.{NoRange, BadJournal, ZeroAmount, JournalFull, SerialsUsedUp, NoSerial}
use Rattle.reasons.specs.declared.Reason.TheVariants.{BadHotList, ListedCard, BadDate, ExpiredCard}

-- the paper's number of each reason
abbrev pub number_of : Reason → ℕ
number_of ShortOutput = 1
number_of BadCount = 2
number_of BadByte = 3
number_of WrongCheck = 4
number_of UnknownCountry = 5
number_of WrongLayout = 6
number_of BadBitCount = 7
number_of NoStart = 8
number_of CutShort = 9
number_of WrongParity = 10
number_of LongTrack = 11
number_of WrongLrc = 12
number_of MarksAfter = 13
number_of BadTable = 14
number_of NoRange = 15
number_of BadJournal = 16
number_of ZeroAmount = 17
number_of JournalFull = 18
number_of SerialsUsedUp = 19
number_of NoSerial = 20
number_of BadHotList = 21
number_of ListedCard = 22
number_of BadDate = 23
number_of ExpiredCard = 24

-- and its words: document 01's, and from 21 on the house's, since document 02 has no table of them
abbrev pub words_of : Reason → String
words_of ShortOutput = "lent output or scratch too short"
words_of BadCount = "count of digits or characters outside its range"
words_of BadByte = "a byte that isn't allowed"
words_of WrongCheck = "check digits wrong"
words_of UnknownCountry = "country not listed"
words_of WrongLayout = "layout wrong"
words_of BadBitCount = "bit count over 4,096 or over 8 times the bytes lent"
words_of NoStart = "no start sentinel"
words_of CutShort = "track cut short"
words_of WrongParity = "parity wrong"
words_of LongTrack = "track too long"
words_of WrongLrc = "LRC wrong"
words_of MarksAfter = "marks after the LRC"
words_of BadTable = "range table's byte length not a multiple of 16, or over 65,536"
words_of NoRange = "no range fits"
words_of BadJournal = "journal not well formed"
words_of ZeroAmount = "amount 0"
words_of JournalFull = "journal full"
words_of SerialsUsedUp = "serials used up"
words_of NoSerial = "serial not there"
words_of BadHotList = "hot list not rising or too long, or PAN length or a number wrong"
words_of ListedCard = "card on the hot list"
words_of BadDate = "date outside 2000 to 2099, or no real day"
words_of ExpiredCard = "card expired"

-- what a call says: a value, or the number of a reason
pub data Outcome (A : Type 0) : Type 0 where
  gives : A → Outcome A
  refuses : ℕ → Outcome A

-- a condition is tested: where the test passes the call goes on, and where it fails the call refuses with the number of the reason
abbrev pub demand : {A : Type 0} → Bool → ℕ → Outcome A → Outcome A
demand true n next = next
demand false n next = refuses n

-- what lent bytes are after a call: new ones where it gives a value, the old ones where it refuses
abbrev pub after : {A B : Type 0} → Outcome A → B → (A → B) → B
after (gives v) old new = new v
after (refuses n) old new = old

-- the number that a companion call answers: 0 where the call gives a value
abbrev pub number_in : {A : Type 0} → Outcome A → ℕ
number_in (gives v) = 0
number_in (refuses n) = n

-- what an answer says in the paper's terms
abbrev pub said : {A : Type 0} → Result A Reason → Outcome A
said (Ok v) = gives v
said (Err r) = refuses (number_of r)

-- one call after another: the second goes on with the value of the first; where the first refuses, its number is the answer
abbrev pub and_then : {A B : Type 0} → Outcome A → (A → Outcome B) → Outcome B
and_then (gives v) next = next v
and_then (refuses n) next = refuses n
