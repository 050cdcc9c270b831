-- The numbers of the refusals. 01, Accepted, or refused by whom: "11 unreadable; 12 located group at C1 of an acyl chain; 13 unlocated bonds
-- and a first pin too far; 14 flexible tail too short; 15 unlocated group with no site"; "20 class unknown; 21 wrong number of tokens; 22 wrong
-- kind of chain for its place; 23 tail outside the grammar"; "31 token over 255 bytes, .."; "32 feature off the drawn chain; 33 two features
-- that clash"; "41 line or index slice shorter than needed". Assumes nothing.
use Rattle.std.specs.Prelude.{ℕ, Option, None, Some}
use Rattle.chain_record.specs.declared.refusal.Refusal.{Refusal}
use Rattle.chain_record.specs.declared.refusal.Refusal.TheVariants.{Unreadable, GroupOnCarbonyl, PinTooFar, TailTooShort, NoSite, UnknownClass, WrongCount, WrongKind, WrongTail, OverLimit, OffChain, Clash, ShortSlice}

-- the number by which each is answered
abbrev pub number_of : Refusal → ℕ
number_of Unreadable = 11
number_of GroupOnCarbonyl = 12
number_of PinTooFar = 13
number_of TailTooShort = 14
number_of NoSite = 15
number_of UnknownClass = 20
number_of WrongCount = 21
number_of WrongKind = 22
number_of WrongTail = 23
number_of OverLimit = 31
number_of OffChain = 32
number_of Clash = 33
number_of ShortSlice = 41

-- the number of a refusal that may be due: 0 where none is
abbrev pub number_due : Option Refusal → ℕ
number_due None = 0
number_due (Some r) = number_of r
