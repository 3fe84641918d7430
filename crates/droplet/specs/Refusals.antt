-- The numbers of the questions: "The first no gives the number" (document 01, "Questions in their order", and document 02). What each of
-- them asks is defined where it is asked. Assumes nothing.
use Rattle.std.specs.Prelude.{ℕ, Result, Ok, Err}
use Rattle.droplet.specs.declared.refusal.Refusal.{Refusal}
use Rattle.droplet.specs.declared.refusal.Refusal.TheVariants.{Malformed, Sizes, Limits, Weights, FileLength, StartSeed, Output, NumberList, ReadLength, Letter, NoCodeword, SeedZero, Screen, Count, OtherPayload, NoSpace, StoredSeedZero, FileOrMarks, CardBuffer, FullCount, NeitherCall, Width, FileBuffer}

-- the number of a refusal
abbrev pub refusal_number : Refusal → ℕ
refusal_number Malformed = 1
refusal_number Sizes = 2
refusal_number Limits = 3
refusal_number Weights = 4
refusal_number FileLength = 5
refusal_number StartSeed = 6
refusal_number Output = 7
refusal_number NumberList = 8
refusal_number ReadLength = 9
refusal_number Letter = 10
refusal_number NoCodeword = 11
refusal_number SeedZero = 12
refusal_number Screen = 13
refusal_number Count = 14
refusal_number OtherPayload = 15
refusal_number NoSpace = 16
refusal_number StoredSeedZero = 17
refusal_number FileOrMarks = 18
refusal_number CardBuffer = 19
refusal_number FullCount = 20
refusal_number NeitherCall = 21
refusal_number Width = 27
refusal_number FileBuffer = 28

-- what a function that asks some questions answers: the number of the first that says no, or 0
abbrev pub asked : Result (Unit {0}) Refusal → ℕ
asked (Ok u) = 0
asked (Err q) = refusal_number q
