-- The refusal list of document 01 with the refusals of document 02, and what a call comes to. Assumes nothing.
use Rattle.std.specs.Prelude.{◌≡◌, cond, Bool, true, false, List, [], ◌∷◌, ◌++◌, ℕ, eqb, Result, Ok, Err, ⊤, decimal}
use Rattle.refusals.specs.declared.Refusal.TheVariants.{BrokenState, ShortFile, LinkCount, CycleLength, ShortRecord, StrayBit, AbsentWritten, FrameCount, RangeOutside, ClosedOutside, BytesFollow, UnreadableCall, RouteLength, UnknownLink, LinkTwice, RatesApart, NumberLive, PlacesFull, NoSchedule, NumberNotLive, ShortBuffer, LeastOutside}
use Rattle.refusals.specs.declared.Refusal.{Refusal}

-- a refusal's number ("Refusal list"; 21: W-206)
abbrev pub refusal_number : Refusal → ℕ
refusal_number BrokenState = 0
refusal_number ShortFile = 1
refusal_number LinkCount = 2
refusal_number CycleLength = 3
refusal_number ShortRecord = 4
refusal_number StrayBit = 5
refusal_number AbsentWritten = 6
refusal_number FrameCount = 7
refusal_number RangeOutside = 8
refusal_number ClosedOutside = 9
refusal_number BytesFollow = 10
refusal_number UnreadableCall = 11
refusal_number RouteLength = 12
refusal_number UnknownLink = 13
refusal_number LinkTwice = 14
refusal_number RatesApart = 15
refusal_number NumberLive = 16
refusal_number PlacesFull = 17
refusal_number (NoSchedule count) = 18
refusal_number NumberNotLive = 19
refusal_number ShortBuffer = 20
refusal_number LeastOutside = 21

-- a refusal's count: "A refusal returns its number, 18 also the count"
abbrev pub refusal_count : Refusal → ℕ
refusal_count BrokenState = 0
refusal_count ShortFile = 0
refusal_count LinkCount = 0
refusal_count CycleLength = 0
refusal_count ShortRecord = 0
refusal_count StrayBit = 0
refusal_count AbsentWritten = 0
refusal_count FrameCount = 0
refusal_count RangeOutside = 0
refusal_count ClosedOutside = 0
refusal_count BytesFollow = 0
refusal_count UnreadableCall = 0
refusal_count RouteLength = 0
refusal_count UnknownLink = 0
refusal_count LinkTwice = 0
refusal_count RatesApart = 0
refusal_count NumberLive = 0
refusal_count PlacesFull = 0
refusal_count (NoSchedule count) = count
refusal_count NumberNotLive = 0
refusal_count ShortBuffer = 0
refusal_count LeastOutside = 0

-- a refusal's text: its number in decimal digits, and of 18 the count after a space: "A refusal returns its number, 18 also the count"
abbrev pub refusal_text : Refusal → List ℕ
refusal_text r = decimal (refusal_number r) ++ cond (eqb (refusal_number r) 18) (32 ∷ decimal (refusal_count r)) []

-- A NUMBER AND A COUNT TELL THE REFUSAL
abbrev pub RefusalOnly : Type 0
RefusalOnly = (a b : Refusal) → refusal_number a ≡ refusal_number b → refusal_count a ≡ refusal_count b → a ≡ b

-- what a call comes to: what it gives, or the number of its refusal
pub data Outcome (A : Type 0) : Type 0 where
  given : A → Outcome A
  refused : ℕ → Outcome A

-- what passes a check, and gives nothing else
pub data Pass : Type 0 where
  pass : Pass

-- what a check says: it passes, or refuses with its number
abbrev pub Ruling : Type 0
Ruling = Outcome Pass

-- one check of the list: its condition, and its number
abbrev pub refuse_if : Bool → ℕ → Ruling
refuse_if true n = refused n
refuse_if false n = given pass

-- "Each call makes, in this order, the checks": the first that refuses, or else what comes after it
abbrev pub refused_or : {A : Type 0} → Ruling → Outcome A → Outcome A
refused_or (given p) next = next
refused_or (refused n) next = refused n

-- what comes of what was given; a refusal is passed on
abbrev pub on_given : {A B : Type 0} → Outcome A → (A → Outcome B) → Outcome B
on_given (given a) f = f a
on_given (refused n) f = refused n

-- whether a call is refused, and with which number
abbrev pub ruling_of : {A : Type 0} → Outcome A → Ruling
ruling_of (given a) = given pass
ruling_of (refused n) = refused n

-- what a call gives, or else what stands in its place
abbrev pub given_or : {A : Type 0} → A → Outcome A → A
given_or a (given x) = x
given_or a (refused n) = a

-- what the program's answer says in these words, where what it gives says `of`
abbrev pub answered : {A B : Type 0} → (A → B) → Result A Refusal → Outcome B
answered of (Ok a) = given (of a)
answered of (Err r) = refused (refusal_number r)

-- and the answer of a check
abbrev pub ruling : Result ⊤ Refusal → Ruling
ruling r = answered (λ _. pass) r
