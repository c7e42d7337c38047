-- A refusal is told by its number and its count; what follows from a check that passed. Assumes nothing.
use mathlib.Core.Path.{◌≡◌, refl, sym, ap, ◌∙◌}
use mathlib.Core.Bool.{Bool, true, false}
use mathlib.Core.List.{List, [], ◌∷◌}
use Prim.Native.Nat.{ℕ}
use native.Mathlib.Omega.{arith}
use lib.ListN.{get_or}
use Rattle.refusals.specs.declared.Refusal.TheVariants.{BrokenState, ShortFile, LinkCount, CycleLength, ShortRecord, StrayBit, AbsentWritten, FrameCount, RangeOutside, ClosedOutside, BytesFollow, UnreadableCall, RouteLength, UnknownLink, LinkTwice, RatesApart, NumberLive, PlacesFull, NoSchedule, NumberNotLive, ShortBuffer, LeastOutside}
use Rattle.refusals.specs.declared.Refusal.{Refusal}
use Rattle.refusals.specs.Refusals.{refusal_number, refusal_count, RefusalOnly, Outcome, given, refused, pass, Ruling, refuse_if, refused_or, ruling_of, given_or, answered}
use Rattle.std.specs.Prelude.{Result, Ok, Err, IsErr, IsErrAnd}

listed : ℕ → List Refusal
listed count = BrokenState ∷ ShortFile ∷ LinkCount ∷ CycleLength ∷ ShortRecord ∷ StrayBit ∷ AbsentWritten ∷ FrameCount ∷ RangeOutside ∷ ClosedOutside ∷ BytesFollow ∷ UnreadableCall ∷ RouteLength ∷ UnknownLink ∷ LinkTwice ∷ RatesApart ∷ NumberLive ∷ PlacesFull ∷ NoSchedule count ∷ NumberNotLive ∷ ShortBuffer ∷ LeastOutside ∷ []

numbered : ℕ → ℕ → Refusal
numbered n count = get_or (listed count) n ShortBuffer

back : (r : Refusal) → numbered (refusal_number r) (refusal_count r) ≡ r
unfolding numbered listed
back BrokenState = refl
back ShortFile = refl
back LinkCount = refl
back CycleLength = refl
back ShortRecord = refl
back StrayBit = refl
back AbsentWritten = refl
back FrameCount = refl
back RangeOutside = refl
back ClosedOutside = refl
back BytesFollow = refl
back UnreadableCall = refl
back RouteLength = refl
back UnknownLink = refl
back LinkTwice = refl
back RatesApart = refl
back NumberLive = refl
back PlacesFull = refl
back (NoSchedule count) = refl
back NumberNotLive = refl
back ShortBuffer = refl
back LeastOutside = refl

-- A NUMBER AND A COUNT TELL THE REFUSAL
pub refusal_only : RefusalOnly
refusal_only a b e c = sym (back a) ∙ ap (λ (n : ℕ). numbered n (refusal_count a)) e ∙ ap (numbered (refusal_number b)) c ∙ back b

-- what is refused is not given
pub not_given : {A : Type 0} (n : ℕ) (a : A) → refused n ≡ given a → ⊥
not_given n a e = let z : ◌≡◌ {A = ℕ} 0 1 = cc in omega arith

-- a check that did not refuse, and what came after it
pub past : {A : Type 0} (b : Bool) (n : ℕ) (next : Outcome A) (a : A) → refused_or (refuse_if b n) next ≡ given a → (b ≡ false) × (next ≡ given a)
past true n next a e = (cc, cc)
past false n next a e = (refl, e)

-- a last check that did not refuse
pub not_refused : (b : Bool) (n : ℕ) → refuse_if b n ≡ given pass → b ≡ false
not_refused true n e = cc
not_refused false n e = refl

-- of two checks that passed, each did
pub both_passed : (a b : Ruling) → refused_or a b ≡ given pass → (a ≡ given pass) × (b ≡ given pass)
both_passed (given pass) b e = (refl, e)
both_passed (refused n) b e = (cc, cc)

-- ---- what a ruling tells of the call
pub refused_is : {A : Type 0} (o : Outcome A) (n : ℕ) → refused n ≡ ruling_of o → o ≡ refused n
refused_is (given a) n e = cc
refused_is (refused m) n e =
    let q : n ≡ m = cc in
    ap refused (sym q)

pub given_is : {A : Type 0} (o : Outcome A) (a : A) → given pass ≡ ruling_of o → o ≡ given (given_or a o)
given_is (given x) a e = refl
given_is (refused n) a e = cc

-- only 18 has a count
pub uncounted : (r : Refusal) → (refusal_number r ≡ 18 → ⊥) → refusal_count r ≡ 0
uncounted BrokenState h = refl
uncounted ShortFile h = refl
uncounted LinkCount h = refl
uncounted CycleLength h = refl
uncounted ShortRecord h = refl
uncounted StrayBit h = refl
uncounted AbsentWritten h = refl
uncounted FrameCount h = refl
uncounted RangeOutside h = refl
uncounted ClosedOutside h = refl
uncounted BytesFollow h = refl
uncounted UnreadableCall h = refl
uncounted RouteLength h = refl
uncounted UnknownLink h = refl
uncounted LinkTwice h = refl
uncounted RatesApart h = refl
uncounted NumberLive h = refl
uncounted PlacesFull h = refl
uncounted (NoSchedule count) h = absurd (h refl)
uncounted NumberNotLive h = refl
uncounted ShortBuffer h = refl
uncounted LeastOutside h = refl

-- a variant of another tag than that of 18
pub other_count : (tag : Refusal → ℕ) → ((count : ℕ) → tag (NoSchedule count) ≡ 18) → (r : Refusal) → (tag r ≡ 18 → ⊥) → 0 ≡ refusal_count r
unfolding numbered listed
other_count tag h r other =
    sym (uncounted r (λ e. other (ap tag (sym (back r) ∙ ap (λ (n : ℕ). numbered n (refusal_count r)) e) ∙ h (refusal_count r))))

-- what `?` passes on is the same refusal
pub passed_on : {A B : Type 0} (of : A → B) (q : Result A Refusal) (r : Refusal) → IsErr q × IsErrAnd q (λ e. e ≡ r) → answered of q ≡ refused (refusal_number r)
passed_on of (Ok x) r h = let e : ◌≡◌ {A = Bool} false true = h.0 in cc
passed_on of (Err e) r h = ap (λ (x : Refusal). refused (refusal_number x)) h.1
