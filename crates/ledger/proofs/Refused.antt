-- Each answer is right against the sessions before it: every check refuses exactly under its condition, and the rest gets what is due. Assumes nothing.
use mathlib.Core.Path.{◌≡◌, refl, sym, ap, subst, ◌∙◌}
use mathlib.Core.Bool.{Bool, true, false, not, ◌||◌}
use mathlib.Core.List.{List}
use Prim.Native.Nat.{ℕ}
use native.Mathlib.Omega.{arith}
use lib.ListN.{length}
use lib.Dec.{eqb}
use Rattle.trellis.specs.Answer.{found, blocked}
use Rattle.trellis.specs.Answer as trellis
use Rattle.refusals.specs.Refusals.{Ruling, given, refused, pass, refuse_if, refused_or}
use Rattle.network.specs.Network.{Topology}
use Rattle.forwarding.specs.declared.Hop.{Hop}
use Rattle.forwarding.specs.Forwarding.{Spot}
use Rattle.forwarding.specs.Route.{route_answer}
use Rattle.ledger.specs.Sessions.{Session, is_live, hops_of}
use Rattle.ledger.specs.Routes.{bad_length, unknown_link, link_twice, rates_apart, rates_of, route_check}
use Rattle.ledger.specs.Calls.{Call, SetUp, Quote, Release, refusal, reply_of, answer_over, unless, full, call_check, granted}
use Rattle.ledger.specs.Demand.{Due, Right}
use Rattle.ledger.proofs.Lists.{clash}
use Rattle.ledger.proofs.Answered.{answer_on, call_due}

-- ---- no check of a call after 0 refuses with 0 or with 18
abbrev special : Ruling → Bool
special (given p) = false
special (refused k) = eqb k 0 || eqb k 18

special_or : (a b : Ruling) → special a ≡ false → special b ≡ false → special (refused_or a b) ≡ false
special_or (given p) b h g = g
special_or (refused k) b h g = h

special_if : (b : Bool) (k : ℕ) → special (refused k) ≡ false → special (refuse_if b k) ≡ false
special_if true k h = h
special_if false k h = refl

route_plain : (net : Topology) (route : List ℕ) → special (route_check net route) ≡ false
unfolding route_check
route_plain net route =
    let r : Ruling = refuse_if (rates_apart (rates_of net route)) 15 in
    let o : Ruling = refused_or (refuse_if (link_twice route) 14) r in
    let k : Ruling = refused_or (refuse_if (unknown_link net route) 13) o in
    special_or (refuse_if (bad_length (length route)) 12) k (special_if (bad_length (length route)) 12 refl)
    (special_or (refuse_if (unknown_link net route) 13) o (special_if (unknown_link net route) 13 refl)
    (special_or (refuse_if (link_twice route) 14) r (special_if (link_twice route) 14 refl)
    (special_if (rates_apart (rates_of net route)) 15 refl)))

call_plain : (net : Topology) (ss : List Session) (call : Call) → special (call_check net ss call) ≡ false
unfolding call_check
call_plain net ss (SetUp n route) =
    special_or (route_check net route) (refused_or (refuse_if (is_live n ss) 16) (refuse_if (full ss) 17)) (route_plain net route)
    (special_or (refuse_if (is_live n ss) 16) (refuse_if (full ss) 17) (special_if (is_live n ss) 16 refl) (special_if (full ss) 17 refl))
call_plain net ss (Quote route) = route_plain net route
call_plain net ss (Release n) = special_if (not (is_live n ss)) 19 refl

pub not_eighteen : (net : Topology) (ss : List Session) (call : Call) (k : ℕ) → call_check net ss call ≡ refused k → k ≡ 18 → ⊥
not_eighteen net ss call k e q = clash (special (refused k)) (ap (λ (j : ℕ). special (refused j)) q) (ap special (sym e) ∙ call_plain net ss call)

-- ---- what is granted and yet a refusal has the number 18
pub answer_refusal : (T : ℕ) (hops : List Hop) (k count : ℕ) → answer_over T hops ≡ refusal k count → k ≡ 18
answer_refusal T hops k count e = go (route_answer T hops) e
  where
    go : (a : trellis.Answer Spot) → reply_of hops a ≡ refusal k count → k ≡ 18
    go (found d n w) g = cc
    go (blocked n) g = cc

granted_refusal : (net : Topology) (ss : List Session) (call : Call) (k count : ℕ) → granted net ss call ≡ refusal k count → k ≡ 18
unfolding granted
granted_refusal net ss (SetUp n route) k count e = answer_refusal net.ticks (hops_of net ss route) k count e
granted_refusal net ss (Quote route) k count e = answer_refusal net.ticks (hops_of net ss route) k count e
granted_refusal net ss (Release n) k count e = cc

module _ (net : Topology) (ss : List Session) (call : Call) where
  other_refused : (k count : ℕ) → answer_on net ss call ≡ refusal k count → (k ≡ 18 → ⊥) → call_check net ss call ≡ refused k
  other_refused k count e h = go (call_check net ss call) refl e
    where
      go : (o : Ruling) → call_check net ss call ≡ o → unless o (granted net ss call) ≡ refusal k count → o ≡ refused k
      go (given p) w g = absurd (h (granted_refusal net ss call k count g))
      go (refused j) w g = cc

  blocked_passed : (count : ℕ) → answer_on net ss call ≡ refusal 18 count → call_check net ss call ≡ given pass
  blocked_passed count e = go (call_check net ss call) (call_plain net ss call) e
    where
      go : (o : Ruling) → special o ≡ false → unless o (granted net ss call) ≡ refusal 18 count → o ≡ given pass
      go (given pass) w g = refl
      go (refused j) w g = let is : j ≡ 18 = cc in clash (special (refused j)) (ap (λ (k : ℕ). special (refused k)) is) w

  never_broken : (count : ℕ) → answer_on net ss call ≡ refusal 0 count → ⊥
  never_broken count e =
      clash (special (refused 0)) refl
      (ap special (sym (other_refused 0 count e (λ z. omega arith))) ∙ call_plain net ss call)

  -- THE ANSWER OF A CALL WHERE 0 DOESN'T REFUSE IS RIGHT
  pub answer_right : Right net ss call (answer_on net ss call)
  answer_right =
      record {
        other = λ k e. ap (λ (o : Ruling). unless o (granted net ss call)) e;
        only = other_refused;
        blocked = blocked_passed;
        unbroken = never_broken;
        due = λ e. subst (λ (o : Ruling). Due net ss call (unless o (granted net ss call))) (sym e) (call_due net ss call);
      }
