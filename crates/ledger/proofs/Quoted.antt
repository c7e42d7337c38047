-- Where 0 and 13 don't refuse, a quote depends on T, the route and those links' K, Z, Y and free frames alone. Assumes nothing.
use mathlib.Core.Path.{◌≡◌, refl, sym, ap, ap₂, ◌∙◌}
use mathlib.Core.Bool.{Bool, true, false}
use mathlib.Core.List.{List, [], ◌∷◌, map}
use Prim.Native.Nat.{ℕ}
use lib.ListN.{length}
use Rattle.refusals.specs.Refusals.{Ruling}
use Rattle.network.specs.Network.{Topology}
use Rattle.forwarding.specs.declared.Hop.{Hop}
use Rattle.ledger.specs.Sessions.{Session, View, link_at, hops_of}
use Rattle.ledger.specs.Routes.{bad_length, unknown_link, rates_of, route_check}
use Rattle.ledger.specs.Sound.{intact}
use Rattle.ledger.specs.Calls.{Call, Quote, Reply, refusal, answer_over, unless, call_check, granted, reply, QuoteDepends}
use Rattle.ledger.proofs.Answered.{reply_intact}

-- the K of a route's links are those of its hops
rates_hops : (net : Topology) (ss : List Session) (route : List ℕ) → rates_of net route ≡ map (λ h. h.frames) (hops_of net ss route)
rates_hops net ss [] = refl
rates_hops net ss (l ∷ route) = ap (λ (Ks : List ℕ). (link_at net l).frames ∷ Ks) (rates_hops net ss route)

-- a state that 0 doesn't refuse is intact
pub unbroken : (v : View) (call : Call) → (reply v call ≡ refusal 0 0 → ⊥) → intact v ≡ true
unbroken v call h = go (intact v) refl
  where
    broken : intact v ≡ false → reply v call ≡ refusal 0 0
    broken e = unfold reply in rw e

    go : (b : Bool) → intact v ≡ b → b ≡ true
    go true e = refl
    go false e = absurd (h (broken e))

module _ (v : View) (route : List ℕ) (i : intact v ≡ true) where
  quote_checked : reply v (Quote route) ≡ unless (route_check v.network route) (answer_over v.network.ticks (hops_of v.network v.live route))
  unfolding call_check granted
  quote_checked = reply_intact v (Quote route) i

  bad_length_lem : bad_length (length route) ≡ true → reply v (Quote route) ≡ refusal 12 0
  unfolding route_check
  bad_length_lem e = quote_checked ∙ rw e

  unknown_refused : bad_length (length route) ≡ false → unknown_link v.network route ≡ true → reply v (Quote route) ≡ refusal 13 0
  unfolding route_check
  unknown_refused e k = quote_checked ∙ rw (e, k)

  known_links : bad_length (length route) ≡ false → (reply v (Quote route) ≡ refusal 13 0 → ⊥) → unknown_link v.network route ≡ false
  known_links e h = go (unknown_link v.network route) refl
    where
      go : (b : Bool) → unknown_link v.network route ≡ b → b ≡ false
      go true k = absurd (h (unknown_refused e k))
      go false k = refl

-- A QUOTE DEPENDS ON THESE ALONE
pub quote_depends : QuoteDepends
quote_depends v w route hv hw kv kw t e = go (bad_length (length route)) refl
  where
    iv : intact v ≡ true
    iv = unbroken v (Quote route) hv

    iw : intact w ≡ true
    iw = unbroken w (Quote route) hw

    rates : rates_of v.network route ≡ rates_of w.network route
    rates =
        rates_hops v.network v.live route ∙ ap (λ (hops : List Hop). map (λ h. h.frames) hops) e ∙ sym (rates_hops w.network w.live route)

    same_check : bad_length (length route) ≡ false → route_check v.network route ≡ route_check w.network route
    same_check b = unfold route_check in rw (known_links v route iv b kv, known_links w route iw b kw, rates) refl

    go : (b : Bool) → bad_length (length route) ≡ b → reply v (Quote route) ≡ reply w (Quote route)
    go true b = bad_length_lem v route iv b ∙ sym (bad_length_lem w route iw b)
    go false b =
        quote_checked v route iv
        ∙ ap₂ (λ (o : Ruling) (r : Reply). unless o r) (same_check b) (ap₂ (λ (T : ℕ) (hops : List Hop). answer_over T hops) t e)
        ∙ sym (quote_checked w route iw)
