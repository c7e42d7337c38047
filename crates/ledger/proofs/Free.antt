-- The free frames of a link in a colour: neither closed nor held, one by one. Assumes nothing.
use mathlib.Core.Path.{◌≡◌, sym, ◌∙◌}
use mathlib.Core.Bool.{true, false, not, ◌&&◌}
use mathlib.Core.List.{List, []}
use Prim.Native.Nat.{ℕ, ◌<◌, ◌≤◌}
use native.Mathlib.Decide.{dec_lt}
use native.Mathlib.Omega.{arith}
use lib.Dec.{ltb}
use borrow.Author.Tests.{not-true, lt-ltb, le-ltb}
use Rattle.lists.proofs.Count as tests
use Rattle.words.specs.Word.{bit_of}
use Rattle.words.proofs.Bits.{bit_zero}
use Rattle.words.proofs.Words.{bit_word}
use Rattle.network.specs.Network.{Topology}
use Rattle.forwarding.specs.Forwarding.{Spot, is_free}
use Rattle.ledger.specs.Sessions.{Session, slot, held_in, link_at, link_colours, free_of, hop_of, FreeIs}
use Rattle.ledger.proofs.Colours.{colour_below, colour_past}

-- "A frame is free when it is neither closed nor held by a live session", in a colour of the link
pub free_is : FreeIs
unfolding is_free free_of
free_is net ss l x = go (dec_lt x.colour (link_colours (link_at net l)))
  where
    C : ℕ
    C = link_colours (link_at net l)

    go : Dec (x.colour < C) → is_free (hop_of net ss l) x
        ≡ (ltb x.colour C && (ltb x.frame (link_at net l).frames && (not (bit_of (link_at net l).closed x.frame) && not (held_in ss (slot l x.frame x.colour)))))
    go (yes h) =
        rw (lt-ltb x.colour C h, colour_below (free_of net ss l) C x.colour h)
        (bit_word (link_at net l).frames (λ i. not (bit_of (link_at net l).closed i) && not (held_in ss (slot l i x.colour))) x.frame)
    go (no n) =
        let past : C ≤ x.colour = omega arith in
        rw (le-ltb x.colour C past, colour_past (free_of net ss l) C x.colour past) (bit_zero x.frame)

module _ (net : Topology) (ss : List Session) (l : ℕ) (x : Spot) where
  -- and so of a colour that the link has
  pub free_at_lem : x.colour < link_colours (link_at net l)
      → is_free (hop_of net ss l) x
      ≡ (ltb x.frame (link_at net l).frames && (not (bit_of (link_at net l).closed x.frame) && not (held_in ss (slot l x.frame x.colour))))
  free_at_lem h = free_is net ss l x ∙ rw (lt-ltb x.colour (link_colours (link_at net l)) h)

  module _ (on : x.colour < link_colours (link_at net l)) (free : is_free (hop_of net ss l) x ≡ true) where
    parts : (ltb x.frame (link_at net l).frames ≡ true) × (not (bit_of (link_at net l).closed x.frame) ≡ true) × (not (held_in ss (slot l x.frame x.colour)) ≡ true)
    parts =
        let a = tests.and_both (ltb x.frame (link_at net l).frames) (not (bit_of (link_at net l).closed x.frame) && not (held_in ss (slot l x.frame x.colour))) (sym (free_at_lem on) ∙ free) in
        let b = tests.and_both (not (bit_of (link_at net l).closed x.frame)) (not (held_in ss (slot l x.frame x.colour))) a.1 in
        (a.0, b.0, b.1)

    pub free_unheld : held_in ss (slot l x.frame x.colour) ≡ false
    free_unheld = not-true (held_in ss (slot l x.frame x.colour)) parts.2

    -- a frame that is free beside some sessions is free beside none
    pub free_unclosed : is_free (hop_of net [] l) x ≡ true
    free_unclosed = free_is net [] l x ∙ rw (lt-ltb x.colour (link_colours (link_at net l)) on, parts.0, parts.1)
