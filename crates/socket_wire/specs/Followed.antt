-- What a WebSocket's wire over a link is after calls of it.
use Rattle.std.specs.Prelude.{◌≡◌, ℕ, List, Option}
use Rattle.std.proofs.Common.{◌∙◌, refl}
use Rattle.pod_io.specs.declared.link.LinkCounts.{LinkCounts}
use Rattle.socket_wire.specs.Passing.{PassesLink}
use Rattle.socket_wire.specs.declared.wire_over_link.SocketWire.{SocketWire}
use Rattle.socket_wire.specs.PassingLaws.{passes_still, passes_joins}

module _ {L : Type 0} (rest sent : L → Option (List ℕ)) (counts : L → LinkCounts) where
  -- It has the same link, which passed some calls, and the same counts.
  abbrev pub FollowsWire : SocketWire L → SocketWire L → Type 0
  FollowsWire a b = (a.link.ghost_name ≡ b.link.ghost_name)
      × (a.wires.ghost_name ≡ b.wires.ghost_name)
      × PassesLink (rest a.link.now) (rest b.link.now) (sent a.link.now) (sent b.link.now)
      (counts a.link.now) (counts b.link.now)

  pub follows_still : (w : SocketWire L) → FollowsWire w w
  follows_still w =
      (refl, refl, passes_still (rest w.link.now) (sent w.link.now) (counts w.link.now))

  pub follows_joins : (a b c : SocketWire L) → FollowsWire a b → FollowsWire b c → FollowsWire a c
  follows_joins a b c f g = (
    f.0 ∙ g.0,
    f.1 ∙ g.1,
    passes_joins (rest a.link.now) (rest b.link.now) (rest c.link.now) (sent a.link.now)
        (sent b.link.now) (sent c.link.now) (counts a.link.now) (counts b.link.now)
        (counts c.link.now) f.2 g.2,
  )
