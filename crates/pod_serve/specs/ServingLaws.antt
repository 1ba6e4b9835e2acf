-- Laws of a link that is written to.
use Rattle.std.specs.Prelude.{ℕ, List, [], ◌++◌, Option}
use Rattle.std.proofs.Common.{refl, ◌∙◌, arith}
use Rattle.pod_io.proofs.Extending.{extends_more, nothing_added}
use Rattle.pod_io.specs.declared.link.LinkCounts.{LinkCounts}
use Rattle.pod_serve.specs.Serving.{FollowsLink, IsWrittenTo}
use Rattle.pod_serve.specs.declared.link_output.LinkOutput.{LinkOutput}

pub written_still : (rest sent : Option (List ℕ)) (counts : LinkCounts)
    → IsWrittenTo rest rest sent sent counts counts
written_still rest sent counts = record {
  rest_is = refl;
  more = [];
  sends = nothing_added sent;
  reads = refl;
  ended = refl;
  read_faults = refl;
  quiet = refl;
  quiet_row = refl;
  write_faults = omega arith;
}

pub written_joins : (a b c s t u : Option (List ℕ)) (k l m : LinkCounts)
    → IsWrittenTo a b s t k l → IsWrittenTo b c t u l m → IsWrittenTo a c s u k m
written_joins a b c s t u k l m p q = record {
  rest_is = q.rest_is ∙ p.rest_is;
  more = p.more ++ q.more;
  sends = extends_more s t u p.more q.more p.sends q.sends;
  reads = q.reads ∙ p.reads;
  ended = q.ended ∙ p.ended;
  read_faults = q.read_faults ∙ p.read_faults;
  quiet = q.quiet ∙ p.quiet;
  quiet_row = q.quiet_row ∙ p.quiet_row;
  write_faults = omega (arith, p.write_faults, q.write_faults);
}

module _ {L : Type 0} (rest sent : L → Option (List ℕ)) (counts : L → LinkCounts) where
  pub follows_still : (o : LinkOutput L) → FollowsLink rest sent counts o o
  follows_still o = (refl, written_still (rest o.link.now) (sent o.link.now) (counts o.link.now))

  pub follows_joins : (a b c : LinkOutput L) → FollowsLink rest sent counts a b
      → FollowsLink rest sent counts b c → FollowsLink rest sent counts a c
  follows_joins a b c f g = (
    f.0 ∙ g.0,
    written_joins (rest a.link.now) (rest b.link.now) (rest c.link.now) (sent a.link.now)
        (sent b.link.now) (sent c.link.now) (counts a.link.now) (counts b.link.now)
        (counts c.link.now) f.1 g.1,
  )
