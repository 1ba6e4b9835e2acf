use Rattle.std.proofs.Common.{◌≡◌, take, length, rules}
use Rattle.std.specs.Prelude.{◌<◌, ◌≤◌}
use Rattle.std.specs.List.{before_first}
use Rattle.iri_ref.specs.Characters.{is_hash}
use Rattle.pod_path.proofs.UriParts.{near_part, far_part}
use Rattle.pod_path.proofs.uri_fragment.strip_near_fragment.Goals as goal

pub returns-then-part-most-clause-some : goal.returns-then-part-most-clause-some
returns-then-part-most-clause-some c =
    let part = c.strip_fragment-part.result.now in
    let is : part ≡ before_first is_hash (take c.args.most c.args.bytes.now) = search rules in
    let short : length part < c.args.most = search rules in
    near_part c.args.most c.args.bytes.now part is short

pub returns-else-part-most-clause-none : goal.returns-else-part-most-clause-none
returns-else-part-most-clause-none c =
    let part = c.strip_fragment-part.result.now in
    let is : part ≡ before_first is_hash (take c.args.most c.args.bytes.now) = search rules in
    let long : c.args.most ≤ length part = search rules in
    far_part c.args.most c.args.bytes.now part is long
