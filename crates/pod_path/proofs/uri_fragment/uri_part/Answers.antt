use Rattle.std.proofs.Common.{◌≡◌, ◌++◌, false, not, length, rules}
use Rattle.std.specs.Prelude.{IfSome, IfNone, ◌≤◌, option_copied}
use Rattle.std.specs.List.{list_all, before_first}
use Rattle.iri_ref.specs.Characters.{is_hash, Lacks}
use Rattle.pod_path.specs.declared.limits.TheConstants.{PATH_BYTES_LIMIT}
use Rattle.pod_path.proofs.UriParts.{base_none, hash_none, none_after, some_after}
use Rattle.pod_path.proofs.uri_fragment.uri_part.Goals as goal

pub returns-then-not-lacks_hash-clause-none : goal.returns-then-not-lacks_hash-clause-none
returns-then-not-lacks_hash-clause-none c =
    let has : list_all (λ d. not (is_hash d)) c.args.base.now ≡ false = search rules in
    hash_none c.args.base.now c.args.uri.now has

pub returns-in-Some-clause-some : goal.returns-in-Some-clause-some
returns-in-Some-clause-some c =
    let lacks : Lacks is_hash c.args.base.now = search rules in
    let whole : c.args.uri.now ≡ c.args.base.now ++ c.in-Some.rest.now = c.in-Some.ensures.some in
    let some : IfSome (option_copied c.strip_near_fragment.result) (λ part. before_first is_hash c.in-Some.rest.now ≡ part) = search rules in
    some_after c.args.base.now c.args.uri.now c.in-Some.rest.now (option_copied c.strip_near_fragment.result) lacks whole some

pub returns-in-Some-clause-none : goal.returns-in-Some-clause-none
returns-in-Some-clause-none c =
    let lacks : Lacks is_hash c.args.base.now = search rules in
    let whole : c.args.uri.now ≡ c.args.base.now ++ c.in-Some.rest.now = c.in-Some.ensures.some in
    let none : IfNone (option_copied c.strip_near_fragment.result) (PATH_BYTES_LIMIT ≤ length (before_first is_hash c.in-Some.rest.now)) = search rules in
    none_after c.args.base.now c.args.uri.now c.in-Some.rest.now (option_copied c.strip_near_fragment.result) lacks whole none

pub returns-in-None-clause-none : goal.returns-in-None-clause-none
returns-in-None-clause-none c = base_none c.args.base.now c.args.uri.now c.in-None.ensures.none
