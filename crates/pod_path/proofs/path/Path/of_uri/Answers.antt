use Rattle.std.proofs.Common.{◌≡◌, ◌++◌, rules}
use Rattle.std.specs.List.{before_first}
use Rattle.iri_ref.specs.Characters.{is_hash}
use Rattle.pod_path.proofs.Ancestors.{uri_none, none_weaker}
use Rattle.pod_path.proofs.path.Path.of_uri.Goals as goal

pub returns-clause-none : goal.returns-clause-none
returns-clause-none c =
    let base = c.args.base.now in
    let part = c.in-Some.part.now in
    let whole : before_first is_hash c.args.uri.now ≡ base ++ part = search rules in
    none_weaker c.read_after_slash.result (λ none. uri_none base c.args.uri.now part whole none) c.read_after_slash.ensures.none
