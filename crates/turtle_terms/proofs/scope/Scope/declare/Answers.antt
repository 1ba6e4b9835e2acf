use Rattle.std.proofs.Common.{Some, ap, ◌∙◌}
use Rattle.std.proofs.lemmas.Map.Text.{btree_map_updates_text}
use Rattle.std.specs.FinMap as map
use Rattle.std.specs.String.{string_bytes}
use Rattle.turtle_terms.specs.Prefixes.{Prefixes}
use Rattle.turtle_terms.proofs.PrefixLemmas.{one_put, prefixes_of}
use Rattle.turtle_terms.proofs.scope.Scope.declare.Goals as goal

-- the tree after the insert is seen as the map after it
pub returns-clause-declared : goal.returns-clause-declared
returns-clause-declared c =
    let key = c.in_ok-prefix.prefix in
    let old = c.self.inside.iris in
    one_put old.entries c.insert.new.self.entries (string_bytes key) c.args.iri
    (btree_map_updates_text (string_bytes key) old c.insert.new.self (Some c.args.iri) c.in_ok-insert.ensures.updates)
    ∙ ap (λ prefix. map.insert (prefixes_of old.entries) prefix c.args.iri) c.in_ok-prefix.ensures.ok
    ∙ ap (λ (s : Prefixes). map.insert s c.args.prefix.now c.args.iri) c.self.view_is
