use Rattle.std.proofs.Common.{sym, ap, ◌∙◌}
use Rattle.std.specs.FinMap as map
use Rattle.turtle_terms.proofs.PrefixLemmas.{get_listed}
use Rattle.turtle_terms.proofs.scope.Scope.iri.Goals as goal

-- the tree's answer is the map's
pub returns : goal.returns
returns c =
    c.get.ensures.value ∙ sym (get_listed c.self.inside.iris.entries c.args.prefix.now)
    ∙ ap (λ s. map.get s c.args.prefix.now) c.self.view_is
