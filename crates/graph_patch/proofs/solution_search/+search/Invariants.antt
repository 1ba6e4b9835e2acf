use Rattle.std.proofs.Common.{◌≡◌, take}
use Rattle.std.specs.Prelude.{map}
use Rattle.graph_patch.specs.Lookup.{candidate_triples}
use Rattle.graph_patch.specs.Search.{IsSearchResult, pairs_of}
use Rattle.graph_patch.proofs.SearchResults.{Upto, untaken}
use Rattle.graph_patch.proofs.solution_search.+search.Given as goal

-- the conditions that are left
abbrev pub decreases-search : goal.decreases-search
decreases-search l = untaken l.taken.now

-- what there is with the triples so far
abbrev pub invariant-loop-position : goal.invariant-loop-position
invariant-loop-position l =
    record {
      found : IsSearchResult l.lookup.triples.now (map (λ c. c.now) l.conditions) (Upto (pairs_of l.initial.bound.items) l.condition (take l.position (candidate_triples l.candidates))) l.found;
      taken : l.taken ≡ l.initial.taken;
      bound : l.bound.items ≡ l.initial.bound.items;
    }
