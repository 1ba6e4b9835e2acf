use Rattle.std.proofs.Common.{◌≡◌, ◌∙◌, ◌<◌, ◌≤◌, ◌+◌, ap, sym, subst, length, map, set, true, false, take, arith, Some, None, cond}
use Rattle.std.proofs.lemmas.List.{length-map, length-set, take_all}
use Rattle.graph_patch.specs.Search.{IsUniqueMatch, IsPartialMatch, IsSearchResult, pairs_of, bind_pattern}
use Rattle.graph_patch.specs.Lookup.{AreCandidates, candidate_triples}
use Rattle.graph_patch.specs.Pattern.{Extends, slot_term, value_of}
use Rattle.graph_patch.specs.declared.pattern.Found.TheVariants.{Many}
use Rattle.graph_patch.proofs.SearchResults.{all_taken, leaf_tells, untaken, untaken-set, read_map, next_fits, next_differs, next_partial, set-back, upto_all, upto_two, Upto}
use Rattle.graph_patch.proofs.solution_search.+search.Goals as goal
use Rattle.graph_patch.proofs.solution_search.+search.Goals.{then-branch+in_ok-more, else-branch}

pub returns-in_default-clause-found : goal.returns-in_default-clause-found
returns-in_default-clause-found t c =
    let pairs : c.in_ok-mapping_of.field-0.pairs.items ≡ pairs_of c.args.bound.now.items = c.in_ok-mapping_of.ensures ∙ ap pairs_of c.as_slice-in_default.ensures.value in
    subst (IsUniqueMatch c.args.lookup.triples.now _ (Extends (pairs_of c.args.bound.now.items))) (sym pairs)
    (leaf_tells c.args.lookup.triples.now _ (pairs_of c.args.bound.now.items)
    (all_taken c.args.lookup.triples.now _ c.args.taken.now (pairs_of c.args.bound.now.items) (c.requires.flags ∙ sym (length-map c.args.conditions.now (λ r. r.now))) c.in_default.ensures.none c.requires.partial))

pub search-requires : goal.search-requires
search-requires t c =
    let fits : bind_pattern (pairs_of c.args.bound.now.items) c.index-conditions-next.result.now c.at-triple.result.now ≡ Some (pairs_of c.extend.new.bound.items) =
    subst (λ b. bind_pattern (pairs_of b) c.index-conditions-next.result.now c.at-triple.result.now ≡ Some (pairs_of c.extend.new.bound.items)) c.loop-position.invariant.bound
    (c.in_ok-extend.ensures.fits ∙ ap (λ b. cond b (Some (pairs_of c.extend.new.bound.items)) None) c.if-branch.true) in
    let at = read_map (λ r. r.now) c.args.conditions.now c.in-Some.next c.index-conditions-next.result (subst (λ n. c.in-Some.next < n) c.requires.flags c.in-Some.ensures.within) c.index-conditions-next.is in
    let partial = next_partial c.args.lookup.triples.now (map (λ r. r.now) c.args.conditions.now) c.args.taken.now (pairs_of c.args.bound.now.items) c.in-Some.next c.index-conditions-next.result.now at
    (candidate_triples c.candidates_of-candidates.result) c.loop-position.position c.at-triple.result.now c.at-triple.ensures c.candidates_of-candidates.ensures.within (pairs_of c.extend.new.bound.items) fits c.requires.partial in
    let fewer : untaken c.loop-position.taken < untaken c.args.taken.now =
    subst (λ b. untaken b < untaken c.args.taken.now) (sym c.loop-position.invariant.taken) (untaken-set c.args.taken.now c.in-Some.next c.in-Some.ensures.some) in (
      omega (arith, fewer, c.decreases),
      (
        c.requires.lookup,
        (
          ap length c.loop-position.invariant.taken ∙ length-set c.args.taken.now c.in-Some.next true ∙ c.requires.flags,
          subst (λ b. IsPartialMatch c.args.lookup.triples.now (map (λ r. r.now) c.args.conditions.now) b (pairs_of c.extend.new.bound.items)) (sym c.loop-position.invariant.taken) partial,
        ),
      ),
    )

pub loop-position-preserved : goal.loop-position-preserved
loop-position-preserved t c =
    let at = read_map (λ r. r.now) c.args.conditions.now c.in-Some.next c.index-conditions-next.result (subst (λ n. c.in-Some.next < n) c.requires.flags c.in-Some.ensures.within) c.index-conditions-next.is in
    let fits_as = subst (λ b. bind_pattern (pairs_of b) c.index-conditions-next.result.now c.at-triple.result.now ≡ cond c.in_ok-extend.field-0 (Some (pairs_of c.extend.new.bound.items)) None) c.loop-position.invariant.bound c.in_ok-extend.ensures.fits in
    record {
      found = elim c.if-branch.branch [
        | then-branch+in_ok-more w ↦
            next_fits c.args.lookup.triples.now (map (λ r. r.now) c.args.conditions.now) c.args.taken.now (pairs_of c.args.bound.now.items) c.in-Some.next c.index-conditions-next.result.now at
            (candidate_triples c.candidates_of-candidates.result) c.loop-position.position c.at-triple.result.now c.at-triple.ensures c.candidates_of-candidates.ensures.once
            (pairs_of c.extend.new.bound.items) (fits_as ∙ ap (λ b. cond b (Some (pairs_of c.extend.new.bound.items)) None) w.if-branch.true)
            c.loop-position.found w.in_ok-more.more c.if-branch.found (w.found-is ∙ w.union-found.ensures) c.loop-position.invariant.found w.in_ok-more.ensures.found
        | else-branch w ↦
            next_differs c.args.lookup.triples.now (map (λ r. r.now) c.args.conditions.now) c.args.taken.now (pairs_of c.args.bound.now.items) c.in-Some.next c.index-conditions-next.result.now at
            (candidate_triples c.candidates_of-candidates.result) c.loop-position.position c.at-triple.result.now c.at-triple.ensures
            (fits_as ∙ ap (λ b. cond b (Some (pairs_of c.extend.new.bound.items)) None) w.if-branch.false)
            c.loop-position.found c.if-branch.found w.found-is c.loop-position.invariant.found
      ];
      taken = elim c.if-branch.branch [ then-branch+in_ok-more w ↦ w.taken-is ∙ w.in_ok-more.ensures.taken ∙ c.loop-position.invariant.taken | else-branch w ↦ w.taken-is ∙ c.loop-position.invariant.taken ];
      bound =
          let long : c.len-before.result ≡ length c.loop-position.bound.items = c.len-before.ensures ∙ c.args.bound.now.ok.0 ∙ ap (λ b. length b) (sym c.loop-position.invariant.bound) in
          c.truncate.ensures.items ∙ ap (λ n. take n c.if-branch.bound.items) long
          ∙ elim c.if-branch.branch [
            | then-branch+in_ok-more w ↦ ap (λ b. take (length c.loop-position.bound.items) b) (ap (λ v. v.items) w.bound-is ∙ w.in_ok-more.ensures.bound)
            | else-branch w ↦ ap (λ v. take (length c.loop-position.bound.items) v.items) w.bound-is
          ]
          ∙ c.in_ok-extend.ensures.kept ∙ c.loop-position.invariant.bound;
    }

pub returns-then-is_many-clause-taken : goal.returns-then-is_many-clause-taken
returns-then-is_many-clause-taken t c =
    elim c.if-branch.branch [
      | then-branch+in_ok-more w ↦ ap (λ b. set b c.in-Some.next false) (w.taken-is ∙ w.in_ok-more.ensures.taken ∙ c.loop-position.invariant.taken) ∙ set-back c.args.taken.now c.in-Some.next c.in-Some.ensures.some
      | else-branch w ↦ ap (λ b. set b c.in-Some.next false) (w.taken-is ∙ c.loop-position.invariant.taken) ∙ set-back c.args.taken.now c.in-Some.next c.in-Some.ensures.some
    ]

pub returns-then-is_many-clause-found : goal.returns-then-is_many-clause-found
returns-then-is_many-clause-found t c =
    let at = read_map (λ r. r.now) c.args.conditions.now c.in-Some.next c.index-conditions-next.result (subst (λ n. c.in-Some.next < n) c.requires.flags c.in-Some.ensures.within) c.index-conditions-next.is in
    let fits_as = subst (λ b. bind_pattern (pairs_of b) c.index-conditions-next.result.now c.at-triple.result.now ≡ cond c.in_ok-extend.field-0 (Some (pairs_of c.extend.new.bound.items)) None) c.loop-position.invariant.bound c.in_ok-extend.ensures.fits in
    let many : c.if-branch.found ≡ Many = c.is_many.ensures.0 c.if-is_many.true in
    let next : IsSearchResult c.args.lookup.triples.now (map (λ r. r.now) c.args.conditions.now) (Upto (pairs_of c.args.bound.now.items) c.index-conditions-next.result.now (take (c.loop-position.position + 1) (candidate_triples c.candidates_of-candidates.result))) c.if-branch.found =
    elim c.if-branch.branch [
      | then-branch+in_ok-more w ↦
          next_fits c.args.lookup.triples.now (map (λ r. r.now) c.args.conditions.now) c.args.taken.now (pairs_of c.args.bound.now.items) c.in-Some.next c.index-conditions-next.result.now at
          (candidate_triples c.candidates_of-candidates.result) c.loop-position.position c.at-triple.result.now c.at-triple.ensures c.candidates_of-candidates.ensures.once
          (pairs_of c.extend.new.bound.items) (fits_as ∙ ap (λ b. cond b (Some (pairs_of c.extend.new.bound.items)) None) w.if-branch.true)
          c.loop-position.found w.in_ok-more.more c.if-branch.found (w.found-is ∙ w.union-found.ensures) c.loop-position.invariant.found w.in_ok-more.ensures.found
      | else-branch w ↦
          next_differs c.args.lookup.triples.now (map (λ r. r.now) c.args.conditions.now) c.args.taken.now (pairs_of c.args.bound.now.items) c.in-Some.next c.index-conditions-next.result.now at
          (candidate_triples c.candidates_of-candidates.result) c.loop-position.position c.at-triple.result.now c.at-triple.ensures
          (fits_as ∙ ap (λ b. cond b (Some (pairs_of c.extend.new.bound.items)) None) w.if-branch.false)
          c.loop-position.found c.if-branch.found w.found-is c.loop-position.invariant.found
    ] in
    subst (IsSearchResult c.args.lookup.triples.now (map (λ r. r.now) c.args.conditions.now) (Extends (pairs_of c.args.bound.now.items))) (sym many)
    (upto_two c.args.lookup.triples.now (map (λ r. r.now) c.args.conditions.now) c.args.taken.now (pairs_of c.args.bound.now.items) c.in-Some.next c.index-conditions-next.result.now at
    (candidate_triples c.candidates_of-candidates.result) (c.loop-position.position + 1)
    (subst (IsSearchResult c.args.lookup.triples.now (map (λ r. r.now) c.args.conditions.now) (Upto (pairs_of c.args.bound.now.items) c.index-conditions-next.result.now (take (c.loop-position.position + 1) (candidate_triples c.candidates_of-candidates.result)))) many next))

pub returns-clause-taken : goal.returns-clause-taken
returns-clause-taken t c = ap (λ b. set b c.in-Some.next false) c.loop-position.invariant.taken ∙ set-back c.args.taken.now c.in-Some.next c.in-Some.ensures.some

pub returns-clause-found : goal.returns-clause-found
returns-clause-found t c =
    let at = read_map (λ r. r.now) c.args.conditions.now c.in-Some.next c.index-conditions-next.result (subst (λ n. c.in-Some.next < n) c.requires.flags c.in-Some.ensures.within) c.index-conditions-next.is in
    let spanned : AreCandidates (slot_term (value_of (pairs_of c.args.bound.now.items)) c.index-conditions-next.result.now.s) (slot_term (value_of (pairs_of c.args.bound.now.items)) c.index-conditions-next.result.now.p) (slot_term (value_of (pairs_of c.args.bound.now.items)) c.index-conditions-next.result.now.o) c.args.lookup.triples.now (candidate_triples c.candidates_of-candidates.result) =
    subst (λ b. AreCandidates (slot_term (value_of (pairs_of b)) c.index-conditions-next.result.now.s) (slot_term (value_of (pairs_of b)) c.index-conditions-next.result.now.p) (slot_term (value_of (pairs_of b)) c.index-conditions-next.result.now.o) c.args.lookup.triples.now (candidate_triples c.candidates_of-candidates.result)) c.as_slice-3.ensures.value c.candidates_of-candidates.ensures in
    let past : length (candidate_triples c.candidates_of-candidates.result) ≤ c.loop-position.position = omega arith in
    upto_all c.args.lookup.triples.now (map (λ r. r.now) c.args.conditions.now) c.args.taken.now (pairs_of c.args.bound.now.items) c.in-Some.next c.index-conditions-next.result.now at (candidate_triples c.candidates_of-candidates.result) spanned c.loop-position.found
    (subst (λ zs. IsSearchResult c.args.lookup.triples.now (map (λ r. r.now) c.args.conditions.now) (Upto (pairs_of c.args.bound.now.items) c.index-conditions-next.result.now zs) c.loop-position.found) (take_all c.loop-position.position (candidate_triples c.candidates_of-candidates.result) past) c.loop-position.invariant.found)
