use Rattle.std.proofs.Common.{refl, subst}
use Rattle.sparql_patch.specs.Reading.{IsNamingOrBlank}
use Rattle.sparql_patch.proofs.Counting.{on_ok_both, collects_naming, collects_blank}
use Rattle.sparql_patch.proofs.collected_triples.CollectedLanguage.keep.Goals as goal

pub returns-in-Some-clause-kept : goal.returns-in-Some-clause-kept
returns-in-Some-clause-kept c =
    let naming = subst (IsNamingOrBlank c.args.triple) c.in-Some.is c.in_ok-naming.ensures in
    on_ok_both c.add.result
    (λ counted blank handed h. collects_naming handed c.args.triple c.args.self.now c.add.new.self h c.in-Some.naming naming blank counted)
    c.add.ensures.counted c.add.ensures.has_blank

pub returns-in-None-clause-kept : goal.returns-in-None-clause-kept
returns-in-None-clause-kept c = λ handed h.
    let naming = subst (IsNamingOrBlank c.args.triple) c.in-None.is c.in_ok-naming.ensures in
    collects_blank handed c.args.triple c.args.self.now _ h naming refl
