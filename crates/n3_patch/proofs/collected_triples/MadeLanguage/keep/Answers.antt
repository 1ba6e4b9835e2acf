use Rattle.std.proofs.Common.{[], ◌∷◌, ◌++◌, sym, subst}
use Rattle.std.proofs.lemmas.Result.{on_ok_weaker}
use Rattle.turtle_reader.proofs.Handing.{each_more}
use Rattle.n3_patch.specs.Reading.{AreMade, IsReferentTriple}
use Rattle.n3_patch.proofs.collected_triples.MadeLanguage.keep.Goals as goal

pub returns-clause-kept : goal.returns-clause-kept
returns-clause-kept c =
    let bytes = c.args.bytes.now in let old = c.args.self.now.list.items in let t = c.in_ok-triple.triple in
    on_ok_weaker c.push.result (λ e handed h. subst (AreMade bytes (handed ++ c.args.triple ∷ [])) (sym e)
    (each_more (IsReferentTriple bytes) handed c.args.triple old t h c.in_ok-triple.ensures.triple)) c.push.ensures.list
