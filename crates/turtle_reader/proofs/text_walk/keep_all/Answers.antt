use Rattle.std.proofs.Common.{List, [], take, refl, sym, subst, arith}
use Rattle.std.proofs.lemmas.List.{take_more, take_all}
use Rattle.turtle_grammar.specs.declared.production.Production.{Production}
use Rattle.turtle_reader.specs.Walks.{KeepsAll}
use Rattle.turtle_reader.proofs.Walking.{keeps_nothing, keeps_more}
use Rattle.turtle_reader.proofs.text_walk.keep_all.Goals as goal

pub loop-production-init : goal.loop-production-init
loop-production-init g c = record {
  sound = c.requires;
  kept = keeps_nothing g.L.Language.is_kept c.args.bytes.now c.args.reader.now [] c.args.kept.now (λ ms. refl);
}

pub loop-production-preserved : goal.loop-production-preserved
loop-production-preserved g c =
    let bytes = c.args.bytes.now in let reader = c.args.reader.now in let ps = c.args.productions.now in let k = c.loop-production.production-index in
    let old = c.args.kept.now in let new = c.keep_one.new.kept in
    record {
      sound = c.in_ok-keep_one.ensures.sound;
      kept = subst (λ (qs : List Production). KeepsAll g.L.Language.is_kept bytes reader qs old new) (sym (take_more ps k _ c.loop-production-test.true))
          (keeps_more g.L.Language.is_kept bytes reader (take k ps) _ old c.loop-production.kept new c.loop-production.invariant.kept c.in_ok-keep_one.ensures.kept);
    }

pub returns-clause-kept : goal.returns-clause-kept
returns-clause-kept g c =
    let ps = c.args.productions.now in
    subst (λ (qs : List Production). KeepsAll g.L.Language.is_kept c.args.bytes.now c.args.reader.now qs c.args.kept.now c.loop-production.kept)
    (take_all c.loop-production.production-index ps (omega arith)) c.loop-production.invariant.kept
