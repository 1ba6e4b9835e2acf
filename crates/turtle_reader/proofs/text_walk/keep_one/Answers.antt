use Rattle.std.proofs.Common.{[], ◌∷◌, OnOk, refl, sym, subst}
use Rattle.std.proofs.lemmas.Result.{on_ok_weaker}
use Rattle.turtle_grammar.specs.declared.production.Production.{Production}
use Rattle.turtle_reader.specs.Handed.{AreResolved}
use Rattle.turtle_reader.specs.Walks.{KeepsAll}
use Rattle.turtle_reader.proofs.Walking.{keeps_triple, keeps_nothing}
use Rattle.turtle_reader.proofs.text_walk.keep_one.Goals as goal

pub returns-in_ok-triple-in-Triple-clause-kept : goal.returns-in_ok-triple-in-Triple-clause-kept
returns-in_ok-triple-in-Triple-clause-kept g c =
    let bytes = c.args.bytes.now in let reader = c.args.reader.now in let old = c.args.kept.now in let new = c.keep.new.self in
    subst (λ (p : Production). OnOk c.keep.result (KeepsAll g.L.Language.is_kept bytes reader (p ∷ []) old new)) (sym c.in-Triple.is)
    (on_ok_weaker c.keep.result (keeps_triple g.L.Language.is_kept bytes reader c.in-Triple.symbolic c.in_ok-triple-in-Triple.triple old new c.in_ok-triple-in-Triple.ensures)
    c.keep.ensures.kept)

pub returns-in-Prefix-clause-kept : goal.returns-in-Prefix-clause-kept
returns-in-Prefix-clause-kept g c =
    keeps_nothing g.L.Language.is_kept c.args.bytes.now c.args.reader.now (c.args.production.now ∷ []) c.args.kept.now
    (λ ms. subst (λ (p : Production). AreResolved ms (p ∷ []) []) (sym c.in-Prefix.is) refl)

pub returns-in-Base-clause-kept : goal.returns-in-Base-clause-kept
returns-in-Base-clause-kept g c =
    keeps_nothing g.L.Language.is_kept c.args.bytes.now c.args.reader.now (c.args.production.now ∷ []) c.args.kept.now
    (λ ms. subst (λ (p : Production). AreResolved ms (p ∷ []) []) (sym c.in-Base.is) refl)
