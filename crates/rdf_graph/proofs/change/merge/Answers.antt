use Rattle.std.proofs.Common.{◌<◌, ◌+◌, ◌∙◌, ap, sym, subst, arith, length}
use Rattle.std.proofs.lemmas.Bool.{true≢false}
use Rattle.rdf_graph.specs.InsertionPoint.{ComesFirst}
use Rattle.rdf_graph.proofs.Merging.{IsMerging, merging_none, step_added, step_passed, step_skipped, step_kept, merged}
use Rattle.rdf_graph.proofs.change.merge.Goals as goal
use Rattle.rdf_graph.proofs.change.merge.Goals.{then-i-old, else-i-old+then-k-added, then-not-is_at_either+in_ok-copy-2+in_ok-push-2, else-not-is_at_either}

pub loop-i-init : goal.loop-i-init
loop-i-init c =
    record {
      merging = subst (IsMerging c.args.old.now c.args.removed.now c.args.added.now 0 0 0) (sym c.in_ok-new.ensures.items) (merging_none c.args.old.now c.args.removed.now c.args.added.now);
      within_old = omega arith;
      within_added = omega arith;
    }

pub loop-i-preserved-then-comes_first : goal.loop-i-preserved-then-comes_first
loop-i-preserved-then-comes_first c =
    record {
      merging = step_added _ _ _ _ _ _ _ c.loop-i.invariant.merging c.requires.old c.requires.added (c.comes_first.ensures.first.0 c.if-comes_first.true)
          c.index-added-k.result c.in_ok-copy.copy c.push.new.self.items c.if-comes_first.ensures.within c.index-added-k.is c.in_ok-copy.ensures c.in_ok-push.ensures.items;
      within_old = omega arith;
      within_added = let within : c.loop-i.k < length c.args.added.now = c.if-comes_first.ensures.within in omega arith;
    }

pub loop-i-preserved-then-comes_first-2 : goal.loop-i-preserved-then-comes_first-2
loop-i-preserved-then-comes_first-2 c =
    record {
      merging = step_passed _ _ _ _ _ _ _ c.loop-i.invariant.merging c.requires.old (c.comes_first-else-comes_first.ensures.first.0 c.if-comes_first-2.true);
      within_old = omega arith;
      within_added = omega arith;
    }

pub loop-i-preserved : goal.loop-i-preserved
loop-i-preserved c =
    let within : c.loop-i.i < length c.args.old.now =
    elim c.if-i-old.branch [ then-i-old w ↦ w.if-i-old.true | else-i-old+then-k-added w ↦ c.if-comes_first.ensures.spent w.if-k-added.true ] in
    let not_added : ComesFirst c.args.added.now c.loop-i.k c.args.old.now c.loop-i.i → ⊥ =
    λ h. true≢false (sym (c.comes_first.ensures.first.1 h) ∙ c.if-comes_first.false) in
    let not_removed : ComesFirst c.args.removed.now c.loop-i.j c.args.old.now c.loop-i.i → ⊥ =
    λ h. true≢false (sym (c.comes_first-else-comes_first.ensures.first.1 h) ∙ c.if-comes_first-2.false) in
    record {
      merging = elim c.if-not-is_at_either.branch [
        | then-not-is_at_either+in_ok-copy-2+in_ok-push-2 w ↦
            step_kept _ _ _ _ _ _ _ c.loop-i.invariant.merging c.requires.old c.requires.removed c.requires.added
            c.index-old-i.result w.index-old-i-then-not-is_at_either.result w.in_ok-copy-2.copy c.if-not-is_at_either.new.items within c.index-old-i.is w.index-old-i-then-not-is_at_either.is
            w.in_ok-copy-2.ensures (ap (λ v. v.items) w.new-is ∙ w.in_ok-push-2.ensures.items)
            not_removed not_added (λ at. true≢false (sym (c.is_at_either.ensures.1 at) ∙ w.if-not-is_at_either.true))
        | else-not-is_at_either w ↦
            subst (λ v. IsMerging c.args.old.now c.args.removed.now c.args.added.now (c.loop-i.i + 1) c.loop-i.j c.loop-i.k v.items) (sym w.new-is)
            (step_skipped _ _ _ _ _ _ _ c.loop-i.invariant.merging c.requires.old c.index-old-i.result within c.index-old-i.is (c.is_at_either.ensures.0 w.if-not-is_at_either.false))
      ];
      within_old = omega arith;
      within_added = omega arith;
    }

pub returns-clause-members : goal.returns-clause-members
returns-clause-members c = merged _ _ _ _ _ _ _ c.loop-i.invariant.merging c.if-i-old.false c.if-k-added.false
