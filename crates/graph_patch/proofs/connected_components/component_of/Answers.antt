use Rattle.std.proofs.Common.{◌∙◌, ◌<◌, ◌∷◌, [], ◌++◌, ap, sym, subst, map, cond, eqb, take, length, get_or}
use Rattle.std.proofs.lemmas.Bool.{eq-eqb, ne_eqb}
use Rattle.std.proofs.lemmas.List.{map-append, append-nil, get_or_default}
use Rattle.graph_patch.specs.ConnectedComponents.{selected}
use Rattle.graph_patch.proofs.Components.{selected_more}
use Rattle.graph_patch.proofs.connected_components.component_of.Goals as goal
use Rattle.graph_patch.proofs.connected_components.component_of.Goals.{then-labels-i+in_ok-push, else-labels-i}

pub loop-i-preserved : goal.loop-i-preserved
loop-i-preserved c =
    let within : c.loop-i.i < length c.args.labels.now = subst (λ n. c.loop-i.i < n) (sym c.requires) c.loop-i-test.true in
    let more = selected_more (λ k. eqb k c.args.label) c.args.conditions.now c.args.labels.now c.loop-i.i c.index-conditions-i.result (get_or c.args.labels.now c.loop-i.i 0) c.requires c.loop-i-test.true c.index-conditions-i.is
    (get_or_default c.args.labels.now c.loop-i.i 0 _ within) in
    elim c.if-labels-i.branch [
      | then-labels-i+in_ok-push w ↦
          ap (λ v. map (λ r. r.now) v.items) w.component-is ∙ ap (map (λ r. r.now)) w.in_ok-push.ensures.items ∙ map-append (λ r. r.now) c.loop-i.component.items _
          ∙ ap (λ cs. cs ++ c.index-conditions-i.result ∷ []) c.loop-i.invariant
          ∙ sym (more ∙ ap (λ b. selected (λ k. eqb k c.args.label) (take c.loop-i.i c.args.conditions.now) (take c.loop-i.i c.args.labels.now) ++ cond b (c.index-conditions-i.result ∷ []) []) (eq-eqb _ _ w.if-labels-i.true))
      | else-labels-i w ↦
          ap (λ v. map (λ r. r.now) v.items) w.component-is ∙ c.loop-i.invariant
          ∙ sym (more ∙ ap (λ b. selected (λ k. eqb k c.args.label) (take c.loop-i.i c.args.conditions.now) (take c.loop-i.i c.args.labels.now) ++ cond b (c.index-conditions-i.result ∷ []) []) (ne_eqb _ _ w.if-labels-i.false) ∙ append-nil _)
    ]
