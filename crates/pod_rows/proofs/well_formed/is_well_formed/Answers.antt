use Rattle.std.proofs.Common.{◌∙◌, sym}
use Rattle.std.proofs.lemmas.Result.{IfOk-weaker}
use Rattle.pod_rows.specs.Pod.{Pod}
use Rattle.pod_rows.proofs.Tests.{in_order_sound, in_order_complete, right_paths, right_rows, right_pod, related_rows, well_formed_from}
use Rattle.pod_rows.proofs.well_formed.is_well_formed.Goals as goal

pub returns-then-not-are_in_order-clause-complete : goal.returns-then-not-are_in_order-clause-complete
returns-then-not-are_in_order-clause-complete c =
    λ w. sym (sym c.are_in_order.ensures ∙ c.if-not-are_in_order.true) ∙ in_order_complete c.args.rows.now w.order

pub returns-then-not-are_rows_right-clause-complete : goal.returns-then-not-are_rows_right-clause-complete
returns-then-not-are_rows_right-clause-complete c =
    λ w. sym (sym c.are_rows_right.ensures ∙ c.if-not-are_rows_right.true) ∙ right_rows _ w

pub is_pod_right-requires : goal.is_pod_right-requires
is_pod_right-requires c = in_order_sound c.args.rows.now (sym c.are_in_order.ensures ∙ c.if-not-are_in_order.false)

pub returns-then-not-is_pod_right-clause-complete : goal.returns-then-not-is_pod_right-clause-complete
returns-then-not-is_pod_right-clause-complete c =
    λ w. sym (sym c.is_pod_right.ensures ∙ c.if-not-is_pod_right.true) ∙ right_pod _ w

pub are_rows_related-requires : goal.are_rows_related-requires
are_rows_related-requires c = record {
  order = in_order_sound c.args.rows.now (sym c.are_in_order.ensures ∙ c.if-not-are_in_order.false);
  paths = right_paths c.args.rows.now (sym c.are_rows_right.ensures ∙ c.if-not-are_rows_right.false);
}

pub returns-clause-sound : goal.returns-clause-sound
returns-clause-sound c =
    let pod : Pod = record { base = c.args.base.now; owner = c.args.owner.now; rows = c.args.rows.now } in
    IfOk-weaker c.are_rows_related.result _ _
    (λ r h t. well_formed_from pod (in_order_sound c.args.rows.now (sym c.are_in_order.ensures ∙ c.if-not-are_in_order.false))
    (sym c.are_rows_right.ensures ∙ c.if-not-are_rows_right.false) (sym c.is_pod_right.ensures ∙ c.if-not-is_pod_right.false) (sym h ∙ t))
    c.are_rows_related.ensures

pub returns-clause-complete : goal.returns-clause-complete
returns-clause-complete c =
    let pod : Pod = record { base = c.args.base.now; owner = c.args.owner.now; rows = c.args.rows.now } in
    IfOk-weaker c.are_rows_related.result _ _ (λ r h w. h ∙ related_rows pod w) c.are_rows_related.ensures
