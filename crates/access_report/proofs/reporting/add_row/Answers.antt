use Rattle.std.proofs.Common.{◌∙◌, Result, Ok, Err}
use Rattle.std.specs.Prelude.{OnOk}
use Rattle.std.specs.Option.{option_to_list}
use Rattle.std.proofs.lemmas.List.Elements.{All-append, All-filter, All-same}
use Rattle.access_report.specs.Decisions.{IsDecision, is_above}
use Rattle.access_report.proofs.reporting.add_row.Goals as goal

on_ok : {T E A B : Type 0} (r : Result T E) → (A → B) → OnOk r A → OnOk r B
on_ok (Ok x) f h = f h
on_ok (Err e) f h = tt

pub add_path-requires : goal.add_path-requires
add_path-requires g c =
    let holds = IsDecision (g.S.PodState.pod c.args.state.now) c.args.agent.now in
    All-same holds _ _ (c.as_slice.ensures.value ∙ c.keep_above.ensures) (All-filter (is_above c.args.row.now.path) holds c.args.decided.now.items c.requires)

pub returns-clause-decided : goal.returns-clause-decided
returns-clause-decided g c =
    let holds = IsDecision (g.S.PodState.pod c.args.state.now) c.args.agent.now in
    let above = All-same holds _ _ c.keep_above.ensures (All-filter (is_above c.args.row.now.path) holds c.args.decided.now.items c.requires) in
    on_ok c.push_some.result
    (λ e. All-same holds _ _ e (All-append holds c.keep_above.new.decided.items (option_to_list c.in_ok-new.new) above c.in_ok-new.ensures.new)) c.push_some.ensures
