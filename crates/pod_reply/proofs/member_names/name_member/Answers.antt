use Rattle.pod_reply.proofs.MemberLemmas.{few_rows, name_same, no_name}
use Rattle.pod_reply.proofs.member_names.name_member.Goals as goal

pub choose-requires-clause-rows : goal.choose-requires-clause-rows
choose-requires-clause-rows g c =
    few_rows (g.S.PodState.pod c.args.state.now) _ (λ path. g.met.S.PodState.rows_are c.args.state.now path)
    c.is_well_formed.ensures.number

pub returns-in-Ok : goal.returns-in-Ok
returns-in-Ok g c = record {
  first = name_same (g.S.PodState.pod c.args.state.now) _
      (λ path. g.met.S.PodState.rows_are c.args.state.now path) _ _ _ _ c.in-Ok.ensures.path;
  normal = c.in-Ok.ensures.normal;
}

pub returns-in_ok-refuse_name-in-Err : goal.returns-in_ok-refuse_name-in-Err
returns-in_ok-refuse_name-in-Err g c = (
  no_name (g.S.PodState.pod c.args.state.now) _ (λ path. g.met.S.PodState.rows_are c.args.state.now path)
      _ _ _ c.in-Err.fault c.in-Err.ensures.fault c.in_ok-refuse_name-in-Err.ensures.fault,
  c.in_ok-refuse_name-in-Err.ensures.response,
)
