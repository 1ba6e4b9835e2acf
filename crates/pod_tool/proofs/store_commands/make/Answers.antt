use Rattle.pod_tool.proofs.store_commands.make.Goals as goal

pub returns-clause-makes : goal.returns-clause-makes
returns-clause-makes g c = record {
  end = c.init-end.result;
  is_end = c.init-end.ensures.ends;
  status_is = c.status.ensures;
  made = λ is. (c.clock_moment-moment.result.0, c.clock_moment-moment.ensures, c.init-end.ensures.stands is, c.init-end.ensures.begun is);
  empty = λ is. (c.init-end.ensures.empty_first is, c.init-end.ensures.empty_second is);
  not_empty = c.init-end.ensures.not_empty;
  kept = λ is. (c.init-end.ensures.kept_first is, c.init-end.ensures.kept_second is);
  left = c.init-end.ensures.left;
  stays = c.init-end.ensures.stays;
}
