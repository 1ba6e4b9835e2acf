use Rattle.acl_rules.specs.Vocabulary.{acl_mode, acl_control, acl_read, acl_write}
use Rattle.pod_rows.proofs.Appending.{three_more}
use Rattle.pod_rows.proofs.owner_rule.append_modes.Goals as goal

pub returns : goal.returns
unfolding acl_mode acl_control acl_read acl_write
returns c = three_more c.args.triples.now.items _ _ _ _ _ _ c.in_ok-append.ensures c.in_ok-append-2.ensures c.in_ok-append-3.ensures
