use Rattle.std.proofs.Common.{sym, subst}
use Rattle.pod_pipe.specs.StoreRuns.{TellsLine, fault_line}
use Rattle.pod_pipe.specs.Tables.{table_status}
use Rattle.pod_pipe.specs.declared.token_file.TableFault.{TableFault}
use Rattle.pod_pipe.proofs.refusal_lines.refuse_table.Goals as goal

pub returns-in-Line-clause-told : goal.returns-in-Line-clause-told
returns-in-Line-clause-told g c = subst (λ (f : TableFault). TellsLine (fault_line f) (table_status f) c.write_reason.result.0 (g.E.Sink.taken c.args.errors.now) (g.E.Sink.taken c.write_reason.new.errors) (g.E.Sink.faults c.args.errors.now) (g.E.Sink.faults c.write_reason.new.errors)) (sym c.in-Line.is) c.write_reason.ensures.told
