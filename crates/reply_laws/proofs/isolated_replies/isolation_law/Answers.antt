use Rattle.std.proofs.Common.{ap, sym, ◌∙◌}
use Rattle.pod_edits.proofs.Pointwise.{same_after}
use Rattle.pod_rows.specs.Apply.{with_rows_if}
use Rattle.pod_rows.specs.Pod.{row_at}
use Rattle.reply_laws.proofs.SameAfter.{stays_alike}
use Rattle.reply_laws.proofs.SameReplies.{replies_alike}
use Rattle.reply_laws.proofs.isolated_replies.isolation_law.Goals as goal

pub returns : goal.returns
returns c = record {
  replies = λ p q request asked seq stamp reply w alike h. replies_alike p q request asked seq stamp reply w alike h;
  changes = λ p q seq entry path a b e.
      ap (λ rows. row_at (with_rows_if p rows).rows path) a.edits ∙ same_after entry.edits.items p.rows q.rows a.rows b.rows path a.edits b.edits e
      ∙ sym (ap (λ rows. row_at (with_rows_if q rows).rows path) b.edits);
  stay = λ agent p q seq entry alike a b hidden. stays_alike agent p q seq entry alike a b hidden;
}
