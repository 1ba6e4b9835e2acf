use Rattle.pod_representations.proofs.Depends.{shows_row_alone, shows_alike, judge_alike, judge_unread}
use Rattle.pod_representations.proofs.laws.shown_law.Goals as goal

pub returns : goal.returns
returns c = record {
  row = λ p q row media h. shows_row_alone p q row media h;
  alike = λ p q row media a. shows_alike p q row media a;
  judged = λ p q row fields method a. judge_alike p q row fields method a;
  unread = λ p q row other fields method h. judge_unread p q row other fields method h;
}
