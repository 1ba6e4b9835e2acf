use Rattle.http_head.proofs.HeadLaws.{one_parsed_head, many_no_head, malformed_no_head, lacks_no_head, many_not_malformed, many_not_lacking, malformed_not_lacking}
use Rattle.http_head.proofs.laws.one_head.Goals as goal

pub returns : goal.returns
returns c = record {
  head = one_parsed_head;
  too_many = many_no_head;
  malformed = malformed_no_head;
  host = lacks_no_head;
  malformed_lines = many_not_malformed;
  host_lines = many_not_lacking;
  malformed_host = malformed_not_lacking;
}
