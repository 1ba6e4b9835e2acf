use Rattle.pod_path.proofs.Ancestors.{one_path, uri_back}
use Rattle.pod_path.proofs.laws.uris_name_one_path.Goals as goal

pub returns-clause-unique : goal.returns-clause-unique
returns-clause-unique c = one_path

pub returns-clause-back : goal.returns-clause-back
returns-clause-back c = uri_back
