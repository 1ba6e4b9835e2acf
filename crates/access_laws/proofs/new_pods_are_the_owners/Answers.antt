use Rattle.pod_rows.specs.FirstPods.{first_pod}
use Rattle.access_laws.proofs.NewPods.{owner_has, others_lack}
use Rattle.access_laws.proofs.new_pods_are_the_owners.Goals as goal

pub returns-clause-owner : goal.returns-clause-owner
returns-clause-owner c = λ base owner modified path mode form is_path.
    owner_has base owner modified path mode
    (c.rows_law.ensures.governed (first_pod base owner modified) path (c.first_pods_are_well_formed.ensures base owner modified form) is_path)

pub returns-clause-others : goal.returns-clause-others
returns-clause-others c = λ base owner modified path mode agent form h. others_lack base owner modified path mode agent h
