use Rattle.access_laws.proofs.Owners.{owner_controls, owner_changes}
use Rattle.access_laws.proofs.owner_keeps_control.Goals as goal

pub returns-clause-control : goal.returns-clause-control
returns-clause-control c = owner_controls

pub returns-clause-list : goal.returns-clause-list
returns-clause-list c = owner_changes
