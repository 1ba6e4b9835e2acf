-- How requests are authenticated.
use Rattle.pod_base.specs.declared.request.Request.{Request}
use Rattle.token_table.specs.Credentials.{AskedAgent, asked_of, known}
use Rattle.conn_talk.specs.declared.agents.Agents.{Agents}
use Rattle.conn_talk.specs.declared.agents.Agents.TheVariants.{Owner, Table}

-- every request is the owner's, whatever its fields are; or each is that of the agent whose token
-- it has
abbrev pub asking_of : Agents → Request → AskedAgent
asking_of (Owner owner) request = known owner
asking_of (Table tokens) request = asked_of tokens request.fields
