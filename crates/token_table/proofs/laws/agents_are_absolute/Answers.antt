use Rattle.token_table.proofs.CutLemmas.{agent_from, agent_is, agent_utf8}
use Rattle.token_table.proofs.laws.agents_are_absolute.Goals as goal

pub returns : goal.returns
returns c = λ text. (λ h. (agent_utf8 text h, agent_is text h), λ h. agent_from text h.0 h.1)
