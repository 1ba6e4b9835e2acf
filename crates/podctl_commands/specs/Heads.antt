-- internal: what a read begins with
use Rattle.std.specs.Prelude.{ℕ}
use Rattle.pod_base.specs.declared.agent.Agent.{Agent}
use Rattle.stored_forms.specs.Readers.{Reader, after_tag, both, mapped, no_tag, number_at, tagged}
use Rattle.stored_forms.specs.Reading.{agent_at}

-- who makes the read, and when
pub record ReadHead : Type 0 where
  pub agent : Agent
  pub seconds : ℕ

abbrev pub head_of : Agent × ℕ → ReadHead
head_of p = record { agent = p.0; seconds = p.1 }

-- the byte 3, the agent and the moment
unfoldable pub read_head_at : Reader ReadHead
read_head_at bytes = tagged (after_tag 3 (mapped head_of (both agent_at number_at)) no_tag) bytes
