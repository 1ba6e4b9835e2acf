-- Two runs of several agents, from two pods, that differ only where one agent may not read.
use Rattle.std.specs.Prelude.{◌≡◌, ◌⊎◌, ℕ, ◌+◌, List, [], ◌∷◌, map, length, is_some, Ok}
use Rattle.std.specs.Option.{option_map_or, option_to_list}
use Rattle.pod_access.specs.PodGrants.{PodGrants}
use Rattle.pod_base.specs.declared.agent.Agent.{Agent}
use Rattle.pod_base.specs.declared.agent.Mode.TheVariants.{Read}
use Rattle.pod_base.specs.declared.method.Method.TheVariants.{Put}
use Rattle.pod_base.specs.declared.moment.Stamp.{Stamp}
use Rattle.pod_base.specs.declared.request.Request.{Request}
use Rattle.pod_reply.specs.Replies.{Reply}
use Rattle.pod_reply.specs.Reply.{IsReply, agent_of}
use Rattle.pod_rows.specs.Apply.{applied}
use Rattle.pod_rows.specs.Pod.{Pod, row_at}
use Rattle.reply_laws.specs.Alike.{IsHidden, NamesGroup, kind_of}
use Rattle.request_target.specs.Targets.{target_of}
use Rattle.request_target.specs.declared.target.Target.TheVariants.{Resource}
use Rattle.token_table.specs.Credentials.{AskedAgent}

-- ---- steps

-- A step of a run: a request, how its agent was asked, and its stamp, which has its moment.
pub record Step : Type 0 where
  pub request : Request
  pub asked : AskedAgent
  pub stamp : Stamp

-- the agent who makes it
abbrev pub agent_in : Step → Agent
agent_in step = agent_of step.asked

-- The steps of two runs at one position, with the replies to both.
pub record Turn : Type 0 where
  pub left : Step
  pub right : Step
  pub left_reply : Reply
  pub right_reply : Reply

-- the reply of a pod to a step, where the next change has that number
abbrev pub IsStepReply : Pod → ℕ → Step → Reply → Type 0
IsStepReply pod next step reply = IsReply pod step.request step.asked next step.stamp reply

-- the pod after a reply: with its entry, where there is one
abbrev pub pod_after : Pod → Reply → Pod
pod_after pod reply = option_map_or (applied pod) reply.entry pod

-- and the number of the next change then
abbrev pub next_after : ℕ → Reply → ℕ
next_after next reply = next + length (option_to_list reply.entry)

-- ---- steps that differ

-- The step is a PUT of the path.
pub record IsPutOf (base path : List ℕ) (step : Step) : Type 0 where
  pub method : step.request.method ≡ Put
  pub target : target_of base step.request.method step.request.target ≡ Ok (Resource path)

-- Both are PUTs of one path by one agent, who is another one. What is at the path is hidden from
-- the agent in both pods: it is no access list, may not be read, and is named for no group. There
-- may be no row yet, and the moments may differ: then the containers above differ too that both
-- PUTs make or touch.
pub record ArePutsOfAnother (agent : Agent) (p q : Pod) (left right : Step) : Type 0 where
  pub other : agent_in left ≡ agent → ⊥
  pub one : agent_in left ≡ agent_in right
  pub path : List ℕ
  pub left_puts : IsPutOf p.base path left
  pub right_puts : IsPutOf q.base path right
  pub left_hidden : IsHidden agent p path
  pub right_hidden : IsHidden agent q path

-- the steps are the same, or such PUTs
abbrev pub ArePaired : Agent → Pod → Pod → Step → Step → Type 0
ArePaired agent p q left right = (left ≡ right) ⊎ ArePutsOfAnother agent p q left right

-- ---- paired runs

-- What is at the path is closed to the agent: it can't be read, and no access list names it for a
-- group.
pub record IsClosedTo (agent : Agent) (pod : Pod) (path : List ℕ) : Type 0 where
  pub unread : PodGrants pod agent path Read → ⊥
  pub no_group : NamesGroup pod path → ⊥

-- what differs between the pods is closed to the agent in both
abbrev pub ClosesDifferences : Agent → Pod → Pod → Type 0
ClosesDifferences agent p q = (path : List ℕ) → (row_at p.rows path ≡ row_at q.rows path)
    ⊎ (IsClosedTo agent p path × IsClosedTo agent q path)

-- One turn of paired runs. It makes an entry in both runs or in neither, the rows have the same
-- kinds afterwards, and what differs then is closed to the agent.
pub record IsPairedTurn (agent : Agent) (p q : Pod) (next : ℕ) (turn : Turn) : Type 0 where
  pub steps : ArePaired agent p q turn.left turn.right
  pub left : IsStepReply p next turn.left turn.left_reply
  pub right : IsStepReply q next turn.right turn.right_reply
  pub entries : is_some turn.left_reply.entry ≡ is_some turn.right_reply.entry
  pub kinds : map kind_of (pod_after p turn.left_reply).rows
      ≡ map kind_of (pod_after q turn.right_reply).rows
  pub closed : ClosesDifferences agent (pod_after p turn.left_reply)
      (pod_after q turn.right_reply)

-- Paired runs: such turns, one after the other.
abbrev pub PairedRuns : Agent → Pod → Pod → ℕ → List Turn → Type 0
PairedRuns agent p q next [] = Unit {0}
PairedRuns agent p q next (turn ∷ turns) = IsPairedTurn agent p q next turn
    × PairedRuns agent (pod_after p turn.left_reply) (pod_after q turn.right_reply)
    (next_after next turn.left_reply) turns
