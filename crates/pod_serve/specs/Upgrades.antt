-- What a switch of protocols was answered for.
use Rattle.std.specs.Prelude.{◌≡◌, ℕ, List, [], ◌∷◌, Option, Some, None, Result, Ok, Err}
use Rattle.pod_base.specs.declared.agent.Agent.{Agent}
use Rattle.pod_base.specs.declared.request.Request.{Request}
use Rattle.pod_core.specs.Session.{Item, answered}
use Rattle.pod_path.specs.Norm.{norm}
use Rattle.pod_reply.specs.Replies.{Reply}
use Rattle.pod_reply.specs.Reply.{agent_of}
use Rattle.request_target.specs.Targets.{origin_form}
use Rattle.token_table.specs.Credentials.{AskedAgent}
use Rattle.pod_core.specs.declared.request_answer.Answer.{Answer}
use Rattle.conn_talk.specs.declared.answers.AnswerFault.{AnswerFault}
use Rattle.pod_serve.specs.declared.upgrade.Upgrade.{Upgrade}

-- the last item, where there is one
abbrev pub last_item : List Item → Option Item
last_item [] = None
last_item (item ∷ []) = Some item
last_item (item ∷ other ∷ others) = last_item (other ∷ others)

-- An item is about a path, of a pod with that base, is of an agent, and was answered at a place.
pub record IsAbout (base : List ℕ) (item : Item) (topic : List ℕ) (agent : Agent) (place : ℕ)
    : Type 0 where
  pub path : norm (origin_form base item.request.target) ≡ Ok topic
  pub agent_is : agent ≡ agent_of item.asked
  pub reply : Reply
  pub answer : item.outcome ≡ answered place reply

-- the same of a request
pub record IsUpgradeTo (base : List ℕ) (request : Request) (asked : AskedAgent) (place : ℕ)
    (upgrade : Upgrade) : Type 0 where
  pub path : norm (origin_form base request.target) ≡ Ok upgrade.topic
  pub agent_is : upgrade.agent ≡ agent_of asked
  pub place_is : upgrade.last ≡ place

abbrev pub NotesAnswer : List ℕ → Request → AskedAgent → Result Answer AnswerFault → Upgrade
    → Type 0
NotesAnswer base request asked (Ok answer) upgrade =
    IsUpgradeTo base request asked answer.place upgrade
NotesAnswer base request asked (Err fault) upgrade = ⊥

-- What is noted after an item, where anything is, is what the item is about.
abbrev pub Notes : List ℕ → Item → Option Upgrade → Type 0
Notes base item noted = (upgrade : Upgrade) → noted ≡ Some upgrade
    → IsAbout base item upgrade.topic upgrade.agent upgrade.last
