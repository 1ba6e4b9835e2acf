-- Runs that have not begun.
use Rattle.std.proofs.Common.{◌≡◌, inl, inr, ℕ, IfSome, Option, Some, None}
use Rattle.program_words.specs.declared.command.Asking.TheVariants.{ByTokens, Owner, Fresh}
use Rattle.program_words.specs.declared.command.Command.{Command}
use Rattle.program_words.specs.declared.command.Command.TheVariants.{Init, Pipe, Check, Audit, Load, Report, Ship, Follow}
use Rattle.pod_pipe.specs.DiskRuns.{DiskRun}
use Rattle.pod_pipe.specs.RunStreams.{Streams}
use Rattle.pod_pipe.specs.Tables.{IsUnread, TokenSource}
use Rattle.pod_tool.specs.Runs.{Runs}
use Rattle.pod_tool.specs.Stores.{IsIdle, IsUnbegun}

-- what holds of a value twice
pub if_some_twice : {T : Type 0} (o : Option T) (P : T → T → Type 0) → ((x : T) → P x x) → IfSome o (λ a. IfSome o (P a))
if_some_twice None P each = tt
if_some_twice (Some x) P each = each x

-- no memory was left for the words
module _ {D : Type 0} (run : DiskRun D) (first_is : run.new.first ≡ run.old.first) (second_is : run.new.second ≡ run.old.second) (may_give : ℕ → Type 0) (tokens : TokenSource) (streams : Streams) (status : ℕ) (is : status ≡ 7) (idle : IsIdle streams) (unread : IsUnread tokens) where
  unbegun : IsUnbegun run status
  unbegun = record { status_is = is; first_is = first_is; second_is = second_is }

  pub has_not_begun : (command : Command) → Runs run may_give command tokens streams status
  has_not_begun (Init base owner) = inl unbegun
  has_not_begun (Pipe ByTokens trail) = inl (unbegun, idle, unread)
  has_not_begun (Pipe Owner trail) = inl (unbegun, idle, unread)
  has_not_begun (Pipe (Fresh owner) trail) = inl (is, idle)
  has_not_begun Check = inl (unbegun, idle.unwritten)
  has_not_begun Audit = inl (unbegun, idle.unwritten)
  has_not_begun (Load requests) = (inr (inr (is, idle.unwritten.output)), idle.unwritten.errors)
  has_not_begun (Report agent) = inl (unbegun, idle.unwritten)
  has_not_begun Ship = inl (unbegun, idle.unwritten)
  has_not_begun Follow = inl (is, idle)
