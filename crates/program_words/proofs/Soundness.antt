-- Each command that words ask for may be carried out.
use Rattle.std.proofs.Common.{◌≡◌, ◌≤◌, ℕ, Bool, true, false, ◌&&◌, nat_le, if◌then◌else◌, List, Some, None, Option, IfSome, refl, sym, subst, arith}
use Rattle.std.proofs.lemmas.Bool.Decides.{nat_tests}
use Rattle.std.specs.Option.{option_and_then, option_map}
use Rattle.pod_rows.specs.Base.{is_base}
use Rattle.program_words.specs.Given.{Given, given_after, nothing_given}
use Rattle.program_words.specs.Readings.{IsSound, agent_of, asking_of, command_after, command_from, command_named, command_of, init_from, is_complete, is_number, load_from, number_after, report_from, pipe_from, requests_of, subcommand_of}
use Rattle.program_words.specs.declared.command.Asking.{Asking}
use Rattle.program_words.specs.declared.command.Command.{Command}
use Rattle.program_words.specs.declared.command.Command.TheVariants as commands
use Rattle.program_words.specs.declared.numeric_word.TheConstants.{LOAD_LIMIT}
use Rattle.program_words.specs.declared.subcommand.Subcommand.{Subcommand}
use Rattle.program_words.specs.declared.subcommand.Subcommand.TheVariants as subcommands
use Rattle.program_words.proofs.Numbers.{and_right}

pub some_if : {X : Type 0} (P : X → Type 0) (t : Bool) (o : Option X) → (t ≡ true → IfSome o P) → IfSome (if t then o else None) P
some_if P true o h = h refl
some_if P false o h = tt

pub some_of : {X Y : Type 0} (P : Y → Type 0) (f : X → Option Y) (o : Option X) → ((x : X) → IfSome (f x) P) → IfSome (option_and_then f o) P
some_of P f None h = tt
some_of P f (Some x) h = h x

pub some_mapped : {X Y : Type 0} (P : Y → Type 0) (f : X → Y) (o : Option X) → IfSome o (λ x. P (f x)) → IfSome (option_map f o) P
some_mapped P f None h = tt
some_mapped P f (Some x) h = h

pub some_any : {X : Type 0} (P : X → Type 0) (o : Option X) → ((x : X) → P x) → IfSome o P
some_any P None h = tt
some_any P (Some x) h = h x

pub few_requests : (word : List ℕ) → IfSome (requests_of word) (λ n. n ≤ LOAD_LIMIT)
few_requests word =
    some_if (λ n. n ≤ LOAD_LIMIT) (is_number word && nat_le (number_after 0 word) LOAD_LIMIT) (Some (number_after 0 word))
    (λ both. let few = and_right (is_number word) _ both in grind (arith, nat_tests, few))

pub sound_init : (base owner : Option (List ℕ)) → IfSome (init_from base owner) IsSound
sound_init (Some base) (Some owner) =
    some_if IsSound (is_base base) (option_map (λ agent. commands.Init base agent) (agent_of owner))
    (λ is. some_mapped IsSound (λ agent. commands.Init base agent) (agent_of owner) (some_any (λ agent. is_base base ≡ true) (agent_of owner) (λ agent. is)))
sound_init (Some base) None = tt
sound_init None owner = tt

pub sound_pipe : (trail : Bool) (asking : Option Asking) → IfSome (pipe_from trail asking) IsSound
sound_pipe trail None = tt
sound_pipe trail (Some asking) = tt

pub sound_load : (operand : Option (List ℕ)) → IfSome (load_from operand) IsSound
sound_load operand =
    some_mapped IsSound (λ n. commands.Load n) (option_and_then requests_of operand)
    (some_of (λ n. n ≤ LOAD_LIMIT) requests_of operand few_requests)

pub sound_report : (agent : Option (List ℕ)) → IfSome (report_from agent) IsSound
sound_report None = tt
sound_report (Some word) =
    some_mapped IsSound (λ agent. commands.Report (Some agent)) (agent_of word)
    (some_any (λ agent. Unit {0}) (agent_of word) (λ agent. tt))

pub sound_of : (subcommand : Subcommand) (given : Given) → IfSome (command_of subcommand given) IsSound
sound_of subcommands.Init given = sound_init given.base given.owner
sound_of subcommands.Pipe given = sound_pipe given.trail (asking_of given.as_owner given.fresh)
sound_of subcommands.Check given = tt
sound_of subcommands.Audit given = tt
sound_of subcommands.Load given = sound_load given.operand
sound_of subcommands.Report given = sound_report given.agent
sound_of subcommands.Ship given = tt
sound_of subcommands.Follow given = tt

pub sound_named : (word : List ℕ) (words : List (List ℕ)) (found : Option Command) → found ≡ command_named word words → IfSome found IsSound
sound_named word words found is =
    subst (λ o. IfSome o IsSound) (sym is)
    (some_of IsSound (command_after words) (subcommand_of word)
    (λ subcommand. some_of IsSound (command_from subcommand) (given_after subcommand nothing_given words)
    (λ given. some_if IsSound (is_complete given.mode) (command_of subcommand given) (λ e. sound_of subcommand given))))
