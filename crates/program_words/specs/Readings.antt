-- The command of the words after the program's name. `Spelling` defines it as a relation.
use Rattle.std.specs.Prelude.{ℕ, ◌+◌, ◌-◌, ◌*◌, ◌≤◌, Bool, true, false, ◌&&◌, nat_le, nat_lt}
use Rattle.std.specs.Prelude.{if◌then◌else◌, bytes_eq, codes, List, [], ◌∷◌, length, IsTrue}
use Rattle.std.specs.Prelude.{Option, Some, None}
use Rattle.std.specs.Char.{is_ascii_digit}
use Rattle.std.specs.List.{list_all}
use Rattle.std.specs.Option.{option_and_then, option_map}
use Rattle.pod_rows.specs.Base.{is_base}
use Rattle.token_table.specs.TableLines.{is_agent}
use Rattle.program_words.specs.Given.{Given, given_after, nothing_given}
use Rattle.program_words.specs.declared.command.Asking.{Asking}
use Rattle.program_words.specs.declared.command.Asking.TheVariants.{ByTokens, Owner, Fresh}
use Rattle.program_words.specs.declared.command.Command.{Command}
use Rattle.program_words.specs.declared.command.Command.TheVariants as commands
use Rattle.program_words.specs.declared.podctl_options.Mode.{Mode}
use Rattle.program_words.specs.declared.podctl_options.Mode.TheVariants.{Value}
use Rattle.program_words.specs.declared.numeric_word.TheConstants.{LOAD_LIMIT, DIGITS_LIMIT}
use Rattle.program_words.specs.declared.subcommand.Subcommand.{Subcommand}
use Rattle.program_words.specs.declared.subcommand.Subcommand.TheVariants as subcommands

-- ---- kinds of values

-- the number that digits write after those of n
abbrev pub number_after : ℕ → List ℕ → ℕ
number_after n [] = n
number_after n (digit ∷ digits) = number_after (10 * n + (digit - 48)) digits

-- one to five decimal digits; the first ones may be 0
abbrev pub is_number : List ℕ → Bool
is_number word = nat_lt 0 (length word)
    && (nat_le (length word) DIGITS_LIMIT && list_all is_ascii_digit word)

-- the number that a word is, up to a limit
abbrev pub number_up_to : ℕ → List ℕ → Option ℕ
number_up_to most word =
    if is_number word && nat_le (number_after 0 word) most then Some (number_after 0 word)
    else None

-- the number of requests in a word: at most 10,000
abbrev pub requests_of : List ℕ → Option ℕ
requests_of word = number_up_to LOAD_LIMIT word

-- the agent that a word is: an absolute IRI
abbrev pub agent_of : List ℕ → Option (List ℕ)
agent_of word = if is_agent word then Some word else None

-- ---- commands

abbrev pub init_of : List ℕ → List ℕ → Option Command
init_of base owner =
    if is_base base then option_map (λ agent. commands.Init base agent) (agent_of owner) else None

-- a new store has a base and an owner
abbrev pub init_from : Option (List ℕ) → Option (List ℕ) → Option Command
init_from (Some base) (Some owner) = init_of base owner
init_from (Some base) None = None
init_from None owner = None

-- `--owner` and `--fresh` together have no reading
abbrev pub asking_of : Bool → Option (List ℕ) → Option Asking
asking_of true (Some owner) = None
asking_of true None = Some Owner
asking_of false (Some owner) = option_map (λ agent. Fresh agent) (agent_of owner)
asking_of false None = Some ByTokens

abbrev pub pipe_from : Bool → Option Asking → Option Command
pipe_from trail asking = option_map (λ a. commands.Pipe a trail) asking

abbrev pub load_from : Option (List ℕ) → Option Command
load_from operand =
    option_map (λ requests. commands.Load requests) (option_and_then requests_of operand)

-- a report of an agent where one is given, and else of everyone
abbrev pub report_from : Option (List ℕ) → Option Command
report_from (Some word) = option_map (λ agent. commands.Report (Some agent)) (agent_of word)
report_from None = Some (commands.Report None)

abbrev pub command_of : Subcommand → Given → Option Command
command_of subcommands.Init given = init_from given.base given.owner
command_of subcommands.Pipe given =
    pipe_from given.trail (asking_of given.as_owner given.fresh)
command_of subcommands.Check given = Some commands.Check
command_of subcommands.Audit given = Some commands.Audit
command_of subcommands.Load given = load_from given.operand
command_of subcommands.Report given = report_from given.agent
command_of subcommands.Ship given = Some commands.Ship
command_of subcommands.Follow given = Some commands.Follow

-- no option is without its value
abbrev pub is_complete : Mode → Bool
is_complete (Value parameter) = false
is_complete _ = true

abbrev pub command_from : Subcommand → Given → Option Command
command_from subcommand given =
    if is_complete given.mode then command_of subcommand given else None

-- ---- words

abbrev pub subcommand_of : List ℕ → Option Subcommand
subcommand_of word =
    if bytes_eq word (codes "init") then Some subcommands.Init
    else if bytes_eq word (codes "pipe") then Some subcommands.Pipe
    else if bytes_eq word (codes "check") then Some subcommands.Check
    else if bytes_eq word (codes "audit") then Some subcommands.Audit
    else if bytes_eq word (codes "load") then Some subcommands.Load
    else if bytes_eq word (codes "report") then Some subcommands.Report
    else if bytes_eq word (codes "ship") then Some subcommands.Ship
    else if bytes_eq word (codes "follow") then Some subcommands.Follow
    else None

abbrev pub command_after : List (List ℕ) → Subcommand → Option Command
command_after words subcommand =
    option_and_then (command_from subcommand) (given_after subcommand nothing_given words)

abbrev pub command_named : List ℕ → List (List ℕ) → Option Command
command_named word words = option_and_then (command_after words) (subcommand_of word)

-- The command of words, where they have a reading: a subcommand, then its options and its operand.
unfoldable pub reading : List (List ℕ) → Option Command
reading [] = None
reading (word ∷ words) = command_named word words

-- A command that may be carried out: a new store has a base of the right form, and a load is no
-- longer than the limit.
abbrev pub IsSound : Command → Type 0
IsSound (commands.Init base owner) = IsTrue (is_base base)
IsSound (commands.Pipe asking trail) = Unit {0}
IsSound commands.Check = Unit {0}
IsSound commands.Audit = Unit {0}
IsSound (commands.Load requests) = requests ≤ LOAD_LIMIT
IsSound (commands.Report agent) = Unit {0}
IsSound commands.Ship = Unit {0}
IsSound commands.Follow = Unit {0}
