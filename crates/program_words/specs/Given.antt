-- What the words after a subcommand set: options, each once, and an operand.
use Rattle.std.specs.Prelude.{ℕ, ◌==◌, Bool, true, false, not, ◌&&◌, if◌then◌else◌, nat_eq}
use Rattle.std.specs.Prelude.{codes, bytes_eq, List, [], ◌∷◌, Option, Some, None, is_some}
use Rattle.std.specs.List.{starts_with, list_any, before_first, after_first}
use Rattle.std.specs.Option.{option_and_then, option_map}
use Rattle.program_words.specs.declared.subcommand.Subcommand.{Subcommand}
use Rattle.program_words.specs.declared.subcommand.Subcommand.TheVariants as subcommands
use Rattle.program_words.specs.declared.subcommand.Parameter.{Parameter}
use Rattle.program_words.specs.declared.subcommand.Parameter.TheVariants.{Base, Owner, Fresh, Agent}
use Rattle.program_words.specs.declared.subcommand.Flag.{Flag}
use Rattle.program_words.specs.declared.subcommand.Flag.TheVariants.{AsOwner, Trail}
use Rattle.program_words.specs.declared.podctl_options.Mode.{Mode}
use Rattle.program_words.specs.declared.podctl_options.Mode.TheVariants.{Options, Value, Operands}

-- ---- how options are written

-- an option with a value: `--base B` in two words, or `--base=B` in one
abbrev pub parameter_word : Parameter → List ℕ
parameter_word Base = codes "--base"
parameter_word Owner = codes "--owner"
parameter_word Fresh = codes "--fresh"
parameter_word Agent = codes "--agent"

abbrev pub flag_word : Flag → List ℕ
flag_word AsOwner = codes "--owner"
flag_word Trail = codes "--trail"

-- A value doesn't begin with `-`.
abbrev pub is_dashed : List ℕ → Bool
is_dashed word = starts_with nat_eq word (codes "-")

abbrev pub is_equals : ℕ → Bool
is_equals c = c == 61

-- what precedes the first `=` of a word, and what follows it
abbrev pub split_value : List ℕ → Option (List ℕ × List ℕ)
split_value word =
    if list_any is_equals word
    then Some (before_first is_equals word, after_first is_equals word) else None

-- ---- which options a subcommand has

abbrev pub has_parameter : Subcommand → Parameter → Bool
has_parameter subcommands.Init Base = true
has_parameter subcommands.Init Owner = true
has_parameter subcommands.Pipe Fresh = true
has_parameter subcommands.Report Agent = true
has_parameter _ _ = false

abbrev pub has_flag : Subcommand → Flag → Bool
has_flag subcommands.Pipe _ = true
has_flag _ _ = false

abbrev pub has_operand : Subcommand → Bool
has_operand subcommands.Load = true
has_operand _ = false

-- ---- what words have set

-- The values of options, whether flags are set, the operand, and what the next word may be.
pub record Given : Type 0 where
  pub base : Option (List ℕ)
  pub owner : Option (List ℕ)
  pub fresh : Option (List ℕ)
  pub agent : Option (List ℕ)
  pub as_owner : Bool
  pub trail : Bool
  pub operand : Option (List ℕ)
  pub mode : Mode

abbrev pub nothing_given : Given
nothing_given = record {
  base = None;
  owner = None;
  fresh = None;
  agent = None;
  as_owner = false;
  trail = false;
  operand = None;
  mode = Options;
}

-- Each option is set once.
abbrev pub with_parameter : Parameter → List ℕ → Given → Option Given
with_parameter Base value given =
    if is_some given.base then None else Some (record given { base = Some value })
with_parameter Owner value given =
    if is_some given.owner then None else Some (record given { owner = Some value })
with_parameter Fresh value given =
    if is_some given.fresh then None else Some (record given { fresh = Some value })
with_parameter Agent value given =
    if is_some given.agent then None else Some (record given { agent = Some value })

abbrev pub with_value : Parameter → List ℕ → Given → Option Given
with_value parameter value given =
    if is_dashed value then None else with_parameter parameter value given

abbrev pub with_flag : Flag → Given → Option Given
with_flag AsOwner given =
    if given.as_owner then None else Some (record given { as_owner = true })
with_flag Trail given = if given.trail then None else Some (record given { trail = true })

abbrev pub with_operand : Subcommand → List ℕ → Given → Option Given
with_operand subcommand word given =
    if is_dashed word then None
    else if has_operand subcommand && not (is_some given.operand)
    then Some (record given { operand = Some word }) else None

-- ---- what one word sets

abbrev pub flag_of : Subcommand → List ℕ → Option Flag
flag_of subcommand word =
    if has_flag subcommand AsOwner && bytes_eq word (flag_word AsOwner) then Some AsOwner
    else if has_flag subcommand Trail && bytes_eq word (flag_word Trail) then Some Trail
    else None

abbrev pub parameter_of : Subcommand → List ℕ → Option Parameter
parameter_of subcommand word =
    if has_parameter subcommand Base && bytes_eq word (parameter_word Base) then Some Base
    else if has_parameter subcommand Owner && bytes_eq word (parameter_word Owner) then Some Owner
    else if has_parameter subcommand Fresh && bytes_eq word (parameter_word Fresh) then Some Fresh
    else if has_parameter subcommand Agent && bytes_eq word (parameter_word Agent) then Some Agent
    else None

-- the parameter that a word names together with its value
abbrev pub assigned_in : Subcommand → Option (List ℕ × List ℕ) → Option (Parameter × List ℕ)
assigned_in subcommand (Some parts) =
    option_map (λ parameter. (parameter, parts.1)) (parameter_of subcommand parts.0)
assigned_in subcommand None = None

abbrev pub assigned_of : Subcommand → List ℕ → Option (Parameter × List ℕ)
assigned_of subcommand word = assigned_in subcommand (split_value word)

abbrev pub after_assigned : Subcommand → List ℕ → Given → Option (Parameter × List ℕ) → Option Given
after_assigned subcommand word given (Some found) = with_value found.0 found.1 given
after_assigned subcommand word given None = with_operand subcommand word given

abbrev pub after_parameter : Subcommand → List ℕ → Given → Option Parameter → Option Given
after_parameter subcommand word given (Some parameter) =
    Some (record given { mode = Value parameter })
after_parameter subcommand word given None =
    after_assigned subcommand word given (assigned_of subcommand word)

abbrev pub after_flag : Subcommand → List ℕ → Given → Option Flag → Option Given
after_flag subcommand word given (Some flag) = with_flag flag given
after_flag subcommand word given None =
    after_parameter subcommand word given (parameter_of subcommand word)

abbrev pub after_option : Subcommand → List ℕ → Given → Option Given
after_option subcommand word given =
    if bytes_eq word (codes "--") then Some (record given { mode = Operands })
    else after_flag subcommand word given (flag_of subcommand word)

abbrev pub after_word_in : Mode → Subcommand → List ℕ → Given → Option Given
after_word_in Options subcommand word given = after_option subcommand word given
after_word_in (Value parameter) subcommand word given =
    with_value parameter word (record given { mode = Options })
after_word_in Operands subcommand word given = with_operand subcommand word given

abbrev pub after_word : Subcommand → Given → List ℕ → Option Given
after_word subcommand given word = after_word_in given.mode subcommand word given

-- what words set after those that set this
abbrev pub given_after : Subcommand → Given → List (List ℕ) → Option Given
given_after subcommand given [] = Some given
given_after subcommand given (word ∷ words) =
    option_and_then (λ g. given_after subcommand g words) (after_word subcommand given word)
