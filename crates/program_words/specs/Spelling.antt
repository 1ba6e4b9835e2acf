-- How the words of a command are written: a subcommand, and then the uses of its options and its
-- operand, in any order.
use Rattle.std.specs.Prelude.{◌≡◌, ◌⊎◌, ◌↔◌, ℕ, false, if◌then◌else◌, codes, List, [], ◌∷◌, ◌++◌}
use Rattle.std.specs.Prelude.{Option, Some, None}
use Rattle.std.specs.Option.{option_and_then}
use Rattle.program_words.specs.Given.{Given, flag_word, has_flag, has_parameter, is_dashed}
use Rattle.program_words.specs.Given.{nothing_given, parameter_word, with_flag, with_operand}
use Rattle.program_words.specs.Given.{with_parameter}
use Rattle.program_words.specs.Readings.{command_of, reading}
use Rattle.program_words.specs.declared.command.Command.{Command}
use Rattle.program_words.specs.declared.subcommand.Flag.{Flag}
use Rattle.program_words.specs.declared.subcommand.Parameter.{Parameter}
use Rattle.program_words.specs.declared.subcommand.Subcommand.{Subcommand}
use Rattle.program_words.specs.declared.subcommand.Subcommand.TheVariants as subcommands

abbrev pub subcommand_word : Subcommand → List ℕ
subcommand_word subcommands.Init = codes "init"
subcommand_word subcommands.Pipe = codes "pipe"
subcommand_word subcommands.Check = codes "check"
subcommand_word subcommands.Audit = codes "audit"
subcommand_word subcommands.Load = codes "load"
subcommand_word subcommands.Report = codes "report"
subcommand_word subcommands.Ship = codes "ship"
subcommand_word subcommands.Follow = codes "follow"

-- an option with its value, an option without one, or an operand
pub data Use : Type 0 where
  parameter : Parameter → List ℕ → Use
  flag : Flag → Use
  operand : List ℕ → Use

-- Words are a use, and then the rest: `--name value` or `--name=value`, `--name`, or the operand.
abbrev pub IsNext : Use → List (List ℕ) → List (List ℕ) → Type 0
IsNext (parameter name value) words rest =
    (is_dashed value ≡ false) × ((words ≡ parameter_word name ∷ value ∷ rest)
    ⊎ (words ≡ (parameter_word name ++ (codes "=" ++ value)) ∷ rest))
IsNext (flag name) words rest = words ≡ flag_word name ∷ rest
IsNext (operand word) words rest = (is_dashed word ≡ false) × (words ≡ word ∷ rest)

-- Words are these operands.
abbrev pub AreOperands : List Use → List (List ℕ) → Type 0
AreOperands [] words = words ≡ []
AreOperands (operand word ∷ uses) words =
    (rest : List (List ℕ)) × IsNext (operand word) words rest × AreOperands uses rest
AreOperands (parameter name value ∷ uses) words = ⊥
AreOperands (flag name ∷ uses) words = ⊥

-- `--` ends the options: only operands follow it.
abbrev pub HasEnded : List Use → List (List ℕ) → Type 0
HasEnded uses words =
    (rest : List (List ℕ)) × (words ≡ codes "--" ∷ rest) × AreOperands uses rest

-- Words are these uses, one after another.
abbrev pub AreUses : List Use → List (List ℕ) → Type 0
AreUses [] words = (words ≡ []) ⊎ HasEnded [] words
AreUses (one ∷ uses) words =
    ((rest : List (List ℕ)) × IsNext one words rest × AreUses uses rest)
    ⊎ HasEnded (one ∷ uses) words

-- What is set after a use: the use is one of the subcommand's, the first of its name.
abbrev pub with_use : Subcommand → Given → Use → Option Given
with_use subcommand given (parameter name value) =
    if has_parameter subcommand name then with_parameter name value given else None
with_use subcommand given (flag name) =
    if has_flag subcommand name then with_flag name given else None
with_use subcommand given (operand word) = with_operand subcommand word given

abbrev pub with_uses : Subcommand → Given → List Use → Option Given
with_uses subcommand given [] = Some given
with_uses subcommand given (one ∷ uses) =
    option_and_then (λ g. with_uses subcommand g uses) (with_use subcommand given one)

-- The words name the command: they are a subcommand and uses, and these make the command.
pub record AsksFor (words : List (List ℕ)) (command : Command) : Type 0 where
  pub subcommand : Subcommand
  pub others : List (List ℕ)
  pub uses : List Use
  pub given : Given
  pub first : words ≡ subcommand_word subcommand ∷ others
  pub written : AreUses uses others
  pub gives : with_uses subcommand nothing_given uses ≡ Some given
  pub means : command_of subcommand given ≡ Some command

-- The reading of words is the command that they name; so words name at most one.
abbrev pub ReadsWhatIsWritten : Type 0
ReadsWhatIsWritten =
    (words : List (List ℕ)) (command : Command)
    → (reading words ≡ Some command) ↔ AsksFor words command
