-- The settings of the words after the name `podd`.
use Rattle.std.specs.Prelude.{ℕ, ◌==◌, Bool, true, false, if◌then◌else◌, bytes_eq, codes, List}
use Rattle.std.specs.Prelude.{[], ◌∷◌, Option, Some, None, is_some}
use Rattle.std.specs.Option.{option_and_then, option_map, unwrap_or}
use Rattle.program_words.specs.Given.{split_value}
use Rattle.program_words.specs.Readings.{number_up_to}
use Rattle.program_words.specs.declared.podd_options.Given.{Given}
use Rattle.program_words.specs.declared.podd_options.Mode.{Mode}
use Rattle.program_words.specs.declared.podd_options.Mode.TheVariants.{Options, Value, Nothing}
use Rattle.program_words.specs.declared.podd_options.Parameter.{Parameter}
use Rattle.program_words.specs.declared.podd_options.Parameter.TheVariants.{Port, Workers}
use Rattle.program_words.specs.declared.podd_reader.Settings.{Settings}
use Rattle.program_words.specs.declared.podd_reader.TheConstants.{DEFAULT_PORT, DEFAULT_WORKERS}
use Rattle.program_words.specs.declared.podd_reader.TheConstants.{PORT_LIMIT, WORKERS_LIMIT}

-- ---- how options are written

-- an option and its value: `--port P` in two words, or `--port=P` in one
abbrev pub parameter_of : List ℕ → Option Parameter
parameter_of word =
    if bytes_eq word (codes "--port") then Some Port
    else if bytes_eq word (codes "--workers") then Some Workers
    else None

-- the option that a word names together with its value
abbrev pub assigned_in : Option (List ℕ × List ℕ) → Option (Parameter × List ℕ)
assigned_in (Some parts) = option_map (λ parameter. (parameter, parts.1)) (parameter_of parts.0)
assigned_in None = None

abbrev pub assigned_of : List ℕ → Option (Parameter × List ℕ)
assigned_of word = assigned_in (split_value word)

-- a value: a number from 1 to a limit
abbrev pub unless_zero : ℕ → Option ℕ
unless_zero number = if number == 0 then None else Some number

abbrev pub positive : ℕ → List ℕ → Option ℕ
positive most word = option_and_then unless_zero (number_up_to most word)

-- ---- what words have set

abbrev pub nothing_given : Given
nothing_given = record { port = None; workers = None; mode = Options }

-- Each option is set once.
abbrev pub first : Option ℕ → Option ℕ → Option ℕ
first before value = if is_some before then None else value

abbrev pub with_value : Parameter → List ℕ → Given → Option Given
with_value Port value given =
    option_map (λ n. record { port = Some n; workers = given.workers; mode = Options })
    (first given.port (positive PORT_LIMIT value))
with_value Workers value given =
    option_map (λ n. record { port = given.port; workers = Some n; mode = Options })
    (first given.workers (positive WORKERS_LIMIT value))

abbrev pub after_assigned : Given → Option (Parameter × List ℕ) → Option Given
after_assigned given (Some found) = with_value found.0 found.1 given
after_assigned given None = None

abbrev pub after_parameter : List ℕ → Given → Option Parameter → Option Given
after_parameter word given (Some parameter) = Some (record given { mode = Value parameter })
after_parameter word given None = after_assigned given (assigned_of word)

-- `--` ends the options
abbrev pub after_option : List ℕ → Given → Option Given
after_option word given =
    if bytes_eq word (codes "--") then Some (record given { mode = Nothing })
    else after_parameter word given (parameter_of word)

abbrev pub after_word_in : Mode → List ℕ → Given → Option Given
after_word_in Options word given = after_option word given
after_word_in (Value parameter) word given = with_value parameter word given
after_word_in Nothing word given = None

abbrev pub after_word : Given → List ℕ → Option Given
after_word given word = after_word_in given.mode word given

-- what words set after those that set this
abbrev pub given_after : Given → List (List ℕ) → Option Given
given_after given [] = Some given
given_after given (word ∷ words) =
    option_and_then (λ g. given_after g words) (after_word given word)

-- ---- settings

-- no option is without its value
abbrev pub is_complete : Mode → Bool
is_complete (Value parameter) = false
is_complete _ = true

abbrev pub settings_of : Given → Option Settings
settings_of given =
    if is_complete given.mode then Some (record {
      port = unwrap_or given.port DEFAULT_PORT;
      workers = unwrap_or given.workers DEFAULT_WORKERS;
    }) else None

-- The settings of words, where these are valid.
unfoldable pub reading : List (List ℕ) → Option Settings
reading words = option_and_then settings_of (given_after nothing_given words)
