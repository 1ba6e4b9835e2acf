-- The settings of words are within their limits.
use Rattle.std.proofs.Common.{◌≡◌, ◌≤◌, ℕ, ◌==◌, Bool, true, false, ◌&&◌, nat_le, if◌then◌else◌, bytes_eq, codes, List, [], ◌∷◌, Option, Some, None, is_some, IfSome, refl, arith}
use Rattle.std.proofs.lemmas.Bool.Decides.{nat_tests}
use Rattle.std.specs.Option.{option_and_then, option_map, unwrap_or}
use Rattle.program_words.specs.Readings.{is_number, number_after, number_up_to}
use Rattle.program_words.specs.PoddReadings.{after_assigned, after_option, after_parameter, after_word, after_word_in, assigned_of, first, given_after, is_complete, nothing_given, parameter_of, positive, reading, settings_of, unless_zero, with_value}
use Rattle.program_words.specs.declared.podd_options.Given.{Given}
use Rattle.program_words.specs.declared.podd_options.Mode.{Mode}
use Rattle.program_words.specs.declared.podd_options.Mode.TheVariants.{Options, Value, Nothing}
use Rattle.program_words.specs.declared.podd_options.Parameter.{Parameter}
use Rattle.program_words.specs.declared.podd_options.Parameter.TheVariants.{Port, Workers}
use Rattle.program_words.specs.declared.podd_reader.Settings.{Settings}
use Rattle.program_words.specs.declared.podd_reader.TheConstants.{DEFAULT_PORT, DEFAULT_WORKERS, PORT_LIMIT, WORKERS_LIMIT}

some_if : {X : Type 0} (P : X → Type 0) (t : Bool) (o : Option X) → (t ≡ true → IfSome o P) → IfSome (if t then o else None) P
some_if P true o f = f refl
some_if P false o f = tt

some_then : {X Y : Type 0} (P : X → Type 0) (Q : Y → Type 0) (f : X → Option Y) (o : Option X) → IfSome o P → ((x : X) → P x → IfSome (f x) Q) → IfSome (option_and_then f o) Q
some_then P Q f None h k = tt
some_then P Q f (Some x) h k = k x h

some_mapped : {X Y : Type 0} (P : X → Type 0) (Q : Y → Type 0) (f : X → Y) (o : Option X) → IfSome o P → ((x : X) → P x → Q (f x)) → IfSome (option_map f o) Q
some_mapped P Q f None h k = tt
some_mapped P Q f (Some x) h k = k x h

abbrev pub IsUpTo : ℕ → ℕ → Type 0
IsUpTo most n = (1 ≤ n) × (n ≤ most)

pub record IsWithin (given : Given) : Type 0 where
  pub port : IfSome given.port (IsUpTo PORT_LIMIT)
  pub workers : IfSome given.workers (IsUpTo WORKERS_LIMIT)

and_last : (a b : Bool) → (a && b) ≡ true → b ≡ true
and_last true b e = e
and_last false b e = cc

few : (most : ℕ) (word : List ℕ) → IfSome (number_up_to most word) (λ n. n ≤ most)
few most word = some_if (λ n. n ≤ most) (is_number word && nat_le (number_after 0 word) most) (Some (number_after 0 word)) (λ e. let t = and_last (is_number word) (nat_le (number_after 0 word) most) e in grind (arith, nat_tests, t))

some_one : (most n : ℕ) → n ≤ most → IfSome (unless_zero n) (IsUpTo most)
some_one most n le =
    elim (n == 0) as (λ t. (n == 0) ≡ t → IfSome (if t then None else Some n) (IsUpTo most)) [
      | true ↦ λ e. tt
      | false ↦ λ e. (grind (arith, nat_tests, e), le)
    ] refl

positive_within : (most : ℕ) (word : List ℕ) → IfSome (positive most word) (IsUpTo most)
positive_within most word = some_then (λ n. n ≤ most) (IsUpTo most) unless_zero (number_up_to most word) (few most word) (some_one most)

first_within : (most : ℕ) (before value : Option ℕ) → IfSome value (IsUpTo most) → IfSome (first before value) (IsUpTo most)
first_within most None value h = h
first_within most (Some n) value h = tt

value_within : (parameter : Parameter) (value : List ℕ) (given : Given) → IsWithin given → IfSome (with_value parameter value given) IsWithin
value_within Port value given w = some_mapped (IsUpTo PORT_LIMIT) IsWithin (λ n. record { port = Some n; workers = given.workers; mode = Options }) (first given.port (positive PORT_LIMIT value)) (first_within PORT_LIMIT given.port (positive PORT_LIMIT value) (positive_within PORT_LIMIT value)) (λ n h. record { port = h; workers = w.workers })
value_within Workers value given w = some_mapped (IsUpTo WORKERS_LIMIT) IsWithin (λ n. record { port = given.port; workers = Some n; mode = Options }) (first given.workers (positive WORKERS_LIMIT value)) (first_within WORKERS_LIMIT given.workers (positive WORKERS_LIMIT value) (positive_within WORKERS_LIMIT value)) (λ n h. record { port = w.port; workers = h })

assigned_within : (given : Given) (o : Option (Parameter × List ℕ)) → IsWithin given → IfSome (after_assigned given o) IsWithin
assigned_within given None w = tt
assigned_within given (Some found) w = value_within found.0 found.1 given w

parameter_within : (word : List ℕ) (given : Given) (o : Option Parameter) → IsWithin given → IfSome (after_parameter word given o) IsWithin
parameter_within word given None w = assigned_within given (assigned_of word) w
parameter_within word given (Some parameter) w = record { port = w.port; workers = w.workers }

option_within : (word : List ℕ) (given : Given) → IsWithin given → IfSome (after_option word given) IsWithin
option_within word given w =
    elim (bytes_eq word (codes "--")) as (λ t. IfSome (if t then Some (record given { mode = Nothing }) else after_parameter word given (parameter_of word)) IsWithin) [
      | true ↦ record { port = w.port; workers = w.workers }
      | false ↦ parameter_within word given (parameter_of word) w
    ]

word_within : (mode : Mode) (word : List ℕ) (given : Given) → IsWithin given → IfSome (after_word_in mode word given) IsWithin
word_within Options word given w = option_within word given w
word_within (Value parameter) word given w = value_within parameter word given w
word_within Nothing word given w = tt

words_within : (words : List (List ℕ)) (given : Given) → IsWithin given → IfSome (given_after given words) IsWithin
words_within [] given w = w
words_within (word ∷ words) given w = some_then IsWithin IsWithin (λ g. given_after g words) (after_word given word) (word_within given.mode word given w) (λ g h. words_within words g h)

value_or : (most default : ℕ) (o : Option ℕ) → IsUpTo most default → IfSome o (IsUpTo most) → IsUpTo most (unwrap_or o default)
value_or most default None d h = d
value_or most default (Some n) d h = h

abbrev pub AreWithin : Settings → Type 0
AreWithin settings = IsUpTo PORT_LIMIT settings.port × IsUpTo WORKERS_LIMIT settings.workers

settings_within : (given : Given) → IsWithin given → IfSome (settings_of given) AreWithin
settings_within given w = some_if AreWithin (is_complete given.mode) (Some (record {
  port = unwrap_or given.port DEFAULT_PORT;
  workers = unwrap_or given.workers DEFAULT_WORKERS;
})) (λ e. (value_or PORT_LIMIT DEFAULT_PORT given.port (omega arith, omega arith) w.port, value_or WORKERS_LIMIT DEFAULT_WORKERS given.workers (omega arith, omega arith) w.workers))

-- of the definition
pub reading_within : (words : List (List ℕ)) → IfSome (option_and_then settings_of (given_after nothing_given words)) AreWithin
reading_within words = some_then IsWithin AreWithin settings_of (given_after nothing_given words) (words_within words nothing_given (record { port = tt; workers = tt })) settings_within

pub port_is : (o : Option Settings) → IfSome o AreWithin → IfSome o (λ (settings : Settings). (1 ≤ settings.port) × (settings.port ≤ PORT_LIMIT))
port_is None h = tt
port_is (Some settings) h = h.0

pub workers_is : (o : Option Settings) → IfSome o AreWithin → IfSome o (λ (settings : Settings). (1 ≤ settings.workers) × (settings.workers ≤ WORKERS_LIMIT))
workers_is None h = tt
workers_is (Some settings) h = h.1
