-- The reading of words is the command that they ask for.
use Rattle.std.proofs.Common.{◌≡◌, ℕ, true, false, if◌then◌else◌, List, [], ◌∷◌, Option, Some, None, refl, sym, ap, subst, ◌∙◌}
use Rattle.std.specs.Option.{option_and_then}
use Rattle.std.specs.Str.{bytes_eq}
use Rattle.program_words.specs.Given.{Given, given_after, nothing_given}
use Rattle.program_words.specs.Readings.{command_after, command_from, command_of, is_complete, reading, subcommand_of}
use Rattle.program_words.specs.Spelling.{AsksFor, ReadsWhatIsWritten, subcommand_word}
use Rattle.program_words.specs.declared.command.Command.{Command}
use Rattle.program_words.specs.declared.podctl_options.Mode.{Mode}
use Rattle.program_words.specs.declared.subcommand.Subcommand.{Subcommand}
use Rattle.program_words.specs.declared.subcommand.Subcommand.TheVariants.{Init, Pipe, Check, Audit, Load, Report, Ship, Follow}
use Rattle.program_words.proofs.Spelled.{found}
use Rattle.program_words.proofs.Written.{and_then_some, at, if_some, same_bytes, uses_taken}

command_at : (s : Subcommand) (mode : Mode) (g : Given) → command_of s (at mode g) ≡ command_of s g
command_at Init mode g = refl
command_at Pipe mode g = refl
command_at Check mode g = refl
command_at Audit mode g = refl
command_at Load mode g = refl
command_at Report mode g = refl
command_at Ship mode g = refl
command_at Follow mode g = refl

word_of : (s : Subcommand) → subcommand_of (subcommand_word s) ≡ Some s
word_of Init = refl
word_of Pipe = refl
word_of Check = refl
word_of Audit = refl
word_of Load = refl
word_of Report = refl
word_of Ship = refl
word_of Follow = refl

named : (w : List ℕ) (one s : Subcommand) (o : Option Subcommand) → (o ≡ Some s → w ≡ subcommand_word s) → (if bytes_eq w (subcommand_word one) then Some one else o) ≡ Some s → w ≡ subcommand_word s
named w one s o others e =
    elim (bytes_eq w (subcommand_word one)) as (λ b. bytes_eq w (subcommand_word one) ≡ b → (if b then Some one else o) ≡ Some s → w ≡ subcommand_word s) [
      | true ↦ λ is same. let this : one ≡ s = some_same same in subst (λ x. w ≡ subcommand_word x) this (same_bytes w (subcommand_word one) is)
      | false ↦ λ is other. others other
    ] refl e
  where
    some_same : {x y : Subcommand} → Some x ≡ Some y → x ≡ y
    some_same e = cc

no_word : (w : List ℕ) (s : Subcommand) → None ≡ Some s → w ≡ subcommand_word s
no_word w s e = cc

subcommand_is : (w : List ℕ) (s : Subcommand) → subcommand_of w ≡ Some s → w ≡ subcommand_word s
subcommand_is w s e =
    named w Init s _ (named w Pipe s _ (named w Check s _ (named w Audit s _ (named w Load s _ (named w Report s _ (named w Ship s _ (named w Follow s None (no_word w s)))))))) e

asked : (words : List (List ℕ)) (command : Command) → reading words ≡ Some command → AsksFor words command
unfolding reading
asked [] command e = cc
asked (w ∷ words) command e =
    let first = and_then_some (command_after words) (subcommand_of w) command e in
    let second = and_then_some (command_from first.0) (given_after first.0 nothing_given words) command first.2 in
    let third = if_some (is_complete second.0.mode) (command_of first.0 second.0) command second.2 in
    let all = found words first.0 nothing_given second.0 second.1 third.0 in
    record {
      subcommand = first.0;
      others = words;
      uses = all.all;
      given = all.given;
      first = ap (λ x. x ∷ words) (subcommand_is w first.0 first.1);
      written = all.written;
      gives = all.gives;
      means = sym (command_at first.0 all.mode all.given) ∙ ap (command_of first.0) all.is ∙ third.1;
    }

read_back : (words : List (List ℕ)) (command : Command) → AsksFor words command → reading words ≡ Some command
unfolding reading
read_back words command asks =
    let end = uses_taken asks.uses asks.subcommand asks.others nothing_given asks.given asks.written asks.gives in
    ap reading asks.first
    ∙ ap (option_and_then (command_after asks.others)) (word_of asks.subcommand)
    ∙ ap (option_and_then (command_from asks.subcommand)) end.gives
    ∙ ap (λ b. if b then command_of asks.subcommand (at end.mode asks.given) else None) end.whole
    ∙ command_at asks.subcommand end.mode asks.given ∙ asks.means

pub reads_what_is_written : ReadsWhatIsWritten
reads_what_is_written words command = (asked words command, read_back words command)
