-- Words that are written so are read so.
use Rattle.std.proofs.Common.{◌≡◌, inl, inr, ℕ, Bool, true, false, not, ◌&&◌, if◌then◌else◌, List, [], ◌∷◌, ◌++◌, Option, Some, None, is_some, codes, refl, sym, ap, subst, ◌∙◌}
use Rattle.std.proofs.lemmas.Slice.Eq.{bytes_eq-Decides}
use Rattle.std.specs.Option.{option_and_then, option_map}
use Rattle.std.specs.Str.{bytes_eq}
use Rattle.program_words.specs.Given.{Given, after_assigned, after_option, assigned_in, assigned_of, flag_word, given_after, has_flag, has_operand, has_parameter, is_dashed, parameter_word, split_value, with_flag, with_operand, with_parameter, with_value}
use Rattle.program_words.specs.Readings.{is_complete}
use Rattle.program_words.specs.Spelling.{AreOperands, AreUses, HasEnded, IsNext, Use, with_use, with_uses}
use Rattle.program_words.specs.Spelling as uses
use Rattle.program_words.specs.declared.podctl_options.Mode.{Mode}
use Rattle.program_words.specs.declared.podctl_options.Mode.TheVariants.{Options, Value, Operands}
use Rattle.program_words.specs.declared.subcommand.Flag.{Flag}
use Rattle.program_words.specs.declared.subcommand.Flag.TheVariants.{AsOwner, Trail}
use Rattle.program_words.specs.declared.subcommand.Parameter.{Parameter}
use Rattle.program_words.specs.declared.subcommand.Parameter.TheVariants.{Base, Owner, Fresh, Agent}
use Rattle.program_words.specs.declared.subcommand.Subcommand.{Subcommand}
use Rattle.program_words.specs.declared.subcommand.Subcommand.TheVariants.{Init, Pipe, Check, Audit, Load, Report, Ship, Follow}

abbrev pub at : Mode → Given → Given
at mode given = record given { mode = mode }

pub same_bytes : (a b : List ℕ) → bytes_eq a b ≡ true → a ≡ b
same_bytes a b e = (bytes_eq-Decides a b).0 e

-- ---- what is given doesn't depend on the mode

pub parameter_at : (mode : Mode) (p : Parameter) (v : List ℕ) (g : Given) → with_parameter p v (at mode g) ≡ option_map (at mode) (with_parameter p v g)
parameter_at mode Base v g = elim g.base as (λ o. with_parameter Base v (at mode (record g { base = o })) ≡ option_map (at mode) (with_parameter Base v (record g { base = o }))) [ Some x ↦ refl | None ↦ refl ]
parameter_at mode Owner v g = elim g.owner as (λ o. with_parameter Owner v (at mode (record g { owner = o })) ≡ option_map (at mode) (with_parameter Owner v (record g { owner = o }))) [ Some x ↦ refl | None ↦ refl ]
parameter_at mode Fresh v g = elim g.fresh as (λ o. with_parameter Fresh v (at mode (record g { fresh = o })) ≡ option_map (at mode) (with_parameter Fresh v (record g { fresh = o }))) [ Some x ↦ refl | None ↦ refl ]
parameter_at mode Agent v g = elim g.agent as (λ o. with_parameter Agent v (at mode (record g { agent = o })) ≡ option_map (at mode) (with_parameter Agent v (record g { agent = o }))) [ Some x ↦ refl | None ↦ refl ]

pub flag_at : (mode : Mode) (f : Flag) (g : Given) → with_flag f (at mode g) ≡ option_map (at mode) (with_flag f g)
flag_at mode AsOwner g = elim g.as_owner as (λ b. with_flag AsOwner (at mode (record g { as_owner = b })) ≡ option_map (at mode) (with_flag AsOwner (record g { as_owner = b }))) [ true ↦ refl | false ↦ refl ]
flag_at mode Trail g = elim g.trail as (λ b. with_flag Trail (at mode (record g { trail = b })) ≡ option_map (at mode) (with_flag Trail (record g { trail = b }))) [ true ↦ refl | false ↦ refl ]

if_mapped : (t : Bool) (f : Given → Given) (g : Given) → (if t then Some (f g) else None) ≡ option_map f (if t then Some g else None)
if_mapped true f g = refl
if_mapped false f g = refl

pub operand_at : (mode : Mode) (s : Subcommand) (w : List ℕ) (g : Given) → with_operand s w (at mode g) ≡ option_map (at mode) (with_operand s w g)
operand_at mode s w g =
    elim (is_dashed w) as (λ b. (if b then None else if has_operand s && not (is_some g.operand) then Some (record (at mode g) { operand = Some w }) else None)
    ≡ option_map (at mode) (if b then None else if has_operand s && not (is_some g.operand) then Some (record g { operand = Some w }) else None)) [
      | true ↦ refl
      | false ↦ if_mapped (has_operand s && not (is_some g.operand)) (at mode) (record g { operand = Some w })
    ]

-- ---- each use is one step

pub word_step : (s : Subcommand) (p : Parameter) → has_parameter s p ≡ true → (g : Given) → after_option s (parameter_word p) g ≡ Some (record g { mode = Value p })
word_step Init Base h g = refl
word_step Init Owner h g = refl
word_step Init Fresh h g = cc
word_step Init Agent h g = cc
word_step Pipe Base h g = cc
word_step Pipe Owner h g = cc
word_step Pipe Fresh h g = refl
word_step Pipe Agent h g = cc
word_step Check p h g = cc
word_step Audit p h g = cc
word_step Load p h g = cc
word_step Report Base h g = cc
word_step Report Owner h g = cc
word_step Report Fresh h g = cc
word_step Report Agent h g = refl
word_step Ship p h g = cc
word_step Follow p h g = cc

pub value_step : (s : Subcommand) (p : Parameter) → has_parameter s p ≡ true → (v : List ℕ) (g : Given) → after_option s (parameter_word p ++ (codes "=" ++ v)) g ≡ with_value p v g
value_step Init Base h v g = refl
value_step Init Owner h v g = refl
value_step Init Fresh h v g = cc
value_step Init Agent h v g = cc
value_step Pipe Base h v g = cc
value_step Pipe Owner h v g = cc
value_step Pipe Fresh h v g = refl
value_step Pipe Agent h v g = cc
value_step Check p h v g = cc
value_step Audit p h v g = cc
value_step Load p h v g = cc
value_step Report Base h v g = cc
value_step Report Owner h v g = cc
value_step Report Fresh h v g = cc
value_step Report Agent h v g = refl
value_step Ship p h v g = cc
value_step Follow p h v g = cc

pub flag_step : (s : Subcommand) (f : Flag) → has_flag s f ≡ true → (g : Given) → after_option s (flag_word f) g ≡ with_flag f g
flag_step Pipe AsOwner h g = refl
flag_step Pipe Trail h g = refl
flag_step Init f h g = cc
flag_step Check f h g = cc
flag_step Audit f h g = cc
flag_step Load f h g = cc
flag_step Report f h g = cc
flag_step Ship f h g = cc
flag_step Follow f h g = cc

no_dashes : (w : List ℕ) → is_dashed w ≡ false → bytes_eq w (codes "--") ≡ false
no_dashes w plain =
    elim (bytes_eq w (codes "--")) as (λ b. bytes_eq w (codes "--") ≡ b → b ≡ false) [
      | true ↦ λ same. subst (λ x. is_dashed x ≡ false) (same_bytes w (codes "--") same) plain
      | false ↦ λ same. refl
    ] refl

load_assigns_none : (o : Option (List ℕ × List ℕ)) → assigned_in Load o ≡ None
load_assigns_none None = refl
load_assigns_none (Some parts) = refl

none_taken : (s : Subcommand) (w : List ℕ) (g h : Given) → is_dashed w ≡ false → has_operand s ≡ false → with_operand s w g ≡ Some h → ⊥
none_taken s w g h plain has taken =
    let none : with_operand s w g ≡ None = ap (λ b. if b then None else if has_operand s && not (is_some g.operand) then Some (record g { operand = Some w }) else None) plain ∙ ap (λ b. if b && not (is_some g.operand) then Some (record g { operand = Some w }) else None) has in
    let bad : Some h ≡ None = sym taken ∙ none in
    cc

some_same : {X : Type 0} {x y : X} → Some x ≡ Some y → x ≡ y
some_same e = cc

pub operand_step : (s : Subcommand) (w : List ℕ) (g h : Given) → is_dashed w ≡ false → with_operand s w g ≡ Some h → after_option s w g ≡ with_operand s w g
operand_step Load w g h plain taken =
    ap (λ b. if b then Some (record g { mode = Operands }) else after_assigned Load w g (assigned_of Load w)) (no_dashes w plain)
    ∙ ap (λ o. after_assigned Load w g o) (load_assigns_none (split_value w))
operand_step Init w g h plain taken = absurd (none_taken Init w g h plain refl taken)
operand_step Pipe w g h plain taken = absurd (none_taken Pipe w g h plain refl taken)
operand_step Check w g h plain taken = absurd (none_taken Check w g h plain refl taken)
operand_step Audit w g h plain taken = absurd (none_taken Audit w g h plain refl taken)
operand_step Report w g h plain taken = absurd (none_taken Report w g h plain refl taken)
operand_step Ship w g h plain taken = absurd (none_taken Ship w g h plain refl taken)
operand_step Follow w g h plain taken = absurd (none_taken Follow w g h plain refl taken)

-- ---- uses, one after another

-- what an option holds, where taking it and going on from there gives something
pub and_then_some : {X Y : Type 0} (f : X → Option Y) (o : Option X) (y : Y) → option_and_then f o ≡ Some y → (x : X) × (o ≡ Some x) × (f x ≡ Some y)
and_then_some f None y e = cc
and_then_some f (Some x) y e = (x, refl, e)

pub mapped_some : {X Y : Type 0} (f : X → Y) (o : Option X) (y : Y) → option_map f o ≡ Some y → (x : X) × (o ≡ Some x) × (f x ≡ y)
mapped_some f None y e = cc
mapped_some f (Some x) y e = (x, refl, some_same e)

pub if_some : {X : Type 0} (t : Bool) (o : Option X) (x : X) → (if t then o else None) ≡ Some x → (t ≡ true) × (o ≡ Some x)
if_some true o x e = (refl, e)
if_some false o x e = cc

pub unless_some : {X : Type 0} (t : Bool) (o : Option X) (x : X) → (if t then None else o) ≡ Some x → (t ≡ false) × (o ≡ Some x)
unless_some true o x e = cc
unless_some false o x e = (refl, e)

pub value_taken : (p : Parameter) (v : List ℕ) (mode : Mode) (g h : Given) → is_dashed v ≡ false → with_parameter p v g ≡ Some h → with_value p v (at mode g) ≡ Some (at mode h)
value_taken p v mode g h plain taken =
    ap (λ b. if b then None else with_parameter p v (at mode g)) plain ∙ parameter_at mode p v g ∙ ap (option_map (at mode)) taken

pub use_taken : (s : Subcommand) (one : Use) (words rest : List (List ℕ)) (g h : Given) → IsNext one words rest → with_use s g one ≡ Some h → given_after s (at Options g) words ≡ given_after s (at Options h) rest
use_taken s (uses.parameter p v) words rest g h next taken =
    let both = if_some (has_parameter s p) (with_parameter p v g) h taken in
    elim next.1 [
      | inl two ↦
          ap (given_after s (at Options g)) two
          ∙ ap (option_and_then (λ k. given_after s k (v ∷ rest))) (word_step s p both.0 (at Options g))
          ∙ ap (option_and_then (λ k. given_after s k rest)) (value_taken p v Options g h next.0 both.1)
      | inr one ↦
          ap (given_after s (at Options g)) one
          ∙ ap (option_and_then (λ k. given_after s k rest)) (value_step s p both.0 v (at Options g) ∙ value_taken p v Options g h next.0 both.1)
    ]
use_taken s (uses.flag f) words rest g h next taken =
    let both = if_some (has_flag s f) (with_flag f g) h taken in
    ap (given_after s (at Options g)) next
    ∙ ap (option_and_then (λ k. given_after s k rest)) (flag_step s f both.0 (at Options g) ∙ flag_at Options f g ∙ ap (option_map (at Options)) both.1)
use_taken s (uses.operand w) words rest g h next taken =
    let now : with_operand s w (at Options g) ≡ Some (at Options h) = operand_at Options s w g ∙ ap (option_map (at Options)) taken in
    ap (given_after s (at Options g)) next.1
    ∙ ap (option_and_then (λ k. given_after s k rest)) (operand_step s w (at Options g) (at Options h) next.0 now ∙ now)

pub operands_taken : (all : List Use) (s : Subcommand) (words : List (List ℕ)) (g k : Given) → AreOperands all words → with_uses s g all ≡ Some k → given_after s (at Operands g) words ≡ Some (at Operands k)
operands_taken [] s words g k written taken = ap (given_after s (at Operands g)) written ∙ ap (option_map (at Operands)) taken
operands_taken (uses.operand w ∷ all) s words g k written taken =
    let first = and_then_some (λ h. with_uses s h all) (with_operand s w g) k taken in
    ap (given_after s (at Operands g)) written.1.1
    ∙ ap (option_and_then (λ h. given_after s h written.0)) (operand_at Operands s w g ∙ ap (option_map (at Operands)) first.1)
    ∙ operands_taken all s written.0 first.0 k written.2 first.2
operands_taken (uses.parameter p v ∷ all) s words g k written taken = absurd written
operands_taken (uses.flag f ∷ all) s words g k written taken = absurd written

-- what words give in the end, but for the mode
pub record Gives (s : Subcommand) (g : Given) (words : List (List ℕ)) (k : Given) : Type 0 where
  pub mode : Mode
  pub whole : is_complete mode ≡ true
  pub gives : given_after s (at Options g) words ≡ Some (at mode k)

ended_taken : (all : List Use) (s : Subcommand) (words : List (List ℕ)) (g k : Given) → HasEnded all words → with_uses s g all ≡ Some k → Gives s g words k
ended_taken all s words g k ended taken = record {
  mode = Operands;
  whole = refl;
  gives = ap (given_after s (at Options g)) ended.1 ∙ operands_taken all s ended.0 g k ended.2 taken;
}

pub uses_taken : (all : List Use) (s : Subcommand) (words : List (List ℕ)) (g k : Given) → AreUses all words → with_uses s g all ≡ Some k → Gives s g words k
uses_taken [] s words g k written taken =
    elim written [
      | inl none ↦ record { mode = Options; whole = refl; gives = ap (given_after s (at Options g)) none ∙ ap (option_map (at Options)) taken }
      | inr ended ↦ ended_taken [] s words g k ended taken
    ]
uses_taken (one ∷ all) s words g k written taken =
    elim written [
      | inl more ↦
          let first = and_then_some (λ h. with_uses s h all) (with_use s g one) k taken in
          let others = uses_taken all s more.0 first.0 k more.2 first.2 in
          record { mode = others.mode; whole = others.whole; gives = use_taken s one words more.0 g first.0 more.1 first.1 ∙ others.gives }
      | inr ended ↦ ended_taken (one ∷ all) s words g k ended taken
    ]
