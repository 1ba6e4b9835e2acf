-- Words that are read are written so.
use Rattle.std.proofs.Common.{◌≡◌, ◌⊎◌, ◌<◌, inl, inr, ℕ, Bool, true, false, not, ◌&&◌, nat_lt, if◌then◌else◌, get_or, length, List, [], ◌∷◌, ◌++◌, Option, Some, None, is_some, codes, refl, sym, ap, subst, ◌∙◌, arith}
use Rattle.std.proofs.lemmas.Bool.Decides.{nat_tests}
use Rattle.std.proofs.lemmas.List.Sums.{split_at_first, passes_at_first}
use Rattle.std.specs.List.{list_any, before_first, after_first, position_or_len}
use Rattle.std.specs.Option.{option_and_then}
use Rattle.std.specs.Str.{bytes_eq}
use Rattle.program_words.specs.Given.{Given, after_assigned, after_flag, after_option, after_parameter, assigned_in, assigned_of, flag_of, flag_word, given_after, has_flag, has_operand, has_parameter, is_dashed, is_equals, parameter_of, parameter_word, with_flag, with_operand, with_parameter, with_value}
use Rattle.program_words.specs.Readings.{is_complete}
use Rattle.program_words.specs.Spelling.{AreOperands, AreUses, IsNext, Use, with_use, with_uses}
use Rattle.program_words.specs.Spelling as uses
use Rattle.program_words.specs.declared.podctl_options.Mode.{Mode}
use Rattle.program_words.specs.declared.podctl_options.Mode.TheVariants.{Options, Value, Operands}
use Rattle.program_words.specs.declared.subcommand.Flag.{Flag}
use Rattle.program_words.specs.declared.subcommand.Flag.TheVariants.{AsOwner, Trail}
use Rattle.program_words.specs.declared.subcommand.Parameter.{Parameter}
use Rattle.program_words.specs.declared.subcommand.Parameter.TheVariants.{Base, Owner, Fresh, Agent}
use Rattle.program_words.specs.declared.subcommand.Subcommand.{Subcommand}
use Rattle.program_words.proofs.Numbers.{and_left, and_right}
use Rattle.program_words.proofs.Splitting.{has_any}
use Rattle.program_words.proofs.Written.{and_then_some, at, flag_at, mapped_some, operand_at, parameter_at, same_bytes, unless_some}

-- ---- what a word is that has a name

if_else_some : {X : Type 0} (t : Bool) (a x : X) (o : Option X) → (if t then Some a else o) ≡ Some x → ((t ≡ true) × (a ≡ x)) ⊎ (o ≡ Some x)
if_else_some true a x o e = inl (refl, cc)
if_else_some false a x o e = inr e

abbrev IsFlagWord : Subcommand → List ℕ → Flag → Type 0
IsFlagWord s w f = (has_flag s f ≡ true) × (w ≡ flag_word f)

flag_named : (s : Subcommand) (w : List ℕ) (f : Flag) → (has_flag s f && bytes_eq w (flag_word f)) ≡ true → IsFlagWord s w f
flag_named s w f both = (and_left (has_flag s f) (bytes_eq w (flag_word f)) both, same_bytes w (flag_word f) (and_right (has_flag s f) (bytes_eq w (flag_word f)) both))

flag_is : (s : Subcommand) (w : List ℕ) (f : Flag) → flag_of s w ≡ Some f → IsFlagWord s w f
flag_is s w f e =
    elim (if_else_some (has_flag s AsOwner && bytes_eq w (flag_word AsOwner)) AsOwner f (if has_flag s Trail && bytes_eq w (flag_word Trail) then Some Trail else None) e) [
      | inl is ↦ subst (IsFlagWord s w) is.1 (flag_named s w AsOwner is.0)
      | inr other ↦ elim (if_else_some (has_flag s Trail && bytes_eq w (flag_word Trail)) Trail f None other) [
        | inl is ↦ subst (IsFlagWord s w) is.1 (flag_named s w Trail is.0)
        | inr none ↦ cc
      ]
    ]

abbrev IsParameterWord : Subcommand → List ℕ → Parameter → Type 0
IsParameterWord s w p = (has_parameter s p ≡ true) × (w ≡ parameter_word p)

parameter_named : (s : Subcommand) (w : List ℕ) (p : Parameter) → (has_parameter s p && bytes_eq w (parameter_word p)) ≡ true → IsParameterWord s w p
parameter_named s w p both = (and_left (has_parameter s p) (bytes_eq w (parameter_word p)) both, same_bytes w (parameter_word p) (and_right (has_parameter s p) (bytes_eq w (parameter_word p)) both))

parameter_is : (s : Subcommand) (w : List ℕ) (p : Parameter) → parameter_of s w ≡ Some p → IsParameterWord s w p
parameter_is s w p e =
    elim (if_else_some (has_parameter s Base && bytes_eq w (parameter_word Base)) Base p (if has_parameter s Owner && bytes_eq w (parameter_word Owner) then Some Owner else if has_parameter s Fresh && bytes_eq w (parameter_word Fresh) then Some Fresh else if has_parameter s Agent && bytes_eq w (parameter_word Agent) then Some Agent else None) e) [
      | inl is ↦ subst (IsParameterWord s w) is.1 (parameter_named s w Base is.0)
      | inr other ↦ elim (if_else_some (has_parameter s Owner && bytes_eq w (parameter_word Owner)) Owner p (if has_parameter s Fresh && bytes_eq w (parameter_word Fresh) then Some Fresh else if has_parameter s Agent && bytes_eq w (parameter_word Agent) then Some Agent else None) other) [
        | inl is ↦ subst (IsParameterWord s w) is.1 (parameter_named s w Owner is.0)
        | inr third ↦ elim (if_else_some (has_parameter s Fresh && bytes_eq w (parameter_word Fresh)) Fresh p (if has_parameter s Agent && bytes_eq w (parameter_word Agent) then Some Agent else None) third) [
          | inl is ↦ subst (IsParameterWord s w) is.1 (parameter_named s w Fresh is.0)
          | inr last ↦ elim (if_else_some (has_parameter s Agent && bytes_eq w (parameter_word Agent)) Agent p None last) [
            | inl is ↦ subst (IsParameterWord s w) is.1 (parameter_named s w Agent is.0)
            | inr none ↦ cc
          ]
        ]
      ]
    ]

split_whole : (w : List ℕ) → list_any is_equals w ≡ true → w ≡ before_first is_equals w ++ (codes "=" ++ after_first is_equals w)
split_whole w has =
    let test : nat_lt (position_or_len is_equals w) (length w) ≡ true = sym (has_any is_equals w) ∙ has in
    let inside : position_or_len is_equals w < length w = grind (arith, nat_tests, test) in
    let passes : is_equals (get_or w (position_or_len is_equals w) 0) ≡ true = passes_at_first is_equals w 0 inside in
    let is : get_or w (position_or_len is_equals w) 0 ≡ 61 = grind (arith, nat_tests, passes) in
    split_at_first is_equals w 0 inside ∙ ap (λ c. before_first is_equals w ++ (c ∷ after_first is_equals w)) is

record IsAssigned (s : Subcommand) (w : List ℕ) (p : Parameter) (v : List ℕ) : Type 0 where
  pub has : has_parameter s p ≡ true
  pub whole : w ≡ parameter_word p ++ (codes "=" ++ v)

assigned_in_is : (s : Subcommand) (w : List ℕ) (q : Parameter × List ℕ) (t : Bool) → list_any is_equals w ≡ t → assigned_in s (if t then Some (before_first is_equals w, after_first is_equals w) else None) ≡ Some q → IsAssigned s w q.0 q.1
assigned_in_is s w q false lacks e = cc
assigned_in_is s w q true has e =
    let found = mapped_some (λ p. (p, after_first is_equals w)) (parameter_of s (before_first is_equals w)) q e in
    let named = parameter_is s (before_first is_equals w) found.0 found.1 in
    subst (λ (r : Parameter × List ℕ). IsAssigned s w r.0 r.1) found.2 (record { has = named.0; whole = split_whole w has ∙ ap (λ n. n ++ (codes "=" ++ after_first is_equals w)) named.1 })

assigned_is : (s : Subcommand) (w : List ℕ) (q : Parameter × List ℕ) → assigned_of s w ≡ Some q → IsAssigned s w q.0 q.1
assigned_is s w q e = assigned_in_is s w q (list_any is_equals w) refl e

-- ---- one word

-- What a word gives where options may be: the end of the options, an option that waits for its
-- value, or a whole use.
data Step (s : Subcommand) (w : List ℕ) (g : Given) : Given → Type 0 where
  ends : w ≡ codes "--" → Step s w g (at Operands g)
  waits : (p : Parameter) → has_parameter s p ≡ true → w ≡ parameter_word p → Step s w g (at (Value p) g)
  uses_one : (one : Use) (j : Given) → ((rest : List (List ℕ)) → IsNext one (w ∷ rest) rest) → with_use s g one ≡ Some j → Step s w g (at Options j)

same_given : {g h : Given} → Some g ≡ Some h → g ≡ h
same_given e = cc

flag_used : (s : Subcommand) (w : List ℕ) (g h : Given) (f : Flag) → flag_of s w ≡ Some f → with_flag f (at Options g) ≡ Some h → Step s w g h
flag_used s w g h f named taken =
    let is = flag_is s w f named in
    let back = mapped_some (at Options) (with_flag f g) h (sym (flag_at Options f g) ∙ taken) in
    subst (Step s w g) back.2 (uses_one (uses.flag f) back.0 (λ rest. ap (λ x. x ∷ rest) is.1) (ap (λ b. if b then with_flag f g else None) is.0 ∙ back.1))

value_used : (s : Subcommand) (w : List ℕ) (g h : Given) (q : Parameter × List ℕ) → assigned_of s w ≡ Some q → with_value q.0 q.1 (at Options g) ≡ Some h → Step s w g h
value_used s w g h q named taken =
    let is = assigned_is s w q named in
    let plain = unless_some (is_dashed q.1) (with_parameter q.0 q.1 (at Options g)) h taken in
    let back = mapped_some (at Options) (with_parameter q.0 q.1 g) h (sym (parameter_at Options q.0 q.1 g) ∙ plain.1) in
    subst (Step s w g) back.2 (uses_one (uses.parameter q.0 q.1) back.0 (λ rest. (plain.0, inr (ap (λ x. x ∷ rest) is.whole))) (ap (λ b. if b then with_parameter q.0 q.1 g else None) is.has ∙ back.1))

operand_used : (s : Subcommand) (w : List ℕ) (g h : Given) → with_operand s w (at Options g) ≡ Some h → Step s w g h
operand_used s w g h taken =
    let back = mapped_some (at Options) (with_operand s w g) h (sym (operand_at Options s w g) ∙ taken) in
    let plain = unless_some (is_dashed w) (if has_operand s && not (is_some g.operand) then Some (record g { operand = Some w }) else None) back.0 back.1 in
    subst (Step s w g) back.2 (uses_one (uses.operand w) back.0 (λ rest. (plain.0, refl)) back.1)

assigned_step : (s : Subcommand) (w : List ℕ) (g h : Given) (o : Option (Parameter × List ℕ)) → assigned_of s w ≡ o → after_assigned s w (at Options g) o ≡ Some h → Step s w g h
assigned_step s w g h None named taken = operand_used s w g h taken
assigned_step s w g h (Some q) named taken = value_used s w g h q named taken

parameter_step : (s : Subcommand) (w : List ℕ) (g h : Given) (o : Option Parameter) → parameter_of s w ≡ o → after_parameter s w (at Options g) o ≡ Some h → Step s w g h
parameter_step s w g h None named taken = assigned_step s w g h (assigned_of s w) refl taken
parameter_step s w g h (Some p) named taken =
    let is = parameter_is s w p named in
    subst (Step s w g) (same_given taken) (waits p is.0 is.1)

flag_step : (s : Subcommand) (w : List ℕ) (g h : Given) (o : Option Flag) → flag_of s w ≡ o → after_flag s w (at Options g) o ≡ Some h → Step s w g h
flag_step s w g h None named taken = parameter_step s w g h (parameter_of s w) refl taken
flag_step s w g h (Some f) named taken = flag_used s w g h f named taken

word_steps : (s : Subcommand) (w : List ℕ) (g h : Given) (t : Bool) → bytes_eq w (codes "--") ≡ t → (if t then Some (record (at Options g) { mode = Operands }) else after_flag s w (at Options g) (flag_of s w)) ≡ Some h → Step s w g h
word_steps s w g h true is taken = subst (Step s w g) (same_given taken) (ends (same_bytes w (codes "--") is))
word_steps s w g h false is taken = flag_step s w g h (flag_of s w) refl taken

step_of : (s : Subcommand) (w : List ℕ) (g h : Given) → after_option s w (at Options g) ≡ Some h → Step s w g h
step_of s w g h taken = word_steps s w g h (bytes_eq w (codes "--")) refl taken

-- ---- all words

record FoundOperands (s : Subcommand) (g : Given) (words : List (List ℕ)) (k : Given) : Type 0 where
  pub all : List Use
  pub given : Given
  pub written : AreOperands all words
  pub gives : with_uses s g all ≡ Some given
  pub is : at Operands given ≡ k

found_operands : (words : List (List ℕ)) (s : Subcommand) (g k : Given) → given_after s (at Operands g) words ≡ Some k → FoundOperands s g words k
found_operands [] s g k e = record { all = []; given = g; written = refl; gives = refl; is = same_given e }
found_operands (w ∷ words) s g k e =
    let first = and_then_some (λ h. given_after s h words) (with_operand s w (at Operands g)) k e in
    let back = mapped_some (at Operands) (with_operand s w g) first.0 (sym (operand_at Operands s w g) ∙ first.1) in
    let others = found_operands words s back.0 k (subst (λ h. given_after s h words ≡ Some k) (sym back.2) first.2) in
    let plain = unless_some (is_dashed w) (if has_operand s && not (is_some g.operand) then Some (record g { operand = Some w }) else None) back.0 back.1 in
    record {
      all = uses.operand w ∷ others.all;
      given = others.given;
      written = (words, (plain.0, refl), others.written);
      gives = ap (option_and_then (λ h. with_uses s h others.all)) back.1 ∙ others.gives;
      is = others.is;
    }

-- the uses that words are, and what they give but for the mode
pub record Found (s : Subcommand) (g : Given) (words : List (List ℕ)) (k : Given) : Type 0 where
  pub all : List Use
  pub given : Given
  pub mode : Mode
  pub written : AreUses all words
  pub gives : with_uses s g all ≡ Some given
  pub is : at mode given ≡ k

one_more : (s : Subcommand) (one : Use) (g j : Given) (words rest : List (List ℕ)) (k : Given) → IsNext one words rest → with_use s g one ≡ Some j → Found s j rest k → Found s g words k
one_more s one g j words rest k next taken others = record {
  all = one ∷ others.all;
  given = others.given;
  mode = others.mode;
  written = inl (rest, next, others.written);
  gives = ap (option_and_then (λ h. with_uses s h others.all)) taken ∙ others.gives;
  is = others.is;
}

ended : (s : Subcommand) (w : List ℕ) (words : List (List ℕ)) (g k : Given) → w ≡ codes "--" → FoundOperands s g words k → Found s g (w ∷ words) k
ended s w words g k is others = record {
  all = others.all;
  given = others.given;
  mode = Operands;
  written = has_ended others.all w words is others.written;
  gives = others.gives;
  is = others.is;
}
  where
    has_ended : (all : List Use) (w : List ℕ) (words : List (List ℕ)) → w ≡ codes "--" → AreOperands all words → AreUses all (w ∷ words)
    has_ended [] w words is written = inr (words, ap (λ x. x ∷ words) is, written)
    has_ended (one ∷ all) w words is written = inr (words, ap (λ x. x ∷ words) is, written)

-- after an option that waits for its value
record FoundValue (s : Subcommand) (p : Parameter) (g : Given) (words : List (List ℕ)) (k : Given) : Type 0 where
  pub value : List ℕ
  pub rest : List (List ℕ)
  pub whole : words ≡ value ∷ rest
  pub plain : is_dashed value ≡ false
  pub next : Given
  pub taken : with_parameter p value g ≡ Some next
  pub others : Found s next rest k

-- what holds of all words, where options may be and where a value is due
abbrev IsFound : List (List ℕ) → Type 0
IsFound words = (s : Subcommand) (g k : Given) → given_after s (at Options g) words ≡ Some k → is_complete k.mode ≡ true → Found s g words k

abbrev IsValueFound : List (List ℕ) → Type 0
IsValueFound words = (s : Subcommand) (p : Parameter) (g k : Given) → given_after s (at (Value p) g) words ≡ Some k → is_complete k.mode ≡ true → FoundValue s p g words k

none_found : IsFound []
none_found s g k e complete = record { all = []; given = g; mode = Options; written = inl refl; gives = refl; is = same_given e }

no_value : IsValueFound []
no_value s p g k e complete =
    let bad : is_complete (Value p) ≡ true = ap (λ (h : Given). is_complete h.mode) (same_given e) ∙ complete in
    cc

found_step : (words : List (List ℕ)) → IsFound words → IsValueFound words → (s : Subcommand) (w : List ℕ) (g k h : Given) → Step s w g h → given_after s h words ≡ Some k → is_complete k.mode ≡ true → Found s g (w ∷ words) k
found_step words below value_below s w g k h (ends is) e complete = ended s w words g k is (found_operands words s g k e)
found_step words below value_below s w g k h (waits p has is) e complete =
    let value = value_below s p g k e complete in
    one_more s (uses.parameter p value.value) g value.next (w ∷ words) value.rest k (value.plain, inl (ap (λ x. x ∷ words) is ∙ ap (λ xs. parameter_word p ∷ xs) value.whole)) (ap (λ b. if b then with_parameter p value.value g else None) has ∙ value.taken) value.others
found_step words below value_below s w g k h (uses_one one j next taken) e complete =
    one_more s one g j (w ∷ words) words k (next words) taken (below s j k e complete)

found_more : (w : List ℕ) (words : List (List ℕ)) → IsFound words → IsValueFound words → IsFound (w ∷ words)
found_more w words below value_below s g k e complete =
    let first = and_then_some (λ h. given_after s h words) (after_option s w (at Options g)) k e in
    found_step words below value_below s w g k first.0 (step_of s w g first.0 first.1) first.2 complete

found_value : (v : List ℕ) (words : List (List ℕ)) → IsFound words → IsValueFound (v ∷ words)
found_value v words below s p g k e complete =
    let first = and_then_some (λ h. given_after s h words) (with_value p v (at Options g)) k e in
    let plain = unless_some (is_dashed v) (with_parameter p v (at Options g)) first.0 first.1 in
    let back = mapped_some (at Options) (with_parameter p v g) first.0 (sym (parameter_at Options p v g) ∙ plain.1) in
    record {
      value = v;
      rest = words;
      whole = refl;
      plain = plain.0;
      next = back.0;
      taken = back.1;
      others = below s back.0 k (subst (λ h. given_after s h words ≡ Some k) (sym back.2) first.2) complete;
    }

both : (words : List (List ℕ)) → IsFound words × IsValueFound words
both [] = (none_found, no_value)
both (w ∷ words) =
    let below = both words in
    (found_more w words below.0 below.1, found_value w words below.0)

pub found : (words : List (List ℕ)) → IsFound words
found words = (both words).0
