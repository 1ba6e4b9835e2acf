-- The words of `WAC-Allow` are the modes that are granted.
use Rattle.std.proofs.Common.{◌≡◌, ℕ, Bool, true, false, List, [], ◌∷◌, Option, Some, None, refl, sym, subst, ◌∙◌}
use Rattle.std.specs.Prelude.{◌↔◌, IsTrue, bytes_eq, is_some}
use Rattle.std.specs.List.{list_any}
use Rattle.std.proofs.lemmas.Bool.{false≢true}
use Rattle.pod_access.specs.AllowField.{modes_at, modes_in}
use Rattle.pod_access.specs.Bases.{ground_by}
use Rattle.pod_access.specs.PodGrants.{GrantsBy, PodGrants}
use Rattle.pod_base.specs.declared.agent.Agent.{Agent}
use Rattle.pod_base.specs.declared.agent.Mode.{Mode}
use Rattle.pod_base.specs.declared.agent.Mode.TheVariants.{Append, Control, Read, Write}
use Rattle.pod_path.specs.Hierarchy.{is_acl}
use Rattle.pod_rows.specs.Access.{Governs, effective_of}
use Rattle.pod_rows.specs.Pod.{Pod}
use Rattle.pod_rows.specs.WellFormed.{WellFormed}
use Rattle.access_laws.specs.Laws.{shown_words, shows, word_of}
use Rattle.access_laws.proofs.Granted.{grounds}

abbrev is_shown : Mode → List Bool → Bool
is_shown mode granted = list_any (λ word. bytes_eq word (word_of mode)) (shown_words granted)

-- one test in the order read, write, append, control
abbrev pick : Mode → Bool → Bool → Bool → Bool → Bool
pick Read r w a c = r
pick Write r w a c = w
pick Append r w a c = a
pick Control r w a c = c

-- the word of a mode is shown where its test is true
four_words : (mode : Mode) (r w a c : Bool) → is_shown mode (r ∷ w ∷ a ∷ c ∷ []) ≡ pick mode r w a c
four_words Read true true true true = refl
four_words Read true true true false = refl
four_words Read true true false true = refl
four_words Read true true false false = refl
four_words Read true false true true = refl
four_words Read true false true false = refl
four_words Read true false false true = refl
four_words Read true false false false = refl
four_words Read false true true true = refl
four_words Read false true true false = refl
four_words Read false true false true = refl
four_words Read false true false false = refl
four_words Read false false true true = refl
four_words Read false false true false = refl
four_words Read false false false true = refl
four_words Read false false false false = refl
four_words Write true true true true = refl
four_words Write true true true false = refl
four_words Write true true false true = refl
four_words Write true true false false = refl
four_words Write true false true true = refl
four_words Write true false true false = refl
four_words Write true false false true = refl
four_words Write true false false false = refl
four_words Write false true true true = refl
four_words Write false true true false = refl
four_words Write false true false true = refl
four_words Write false true false false = refl
four_words Write false false true true = refl
four_words Write false false true false = refl
four_words Write false false false true = refl
four_words Write false false false false = refl
four_words Append true true true true = refl
four_words Append true true true false = refl
four_words Append true true false true = refl
four_words Append true true false false = refl
four_words Append true false true true = refl
four_words Append true false true false = refl
four_words Append true false false true = refl
four_words Append true false false false = refl
four_words Append false true true true = refl
four_words Append false true true false = refl
four_words Append false true false true = refl
four_words Append false true false false = refl
four_words Append false false true true = refl
four_words Append false false true false = refl
four_words Append false false false true = refl
four_words Append false false false false = refl
four_words Control true true true true = refl
four_words Control true true true false = refl
four_words Control true true false true = refl
four_words Control true true false false = refl
four_words Control true false true true = refl
four_words Control true false true false = refl
four_words Control true false false true = refl
four_words Control true false false false = refl
four_words Control false true true true = refl
four_words Control false true true false = refl
four_words Control false true false true = refl
four_words Control false true false false = refl
four_words Control false false true true = refl
four_words Control false false true false = refl
four_words Control false false false true = refl
four_words Control false false false false = refl

same_four : (mode : Mode) (granted : Bool) → pick mode granted granted granted granted ≡ granted
same_four Read granted = refl
same_four Write granted = refl
same_four Append granted = refl
same_four Control granted = refl

-- one of four tests, each of which is one of the mode
picked : (pod : Pod) (agent : Agent) (list : Governs) (mode : Mode)
    → pick mode (is_some (ground_by pod agent Read list)) (is_some (ground_by pod agent Write list)) (is_some (ground_by pod agent Append list)) (is_some (ground_by pod agent Control list))
    ≡ is_some (ground_by pod agent mode list)
picked pod agent list Read = refl
picked pod agent list Write = refl
picked pod agent list Append = refl
picked pod agent list Control = refl

module _ (pod : Pod) (agent : Agent) (path : List ℕ) (mode : Mode) (w : WellFormed pod) where
  shown_at : (acl : Bool) (o : Option Governs) → is_acl path ≡ acl → effective_of pod.rows path ≡ o → shows pod agent path mode ≡ is_shown mode (modes_in pod agent acl o)
  unfolding modes_at
  shown_at acl o a e = λ i. is_shown mode (modes_in pod agent (a i) (e i))

  none_shown : (acl : Bool) (wanted : Mode) → is_acl path ≡ acl → effective_of pod.rows path ≡ None → IsTrue (shows pod agent path mode) ↔ PodGrants pod agent path wanted
  none_shown acl wanted a e =
      let none : shows pod agent path mode ≡ false = shown_at acl None a e ∙ (four_words mode false false false false ∙ same_four mode false) in (
        λ h. absurd (false≢true (sym none ∙ h)),
        λ h. absurd (subst (GrantsBy pod agent wanted) e h),
      )

  pub words : is_acl path ≡ false → IsTrue (shows pod agent path mode) ↔ PodGrants pod agent path mode
  words a = by_governs (effective_of pod.rows path) refl
    where
      by_governs : (o : Option Governs) → effective_of pod.rows path ≡ o → IsTrue (shows pod agent path mode) ↔ PodGrants pod agent path mode
      by_governs None e = none_shown false mode a e
      by_governs (Some list) e =
          let same : shows pod agent path mode ≡ is_some (ground_by pod agent mode list) = shown_at false (Some list) a e
          ∙ (four_words mode (is_some (ground_by pod agent Read list)) (is_some (ground_by pod agent Write list)) (is_some (ground_by pod agent Append list)) (is_some (ground_by pod agent Control list))
          ∙ picked pod agent list mode) in
          subst (λ b. IsTrue b ↔ PodGrants pod agent path mode) (sym same) (grounds pod agent path mode list w e)

  pub list_words : is_acl path ≡ true → IsTrue (shows pod agent path mode) ↔ PodGrants pod agent path Control
  list_words a = by_governs (effective_of pod.rows path) refl
    where
      by_governs : (o : Option Governs) → effective_of pod.rows path ≡ o → IsTrue (shows pod agent path mode) ↔ PodGrants pod agent path Control
      by_governs None e = none_shown true Control a e
      by_governs (Some list) e =
          let control = is_some (ground_by pod agent Control list) in
          let same : shows pod agent path mode ≡ control = shown_at true (Some list) a e ∙ (four_words mode control control control control ∙ same_four mode control) in
          subst (λ b. IsTrue b ↔ PodGrants pod agent path Control) (sym same) (grounds pod agent path Control list w e)
