-- The first rule that grants, and in it the first subject that covers the agent.
use Rattle.std.proofs.Common.{◌≡◌, ◌<◌, length, ℕ, Bool, true, false, cond, ◌&&◌, List, [], ◌∷◌, map, Option, Some, None, refl, sym, ap, subst, ◌∙◌, ◌⊎◌, inl, inr, ⊎_elim}
use Rattle.std.specs.Prelude.{IfSome, IfNone, is_some, slice_get, option_and_then}
use Rattle.std.specs.List.{All, list_any, position}
use Rattle.std.specs.Option.{option_map}
use Rattle.std.proofs.lemmas.Bool.{false≢true}
use Rattle.std.proofs.lemmas.Option.{slice_get_within}
use Rattle.std.proofs.lemmas.List.Folds.{list_any_none}
use Rattle.pod_base.specs.declared.agent.Agent.{Agent}
use Rattle.pod_base.specs.declared.agent.Mode.{Mode}
use Rattle.acl_rules.specs.declared.rule.How.{How}
use Rattle.acl_rules.specs.declared.rule.Rule.{Rule}
use Rattle.acl_rules.specs.declared.rule.Subject.{Subject}
use Rattle.pod_access.specs.declared.granting_rules.Ground.{Ground}
use Rattle.pod_access.specs.Decision.{covers, is_about, has_mode, has_subject, rule_grants, subjects_of, subjects_at, ground_in, first_ground, IsFirstGround}
use Rattle.pod_access.specs.Grants.{Membership}
use Rattle.pod_access.proofs.Positions.{IsFirst, position_fails, first_of, some_position, passes_any, slice_get_member}

abbrev ground : ℕ → ℕ → Ground
ground i j = record { rule = i; subject = j }

last_true : (a b c : Bool) → (a && (b && c)) ≡ true → c ≡ true
last_true true true c h = h
last_true true false c h = absurd (false≢true h)
last_true false b c h = absurd (false≢true h)

module _ (member : Membership) (rules : List Rule) (how : How) (at : List ℕ) (agent : Agent) (mode : Mode) where
  abbrev grants : Rule → Bool
  grants rule = rule_grants member how at agent mode rule

  abbrev found : Option Ground
  found = first_ground member rules how at agent mode

  -- a rule that grants has a subject that covers
  covered : (rule : Rule) → grants rule ≡ true → list_any (covers member agent) rule.subjects ≡ true
  covered rule h = last_true (is_about how at rule) (has_mode rule mode) (has_subject member agent rule) h

  pub no_rule : position grants rules ≡ None → found ≡ None
  unfolding first_ground
  no_rule e = ap (option_and_then (ground_in member rules agent)) e

  pub at_subject : (i : ℕ) (rule : Rule) (o : Option ℕ) → position grants rules ≡ Some i → slice_get rules i ≡ Some rule
      → position (covers member agent) rule.subjects ≡ o → found ≡ option_map (λ j. record { rule = i; subject = j }) o
  unfolding first_ground
  at_subject i rule o e is f =
      ap (option_and_then (ground_in member rules agent)) e
      ∙ ap (λ (r : Option Rule). option_map (λ j. ground i j) (position (covers member agent) (subjects_of r))) is
      ∙ ap (option_map (λ j. ground i j)) f

  -- nothing grants, or the first ground is found
  decided : ((found ≡ None) × All (λ rule. grants rule ≡ false) rules)
      ⊎ ((ground : Ground) × (found ≡ Some ground) × IsFirstGround member rules how at agent mode ground)
  decided = by_rule (position grants rules) refl
    where
      by_rule : (o : Option ℕ) → position grants rules ≡ o → ((found ≡ None) × All (λ rule. grants rule ≡ false) rules)
          ⊎ ((ground : Ground) × (found ≡ Some ground) × IsFirstGround member rules how at agent mode ground)
      by_rule None e = inl (no_rule e, position_fails grants rules e)
      by_rule (Some i) e = (
          let rule = first_of grants rules i e in
          let some = some_position (covers member agent) rule.at.subjects (covered rule.at rule.passes) in
          let subject = first_of (covers member agent) rule.at.subjects some.0 some.1 in
          inr (
            ground i some.0,
            at_subject i rule.at (Some some.0) e rule.is_at some.1,
            record {
              rule = rule.at;
              is_rule = rule.is_at;
              grants = rule.passes;
              first_rule = rule.before;
              subject = subject.at;
              is_subject = subject.is_at;
              covers_agent = subject.passes;
              first_subject = subject.before;
            },
          ))

  pub if_ground : (o : Option Ground) → o ≡ found → IfSome o (IsFirstGround member rules how at agent mode)
  if_ground o e =
      ⊎_elim
      (λ none. subst (λ p. IfSome p (IsFirstGround member rules how at agent mode)) (sym (e ∙ none.0)) tt)
      (λ some. subst (λ p. IfSome p (IsFirstGround member rules how at agent mode)) (sym (e ∙ some.1)) some.2)
      decided

  pub if_none : (o : Option Ground) → o ≡ found → IfNone o (All (λ rule. grants rule ≡ false) rules)
  if_none o e =
      ⊎_elim
      (λ none. subst (λ p. IfNone p (All (λ rule. grants rule ≡ false) rules)) (sym (e ∙ none.0)) none.1)
      (λ some. subst (λ p. IfNone p (All (λ rule. grants rule ≡ false) rules)) (sym (e ∙ some.1)) tt)
      decided

  -- both numbers of a ground are in range
  rule_in : (o : Option Ground) → IfSome o (IsFirstGround member rules how at agent mode) → IfSome o (λ ground. ground.rule < length rules)
  rule_in None h = tt
  rule_in (Some ground) h = slice_get_within rules ground.rule h.rule h.is_rule

  subject_in : (o : Option Ground) → IfSome o (IsFirstGround member rules how at agent mode) → IfSome o (λ ground. ground.subject < length (subjects_at rules ground.rule))
  subject_in None h = tt
  subject_in (Some ground) h =
      subst (λ (r : Option Rule). ground.subject < length (subjects_of r)) (sym h.is_rule) (slice_get_within h.rule.subjects ground.subject h.subject h.is_subject)

  pub if_rule_within : (o : Option Ground) → o ≡ found → IfSome o (λ ground. ground.rule < length rules)
  if_rule_within o e = rule_in o (if_ground o e)

  pub if_subject_within : (o : Option Ground) → o ≡ found → IfSome o (λ ground. ground.subject < length (subjects_at rules ground.rule))
  if_subject_within o e = subject_in o (if_ground o e)

  -- something grants exactly where a rule does
  pub some_grants : is_some found ≡ list_any grants rules
  some_grants =
      ⊎_elim
      (λ none. ap is_some none.0 ∙ sym (list_any_none grants rules none.1))
      (λ some. ap is_some some.1 ∙ sym (list_any_of some.2))
      decided
    where
      list_any_of : {ground : Ground} → IsFirstGround member rules how at agent mode ground → list_any grants rules ≡ true
      list_any_of first = passes_any grants rules first.rule (slice_get_member rules _ first.rule first.is_rule) first.grants
