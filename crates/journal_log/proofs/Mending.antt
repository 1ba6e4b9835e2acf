-- What a torn last gate is while it is written, and where a crash then leaves it.
use Rattle.std.proofs.Common.{◌≡◌, inl, inr, ℕ, List, [], ◌∷◌, ◌++◌, length, refl, sym, ◌∙◌, ap, subst, arith, rules, append_assoc, length-append}
use Rattle.std.proofs.lemmas.Bool.{cases_eq}
use Rattle.journal_log.specs.CleanJournal.{IsShort, IsJournalPrefix}
use Rattle.journal_log.specs.Frames.{sized, framed_of, opened}
use Rattle.journal_log.specs.Gates.{IsClosed, IsGated, IsOpening}
use Rattle.journal_log.specs.Heads.{encoded_head}
use Rattle.journal_log.specs.Images.{Stands, IsEither}
use Rattle.journal_log.specs.JournalState.{JournalState}
use Rattle.journal_log.specs.Laws.{OpenedAgain}
use Rattle.journal_log.specs.Opening.{IsNormalizing, IsWhileOpened}
use Rattle.journal_log.proofs.Once.{stands_once_lem}
use Rattle.journal_log.proofs.Records.{opened-push, stands_closed, stands_gated}
use Rattle.journal_log.proofs.Splits.{first_is, rest_is, parts_are}

-- that image, while its last gate is written
abbrev pub MendsTo : List ℕ → List ℕ → Type 0
MendsTo c x = IsNormalizing (λ image. image ≡ c) x

push_once : (xs ys : List (List ℕ)) (x y : List ℕ) → xs ++ x ∷ [] ≡ ys ++ y ∷ [] → (xs ≡ ys) × (x ≡ y)
push_once [] [] x y e = (refl, search (rules, e))
push_once [] (b ∷ ys) x y e = absurd (omega (arith, ap length e, length-append ys (y ∷ [])))
push_once (a ∷ xs) [] x y e = absurd (omega (arith, ap length e, length-append xs (x ∷ [])))
push_once (a ∷ xs) (b ∷ ys) x y e =
    let tails : xs ++ x ∷ [] ≡ ys ++ y ∷ [] = search (rules, e) in
    let heads : a ≡ b = search (rules, e) in
    let rest = push_once xs ys x y tails in
    (ap (λ (l : List (List ℕ)). a ∷ l) rest.0 ∙ ap (λ (z : List ℕ). z ∷ ys) heads, rest.1)

-- a journal's bytes before its last gate
abbrev before : ℕ → ℕ → List (List ℕ) → List ℕ
before format epoch bodies = encoded_head format epoch ++ opened bodies

module _ (c x : List ℕ) (n : MendsTo c x) where
  pub stood : Stands n.format n.epoch (n.bodies ++ n.body ∷ []) c
  stood = subst (Stands n.format n.epoch (n.bodies ++ n.body ∷ [])) n.was n.stood

  -- its gate is neither 0 nor 1
  pub gated : IsGated (before n.format n.epoch n.bodies) n.gate (framed_of n.body) c
  gated = (n.gated.0, sym n.was ∙ n.gated.1)

  -- no gate before that one is torn
  torn_within : (format epoch : ℕ) (bodies : List (List ℕ)) (rest : List ℕ) → c ≡ before format epoch bodies ++ rest → bodies ≡ n.bodies ++ n.body ∷ [] → format ≡ n.format → epoch ≡ n.epoch → ⊥
  torn_within format epoch bodies rest spells are same_format same_epoch =
      let prefix = before n.format n.epoch n.bodies in
      let one = 1 ∷ sized n.body in
      let heads : encoded_head format epoch ≡ encoded_head n.format n.epoch = ap (λ f. encoded_head f epoch) same_format ∙ ap (λ e. encoded_head n.format e) same_epoch in
      let lists : opened bodies ≡ opened n.bodies ++ one = ap opened are ∙ opened-push n.bodies n.body in
      let whole : before format epoch bodies ≡ prefix ++ one = ap (λ (l : List ℕ). l ++ opened bodies) heads ∙ (ap (λ (l : List ℕ). encoded_head n.format n.epoch ++ l) lists ∙ sym (append_assoc (encoded_head n.format n.epoch) (opened n.bodies) one)) in
      let here : c ≡ prefix ++ (one ++ rest) = spells ∙ (ap (λ (l : List ℕ). l ++ rest) whole ∙ append_assoc prefix one rest) in
      let parts = parts_are prefix prefix (one ++ rest) (n.gate ∷ framed_of n.body ++ gated.0) refl (sym here ∙ gated.1) in
      n.torn.1 (sym (first_is 1 n.gate _ _ parts.1))

  module _ (journal : JournalState) (bodies : List (List ℕ)) (prefix : List ℕ) (is : IsJournalPrefix journal bodies prefix) where
    -- a clean journal has no such gate
    pub not_torn : IsClosed prefix c → ⊥
    not_torn closed =
        let once = stands_once_lem journal.format n.format journal.epoch n.epoch bodies (n.bodies ++ n.body ∷ []) c (stands_closed journal bodies prefix is c closed) stood in
        torn_within journal.format journal.epoch bodies (0 ∷ closed.0) (closed.1 ∙ ap (λ (l : List ℕ). l ++ (0 ∷ closed.0)) is.spells) once.2 once.0 once.1

    -- in one whose last gate is in doubt it is that gate
    pub doubt_mended : (body : List ℕ) → IsShort body → IsOpening prefix (framed_of body) c → IsEither journal.format journal.epoch bodies body x
    doubt_mended body short opening = elim (cases_eq opening.0 0) [
      | inl shut ↦ absurd (not_torn (framed_of body ++ opening.1.0, opening.1.1 ∙ ap (λ (k : ℕ). prefix ++ (k ∷ (framed_of body ++ opening.1.0))) shut))
      | inr open_gate ↦
          let once = stands_once_lem journal.format n.format journal.epoch n.epoch (bodies ++ body ∷ []) (n.bodies ++ n.body ∷ []) c (stands_gated journal bodies prefix is body c opening.0 short open_gate opening.1) stood in
          let lists = push_once bodies n.bodies body n.body once.2 in
          subst (λ f. IsEither f journal.epoch bodies body x) (sym once.0) (subst (λ e. IsEither n.format e bodies body x) (sym once.1)
          (subst (λ l. IsEither n.format n.epoch l body x) (sym lists.0) (subst (λ b. IsEither n.format n.epoch n.bodies b x) (sym lists.1) n.stands)))
    ]

module _ (c x y : List ℕ) (n : MendsTo c x) (m : MendsTo x y) where
  -- where the record is there, the gate is the same
  same_gate : (n.format ≡ m.format) × (n.epoch ≡ m.epoch) × (n.bodies ++ n.body ∷ [] ≡ m.bodies ++ m.body ∷ []) → MendsTo c y
  unfolding gated
  same_gate once =
      let lists = push_once n.bodies m.bodies n.body m.body once.2 in
      let prefix = before n.format n.epoch n.bodies in
      let prefixes : before m.format m.epoch m.bodies ≡ prefix = ap (λ f. before f m.epoch m.bodies) (sym once.0) ∙ (ap (λ e. before n.format e m.bodies) (sym once.1) ∙ ap (λ l. before n.format n.epoch l) (sym lists.0)) in
      let framed : framed_of m.body ≡ framed_of n.body = ap framed_of (sym lists.1) in
      let rest = (gated x y m).0 in
      let at : (gate : ℕ) → before m.format m.epoch m.bodies ++ (gate ∷ framed_of m.body ++ rest) ≡ prefix ++ (gate ∷ framed_of n.body ++ rest) =
      λ gate. ap (λ (l : List ℕ). l ++ (gate ∷ framed_of m.body ++ rest)) prefixes ∙ ap (λ (l : List ℕ). prefix ++ (gate ∷ l ++ rest)) framed in
      let both : prefix ++ (n.changed.0 ∷ framed_of n.body ++ n.gated.0) ≡ prefix ++ (m.gate ∷ framed_of n.body ++ rest) = sym n.changed.1 ∙ ((gated x y m).1 ∙ at m.gate) in
      let behind = rest_is n.changed.0 m.gate _ _ (parts_are prefix prefix _ _ refl both).1 in
      let rests : n.gated.0 ≡ rest = (parts_are (framed_of n.body) (framed_of n.body) n.gated.0 rest refl behind).1 in record {
        from = n.from;
        was = n.was;
        format = n.format;
        epoch = n.epoch;
        bodies = n.bodies;
        body = n.body;
        gate = n.gate;
        torn = n.torn;
        gated = n.gated;
        stood = n.stood;
        changed = (m.changed.0, changed_to ∙ (at m.changed.0 ∙ ap (λ (l : List ℕ). prefix ++ (m.changed.0 ∷ framed_of n.body ++ l)) (sym rests)));
        stands = subst (λ f. IsEither f n.epoch n.bodies n.body y) (sym once.0) (subst (λ e. IsEither m.format e n.bodies n.body y) (sym once.1)
            (subst (λ l. IsEither m.format m.epoch l n.body y) (sym lists.0) (subst (λ b. IsEither m.format m.epoch m.bodies b y) (sym lists.1) m.stands)));
      }
    where
      changed_to : y ≡ before m.format m.epoch m.bodies ++ (m.changed.0 ∷ framed_of m.body ++ (gated x y m).0)
      changed_to = m.changed.1

  -- what mends it once more
  mended_again : IsEither n.format n.epoch n.bodies n.body x → MendsTo c y
  mended_again (inl fewer) =
      let once = stands_once_lem n.format m.format n.epoch m.epoch n.bodies (m.bodies ++ m.body ∷ []) x fewer (stood x y m) in
      absurd (torn_within x y m n.format n.epoch n.bodies (n.changed.0 ∷ framed_of n.body ++ n.gated.0) n.changed.1 once.2 once.0 once.1)
  mended_again (inr more) =
      same_gate (stands_once_lem n.format m.format n.epoch m.epoch (n.bodies ++ n.body ∷ []) (m.bodies ++ m.body ∷ []) x more (stood x y m))

pub opened_again_lem : OpenedAgain
opened_again_lem c x y (inl same) second = subst (λ (z : List ℕ). IsWhileOpened (λ image. image ≡ z) y) same second
opened_again_lem c x y (inr n) (inl same) = inr (subst (MendsTo c) (sym same) n)
opened_again_lem c x y (inr n) (inr m) = inr (mended_again c x y n m n.stands)
