-- What an image stands for while a record is added.
use Rattle.std.proofs.Common.{◌≡◌, ◌≢◌, inl, inr, ℕ, zero, suc, ◌+◌, ◌≤◌, List, [], ◌∷◌, ◌++◌, length, All, false, refl, sym, ◌∙◌, ap, subst, arith, append_assoc, length-append}
use Rattle.std.proofs.lemmas.List.{append-nil}
use Rattle.std.proofs.lemmas.List.Elements.{All-append}
use Rattle.std.proofs.lemmas.Bool.{cases_eq}
use Rattle.pod_disk.specs.Disk.{EachImage}
use Rattle.journal_log.specs.Frames.{sized, framed_of, opened, BeginsWithClosedGate, FramesTo}
use Rattle.journal_log.specs.Heads.{encoded_head, IsKnownHead}
use Rattle.journal_log.specs.Images.{Stands, IsEither}
use Rattle.journal_log.specs.Gates.{IsClosed, IsGated, IsOpening}
use Rattle.journal_log.specs.JournalState.{JournalState}
use Rattle.journal_log.specs.CleanJournal.{IsShort, IsJournalPrefix, IsClean}

-- open records, and then what the rest leads to
pub frames_behind : (Last : List ℕ → Type 0) (bodies others : List (List ℕ)) (next : ℕ) (rest : List ℕ) → All IsShort bodies → FramesTo Last others (next ∷ rest) → FramesTo Last (bodies ++ others) (opened bodies ++ next ∷ rest)
frames_behind Last [] others next rest short leads = leads
frames_behind Last (body ∷ bodies) others next rest short leads =
    let after = frames_behind Last bodies others next rest (λ k d lt. short (suc k) d (omega (arith, lt))) leads in
    let start = starts bodies next rest in record {
      gate = 1;
      next = start.0;
      rest = start.1;
      spells = ap (λ (l : List ℕ). 1 ∷ l) (append_assoc (sized body) (opened bodies) (next ∷ rest) ∙ ap (λ (l : List ℕ). sized body ++ l) start.2);
      is_open = omega arith;
      last = inl refl;
      short = short zero [] (omega arith);
      behind = subst (FramesTo Last (bodies ++ others)) start.2 after;
    }
  where
    starts : (bodies : List (List ℕ)) (next : ℕ) (rest : List ℕ) → (first : ℕ) × (more : List ℕ) × (opened bodies ++ next ∷ rest ≡ first ∷ more)
    starts [] next rest = (next, rest, refl)
    starts (b ∷ bodies) next rest = (1, (sized b ++ opened bodies) ++ next ∷ rest, refl)

pub opened-push : (bodies : List (List ℕ)) (body : List ℕ) → opened (bodies ++ body ∷ []) ≡ opened bodies ++ (1 ∷ sized body)
opened-push [] body = append-nil (1 ∷ sized body)
opened-push (b ∷ bodies) body = ap (λ (l : List ℕ). (1 ∷ sized b) ++ l) (opened-push bodies body) ∙ sym (append_assoc (1 ∷ sized b) (opened bodies) (1 ∷ sized body))

only_short : (body : List ℕ) → IsShort body → All IsShort (body ∷ [])
only_short body is zero d lt = is
only_short body is (suc k) d lt = absurd (omega arith)

short-push : (bodies : List (List ℕ)) (body : List ℕ) → All IsShort bodies → IsShort body → All IsShort (bodies ++ body ∷ [])
short-push bodies body short is = All-append IsShort bodies (body ∷ []) short (only_short body is)

module _ (journal : JournalState) (bodies : List (List ℕ)) (prefix : List ℕ) (is : IsJournalPrefix journal bodies prefix) where
  behind : (others : List (List ℕ)) (next : ℕ) (rest : List ℕ) → FramesTo BeginsWithClosedGate others (next ∷ rest) → Stands journal.format journal.epoch (bodies ++ others) (prefix ++ next ∷ rest)
  behind others next rest leads = record {
    known = is.known;
    rest = opened bodies ++ next ∷ rest;
    spells = ap (λ (l : List ℕ). l ++ next ∷ rest) is.spells ∙ append_assoc (encoded_head journal.format journal.epoch) (opened bodies) (next ∷ rest);
    frames = frames_behind BeginsWithClosedGate bodies others next rest is.short leads;
  }

  -- a closed gate ends them
  pub stands_closed : (c : List ℕ) → IsClosed prefix c → Stands journal.format journal.epoch bodies c
  stands_closed c closed = subst (Stands journal.format journal.epoch bodies) (sym closed.1) (subst (λ (l : List (List ℕ)). Stands journal.format journal.epoch l (prefix ++ (0 ∷ closed.0))) (append-nil bodies) (behind [] 0 closed.0 (closed.0, refl)))

  -- with the record behind it, an open gate makes them one more
  pub stands_gated : (body c : List ℕ) (gate : ℕ) → IsShort body → gate ≢ 0 → IsGated prefix gate (framed_of body) c → Stands journal.format journal.epoch (bodies ++ body ∷ []) c
  stands_gated body c gate short open_gate gated = subst (Stands journal.format journal.epoch (bodies ++ body ∷ [])) (sym gated.1) (behind (body ∷ []) gate (framed_of body ++ gated.0) (record {
    gate = gate;
    next = 0;
    rest = gated.0;
    spells = ap (λ (l : List ℕ). gate ∷ l) (append_assoc (sized body) (0 ∷ []) gated.0);
    is_open = open_gate;
    last = inr refl;
    short = short;
    behind = (gated.0, refl);
  }))

  -- and any gate leaves them or one more
  pub stands_opening : (body c : List ℕ) → IsShort body → IsOpening prefix (framed_of body) c → IsEither journal.format journal.epoch bodies body c
  stands_opening body c short gated = elim (cases_eq gated.0 0) [
    | inl shut ↦ inl (stands_closed c (framed_of body ++ gated.1.0, gated.1.1 ∙ ap (λ (n : ℕ). prefix ++ (n ∷ (framed_of body ++ gated.1.0))) shut))
    | inr open_gate ↦ inr (stands_gated body c gated.0 short open_gate gated.1)
  ]

  -- the record joins the prefix
  pub next_prefix : (next : JournalState) (body : List ℕ) → IsShort body → next.format ≡ journal.format → next.epoch ≡ journal.epoch → next.end ≡ journal.end + length (framed_of body)
      → IsJournalPrefix next (bodies ++ body ∷ []) (prefix ++ (1 ∷ sized body))
  next_prefix next body short format epoch ends = record {
    known = subst (λ (n : ℕ). IsKnownHead n next.epoch) (sym format) (subst (λ (n : ℕ). IsKnownHead journal.format n) (sym epoch) is.known);
    spells = ap (λ (l : List ℕ). l ++ (1 ∷ sized body)) is.spells ∙ append_assoc (encoded_head journal.format journal.epoch) (opened bodies) (1 ∷ sized body)
        ∙ ap (λ (l : List ℕ). encoded_head journal.format journal.epoch ++ l) (sym (opened-push bodies body))
        ∙ ap (λ (n : ℕ). encoded_head n journal.epoch ++ opened (bodies ++ body ∷ [])) (sym format)
        ∙ ap (λ (n : ℕ). encoded_head next.format n ++ opened (bodies ++ body ∷ [])) (sym epoch);
    ends = omega (arith, ends, is.ends, length-append prefix (1 ∷ sized body), length-append (sized body) (0 ∷ []));
    short = short-push bodies body is.short short;
  }

  pub next_closed : (body c : List ℕ) → IsGated prefix 1 (framed_of body) c → IsClosed (prefix ++ (1 ∷ sized body)) c
  next_closed body c gated = (
    gated.0,
    gated.1 ∙ ap (λ (l : List ℕ). prefix ++ (1 ∷ l)) (append_assoc (sized body) (0 ∷ []) gated.0) ∙ sym (append_assoc prefix (1 ∷ sized body) (0 ∷ gated.0)),
  )

  -- where all images have the record behind an open gate, the journal clean behind it
  pub clean_behind : (images : List ℕ → Type 0) (next : JournalState) (body : List ℕ) → IsShort body → EachImage images (IsGated prefix 1 (framed_of body))
      → next.format ≡ journal.format → next.epoch ≡ journal.epoch → next.end ≡ journal.end + length (framed_of body) → next.doubt ≡ false
      → IsClean images next (bodies ++ body ∷ [])
  clean_behind images next body short gated format epoch ends certain = record {
    prefix = prefix ++ (1 ∷ sized body);
    is_prefix = next_prefix next body short format epoch ends;
    closed = λ c now. next_closed body c (gated c now);
    certain = certain;
  }

pub length_closed : (prefix c : List ℕ) → IsClosed prefix c → length prefix + 1 ≤ length c
length_closed prefix c closed = omega (arith, ap length closed.1, length-append prefix (0 ∷ closed.0))

pub length_opening : (prefix behind c : List ℕ) → IsOpening prefix behind c → length prefix + 1 ≤ length c
length_opening prefix behind c (gate, gated) = omega (arith, ap length gated.1, length-append prefix (gate ∷ behind ++ gated.0))

-- a prefix is one of each journal with the same place, format and epoch
pub same_prefix : (journal next : JournalState) (bodies : List (List ℕ)) (prefix : List ℕ) → next.end ≡ journal.end → next.format ≡ journal.format → next.epoch ≡ journal.epoch
    → IsJournalPrefix journal bodies prefix → IsJournalPrefix next bodies prefix
same_prefix journal next bodies prefix ends format epoch is = record {
  known = subst (λ (n : ℕ). IsKnownHead n next.epoch) (sym format) (subst (λ (n : ℕ). IsKnownHead journal.format n) (sym epoch) is.known);
  spells = is.spells ∙ ap (λ (n : ℕ). encoded_head n journal.epoch ++ opened bodies) (sym format) ∙ ap (λ (n : ℕ). encoded_head next.format n ++ opened bodies) (sym epoch);
  ends = is.ends ∙ sym ends;
  short = is.short;
}
