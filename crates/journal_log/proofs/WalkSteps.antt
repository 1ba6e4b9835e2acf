-- One frame more on a walk along the gates.
use Rattle.std.proofs.Common.{◌≡◌, ◌≢◌, ◌⊎◌, inl, inr, ⊎_elim, ℕ, ◌+◌, ◌<◌, List, [], ◌∷◌, ◌++◌, length, drop, Option, All, refl, sym, ◌∙◌, ap, subst, arith, append_assoc, length-append}
use Rattle.std.proofs.lemmas.List.{append-nil, drop_at, length-drop}
use Rattle.std.specs.List.{sum_by}
use Rattle.std.proofs.lemmas.List.Sums.{sum_by-cons}
use Rattle.pod_io.specs.Visible.{IfVisible}
use Rattle.journal_log.specs.Frames.{sized, frame_len, opened, BeginsWithClosedGate, IsBroken, FramesTo}
use Rattle.journal_log.specs.Heads.{encoded_head, IsKnownHead}
use Rattle.journal_log.specs.Images.{HasNoFrame}
use Rattle.journal_log.specs.CleanJournal.{IsShort, IsJournalPrefix}
use Rattle.journal_log.specs.Scanning.{IsRecord}
use Rattle.journal_log.specs.Walking.{state_at, prefix_of, IsReadTo, IsReadToEnd, HasTornGate}
use Rattle.journal_log.specs.declared.head.Head.{Head}
use Rattle.journal_log.proofs.Splits.{length_head, length_sized}
use Rattle.journal_log.proofs.Writing.{length_framed}
use Rattle.journal_log.proofs.Records.{frames_behind, next_prefix}

length_opened : (bodies : List (List ℕ)) → length (opened bodies) ≡ sum_by frame_len bodies
length_opened [] = refl
length_opened (body ∷ bodies) = omega (arith, sum_by-cons frame_len body bodies, length-append (1 ∷ sized body) (opened bodies), length_sized body, length_opened bodies)

-- whole frames, and then a gate without one
frames_broken : (bodies : List (List ℕ)) (rest : List ℕ) → All IsShort bodies → (bodies ≡ []) ⊎ (0 < length rest) → IsBroken rest → FramesTo IsBroken bodies (opened bodies ++ rest)
frames_broken [] rest short more broken = broken
frames_broken (body ∷ bodies) [] short more broken = absurd (⊎_elim (λ none. cc) (λ some. omega (arith, some)) more)
frames_broken (body ∷ bodies) (next ∷ rest) short more broken =
    subst (λ (l : List (List ℕ)). FramesTo IsBroken l (opened (body ∷ bodies) ++ next ∷ rest)) (append-nil (body ∷ bodies)) (frames_behind IsBroken (body ∷ bodies) [] next rest short broken)

-- nothing is read yet
pub read_none : (content : Option (List ℕ)) (size : ℕ) (head : Head) → IsKnownHead head.format head.epoch → IfVisible content (λ b. b ≡ encoded_head head.format head.epoch ++ drop 16 b) → IsReadTo content size head [] 16
read_none content size head known visible = record {
  is_prefix = record {
    known = known;
    spells = refl;
    ends = omega (arith, length-append (encoded_head head.format head.epoch) [], length_head head.format head.epoch);
    short = λ k d lt. absurd (omega (arith, lt));
  };
  next = inl refl;
  visible = λ b is. visible b is ∙ ap (λ (l : List ℕ). l ++ drop 16 b) (sym (append-nil (encoded_head head.format head.epoch)));
}

module _ (content : Option (List ℕ)) (size : ℕ) (head : Head) (bodies : List (List ℕ)) (at : ℕ) (read : IsReadTo content size head bodies at) where
  -- a closed gate ends the walk
  pub whole : IfVisible content (λ b. BeginsWithClosedGate (drop at b)) → IsReadToEnd content head bodies at
  whole end = record {
    is_prefix = read.is_prefix;
    visible = λ b is. ((end b is).0, read.visible b is ∙ ap (λ (l : List ℕ). prefix_of head bodies ++ l) (end b is).1);
  }

  -- and so does a gate without a whole frame
  pub broken : IfVisible content (λ b. length b ≡ size) → IfVisible content (λ b. IsBroken (drop at b)) → IfVisible content (HasNoFrame at)
  broken sizes breaks b is = record {
    format = head.format;
    epoch = head.epoch;
    bodies = bodies;
    known = read.is_prefix.known;
    rest = opened bodies ++ drop at b;
    spells = read.visible b is ∙ append_assoc (encoded_head head.format head.epoch) (opened bodies) (drop at b);
    frames = frames_broken bodies (drop at b) read.is_prefix.short (⊎_elim (λ none. inl none) (λ more. inr (omega (arith, more, sizes b is, length-drop at b))) read.next) (breaks b is);
    place = omega (arith, read.is_prefix.ends, length-append (encoded_head head.format head.epoch) (opened bodies), length_head head.format head.epoch, length_opened bodies);
  }

  -- and a record behind a gate that is neither 0 nor 1
  pub torn_gate_found : (gate : ℕ) (body : List ℕ) (end : ℕ) → gate ≢ 0 → gate ≢ 1 → IsShort body → end ≡ at + 9 + length body → IfVisible content (λ b. IsRecord gate body (drop at b))
      → HasTornGate content head (bodies ++ body ∷ []) end at
  torn_gate_found gate body end other not_1 short ends seen = record {
    before = bodies;
    last = body;
    gate = gate;
    are = refl;
    is_prefix = read.is_prefix;
    short = short;
    ends = omega (arith, ends, length_framed body);
    other = other;
    not_1 = not_1;
    visible = λ b is.
        let frame = seen b is in
        let next : frame.next ≡ 0 = ⊎_elim (λ one. absurd (not_1 one)) (λ none. none) frame.last in (
          frame.rest,
          read.visible b is ∙ ap (λ (l : List ℕ). prefix_of head bodies ++ l) (
              frame.spells
              ∙ ap (λ (n : ℕ). gate ∷ (sized body ++ (n ∷ frame.rest))) next
              ∙ ap (λ (l : List ℕ). gate ∷ l) (sym (append_assoc (sized body) (0 ∷ []) frame.rest))),
        );
  }

  -- behind a gate 1 the walk goes on
  pub read_more : (body : List ℕ) (next : ℕ) → IsShort body → next ≡ at + 9 + length body → next < size → IfVisible content (λ b. IsRecord 1 body (drop at b))
      → IsReadTo content size head (bodies ++ body ∷ []) next
  read_more body next short is_next within seen =
      let after = next_prefix (state_at head at) bodies (prefix_of head bodies) read.is_prefix (state_at head next) body short refl refl (omega (arith, is_next, length_framed body)) in
      record {
        is_prefix = subst (IsJournalPrefix (state_at head next) (bodies ++ body ∷ [])) after.spells after;
        next = inr within;
        visible = λ b is.
            let frame = seen b is in
            let prefix = prefix_of head bodies ++ (1 ∷ sized body) in
            let parts : b ≡ prefix ++ (frame.next ∷ frame.rest) =
            read.visible b is ∙ ap (λ (l : List ℕ). prefix_of head bodies ++ l) frame.spells ∙ sym (append_assoc (prefix_of head bodies) (1 ∷ sized body) (frame.next ∷ frame.rest)) in
            let rest : drop next b ≡ frame.next ∷ frame.rest = ap (λ (l : List ℕ). drop next l) parts ∙ drop_at prefix (frame.next ∷ frame.rest) next after.ends in
            parts ∙ ap (λ (l : List ℕ). prefix ++ l) (sym rest) ∙ ap (λ (l : List ℕ). l ++ drop next b) after.spells;
      }
