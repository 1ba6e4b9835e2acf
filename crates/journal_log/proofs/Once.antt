-- From a gate on, bytes are read in one way.
use Rattle.std.proofs.Common.{◌≡◌, inl, inr, ℕ, ◌+◌, List, [], ◌∷◌, ◌++◌, refl, sym, ◌∙◌, ap, subst}
use Rattle.journal_log.specs.Frames.{frame_len, BeginsWithClosedGate, IsFrame, IsBroken, FramesTo}
use Rattle.journal_log.specs.Heads.{encoded_head, IsKnownHead}
use Rattle.std.specs.List.{sum_by}
use Rattle.journal_log.specs.Laws.{StandsOnce, DamagedOnce, StandsOrDamaged}
use Rattle.journal_log.proofs.Splits.{first_is, rest_is, sized_are, heads_are}

-- two frames at one place have the same body, and the same stands behind them
pub frames_are : (a b : List ℕ) (P Q : List ℕ → Type 0) (bytes : List ℕ) (first : IsFrame a P bytes) (second : IsFrame b Q bytes)
    → (a ≡ b) × (first.next ∷ first.rest ≡ second.next ∷ second.rest)
frames_are a b P Q bytes first second = sized_are a b _ _ first.short second.short (rest_is first.gate second.gate _ _ (sym first.spells ∙ second.spells))

-- nothing that has Last has a frame
abbrev pub HasNoFrames : (List ℕ → Type 0) → Type 1
HasNoFrames Last = (bytes : List ℕ) → Last bytes → (body : List ℕ) (P : List ℕ → Type 0) → IsFrame body P bytes → ⊥

pub end_has_none : HasNoFrames BeginsWithClosedGate
end_has_none bytes (rest, is) body P frame = frame.is_open (first_is frame.gate 0 _ _ (sym frame.spells ∙ is))

pub broken_has_none : HasNoFrames IsBroken
broken_has_none bytes broken body P frame = broken.1 body (record {
  gate = frame.gate;
  next = frame.next;
  rest = frame.rest;
  spells = frame.spells;
  is_open = frame.is_open;
  last = frame.last;
  short = frame.short;
  behind = tt;
})

pub frames_once : (P Q : List ℕ → Type 0) → HasNoFrames P → HasNoFrames Q → (ones twos : List (List ℕ)) (bytes : List ℕ)
    → FramesTo P ones bytes → FramesTo Q twos bytes → (ones ≡ twos) × ((last : List ℕ) × P last × Q last)
frames_once P Q no_p no_q [] [] bytes first second = (refl, (bytes, first, second))
frames_once P Q no_p no_q [] (b ∷ twos) bytes first second = absurd (no_p bytes first b (FramesTo Q twos) second)
frames_once P Q no_p no_q (a ∷ ones) [] bytes first second = absurd (no_q bytes second a (FramesTo P ones) first)
frames_once P Q no_p no_q (a ∷ ones) (b ∷ twos) bytes first second =
    let both = frames_are a b (FramesTo P ones) (FramesTo Q twos) bytes first second in
    let others = frames_once P Q no_p no_q ones twos (first.next ∷ first.rest) first.behind (subst (FramesTo Q twos) (sym both.1) second.behind) in
    (ap (λ (l : List (List ℕ)). a ∷ l) others.0 ∙ ap (λ (x : List ℕ). x ∷ twos) both.0, others.1)

module _ (format format_2 epoch epoch_2 : ℕ) (image rest rest_2 : List ℕ) (known : IsKnownHead format epoch) (known_2 : IsKnownHead format_2 epoch_2) (spells : image ≡ encoded_head format epoch ++ rest) (spells_2 : image ≡ encoded_head format_2 epoch_2 ++ rest_2) where
  -- two right heads of one image are one
  one_head : (format ≡ format_2) × (epoch ≡ epoch_2) × (rest ≡ rest_2)
  one_head = heads_are format format_2 epoch epoch_2 rest rest_2 known known_2 (sym spells ∙ spells_2)

  -- and so are the records behind it
  one_list : (P Q : List ℕ → Type 0) → HasNoFrames P → HasNoFrames Q → (ones twos : List (List ℕ)) → FramesTo P ones rest → FramesTo Q twos rest_2
      → (ones ≡ twos) × ((last : List ℕ) × P last × Q last)
  one_list P Q no_p no_q ones twos first second = frames_once P Q no_p no_q ones twos rest first (subst (FramesTo Q twos) (sym one_head.2) second)

pub stands_once_lem : StandsOnce
stands_once_lem format format_2 epoch epoch_2 ones twos image first second =
    let heads = one_head format format_2 epoch epoch_2 image first.rest second.rest first.known second.known first.spells second.spells in
    let lists = one_list format format_2 epoch epoch_2 image first.rest second.rest first.known second.known first.spells second.spells BeginsWithClosedGate BeginsWithClosedGate end_has_none end_has_none ones twos first.frames second.frames in
    (heads.0, heads.1, lists.0)

pub damaged_once_lem : DamagedOnce
damaged_once_lem at at_2 image (inl a) (inl b) = a.place ∙ sym b.place
damaged_once_lem at at_2 image (inl a) (inr b) = absurd (a.wrong b.format b.epoch b.rest b.known b.spells)
damaged_once_lem at at_2 image (inr a) (inl b) = absurd (b.wrong a.format a.epoch a.rest a.known a.spells)
damaged_once_lem at at_2 image (inr a) (inr b) =
    let lists = one_list a.format b.format a.epoch b.epoch image a.rest b.rest a.known b.known a.spells b.spells IsBroken IsBroken broken_has_none broken_has_none a.bodies b.bodies a.frames b.frames in
    a.place ∙ ap (λ (l : List (List ℕ)). 16 + sum_by frame_len l) lists.0 ∙ sym b.place

pub stands_or_damaged_lem : StandsOrDamaged
stands_or_damaged_lem format epoch at bodies image stands (inl a) = a.wrong format epoch stands.rest stands.known stands.spells
stands_or_damaged_lem format epoch at bodies image stands (inr a) =
    let lists = one_list format a.format epoch a.epoch image stands.rest a.rest stands.known a.known stands.spells a.spells BeginsWithClosedGate IsBroken end_has_none broken_has_none bodies a.bodies stands.frames a.frames in
    lists.1.2.0 lists.1.1
