-- A journal with a record more, and what follows it in an image.
use Rattle.std.proofs.Common.{◌≡◌, ℕ, List, [], ◌∷◌, ◌++◌, length, refl, sym, ap, append_assoc, ◌∙◌}
use Rattle.std.specs.Int.{to_be_bytes, w64}
use Rattle.journal_log.specs.Frames.{BeginsWithClosedGate, framed_of, sized}
use Rattle.journal_log.specs.Gates.{IsClosed, IsOpening}
use Rattle.request_history.proofs.Settled.{cancel_left}
use Rattle.request_history.specs.Images.{IsGatedRecord, IsRecord}

pub joined : (journal body len : List ℕ) → len ≡ to_be_bytes w64 (length body) → ((journal ++ 1 ∷ []) ++ len) ++ body ≡ journal ++ (1 ∷ sized body)
unfolding sized
joined journal body len e =
    append_assoc (journal ++ 1 ∷ []) len body
    ∙ append_assoc journal (1 ∷ []) (len ++ body)
    ∙ ap (λ l. journal ++ (1 ∷ (l ++ body))) e

-- ---- a gate 0

pub closed_yes : (journal image rest : List ℕ) → image ≡ journal ++ rest → BeginsWithClosedGate rest → IsClosed journal image
closed_yes journal image rest e g = (g.0, e ∙ ap (λ l. journal ++ l) g.1)

pub closed_no : (journal image rest : List ℕ) → image ≡ journal ++ rest → IsClosed journal image → BeginsWithClosedGate rest
closed_no journal image rest e c = (c.0, cancel_left journal rest (0 ∷ c.0) (sym e ∙ c.1))

pub closed_none : (journal image : List ℕ) → ((rest : List ℕ) → image ≡ journal ++ rest → ⊥) → IsClosed journal image → ⊥
closed_none journal image h c = h (0 ∷ c.0) c.1

-- ---- a record

framed_is : (body rest : List ℕ) → framed_of body ++ rest ≡ to_be_bytes w64 (length body) ++ (body ++ (0 ∷ rest))
unfolding sized
framed_is body rest =
    let len = to_be_bytes w64 (length body) in
    append_assoc (len ++ body) (0 ∷ []) rest ∙ append_assoc len body (0 ∷ rest)

module _ (body bytes len : List ℕ) (is : len ≡ to_be_bytes w64 (length body)) where
  framed_after : (rest : List ℕ) → framed_of body ++ rest ≡ len ++ (body ++ (0 ∷ rest))
  framed_after rest = framed_is body rest ∙ ap (λ l. l ++ (body ++ (0 ∷ rest))) (sym is)

  pub record_yes : (rest : List ℕ) → bytes ≡ len ++ rest → IsClosed body rest → IsRecord body bytes
  record_yes rest e c = (c.0, e ∙ ap (λ l. len ++ l) c.1 ∙ sym (framed_after c.0))

  pub record_no : (rest : List ℕ) → bytes ≡ len ++ rest → IsRecord body bytes → IsClosed body rest
  record_no rest e r = (r.0, cancel_left len rest (body ++ (0 ∷ r.0)) (sym e ∙ r.1 ∙ framed_after r.0))

  pub record_none : ((rest : List ℕ) → bytes ≡ len ++ rest → ⊥) → IsRecord body bytes → ⊥
  record_none h r = h (body ++ (0 ∷ r.0)) (r.1 ∙ framed_after r.0)

-- ---- any gate before it

module _ (body bytes : List ℕ) where
  pub gated_yes : (gate : ℕ) (rest : List ℕ) → bytes ≡ gate ∷ rest → IsRecord body rest → IsGatedRecord body bytes
  gated_yes gate rest e r = (gate, r.0, e ∙ ap (λ l. gate ∷ l) r.1)

  pub gated_no : (gate : ℕ) (rest : List ℕ) → bytes ≡ gate ∷ rest → IsGatedRecord body bytes → IsRecord body rest
  gated_no gate rest e g =
      let both : gate ∷ rest ≡ g.0 ∷ (framed_of body ++ g.1) = sym e ∙ g.2 in
      let same : rest ≡ framed_of body ++ g.1 = cc both in
      (g.1, same)

  pub gated_none : length bytes ≡ 0 → IsGatedRecord body bytes → ⊥
  gated_none e g =
      let none : length (g.0 ∷ (framed_of body ++ g.1)) ≡ 0 = sym (ap length g.2) ∙ e in
      absurd (cc none)

-- ---- after the journal

module _ (journal body image : List ℕ) where
  pub opening_yes : (rest : List ℕ) → image ≡ journal ++ rest → IsGatedRecord body rest → IsOpening journal (framed_of body) image
  opening_yes rest e g = (g.0, (g.1, e ∙ ap (λ l. journal ++ l) g.2))

  pub opening_no : (rest : List ℕ) → image ≡ journal ++ rest → IsOpening journal (framed_of body) image → IsGatedRecord body rest
  opening_no rest e o = (o.0, o.1.0, cancel_left journal rest (o.0 ∷ (framed_of body ++ o.1.0)) (sym e ∙ o.1.1))

  pub opening_none : ((rest : List ℕ) → image ≡ journal ++ rest → ⊥) → IsOpening journal (framed_of body) image → ⊥
  opening_none h o = h (o.0 ∷ (framed_of body ++ o.1.0)) o.1.1
