-- The images that a crash may leave, by three tests.
use Rattle.std.proofs.Common.{◌≡◌, ◌⊎◌, inl, inr, ℕ, Bool, true, false, ◌||◌, List, Option, Some, sym, subst}
use Rattle.journal_log.specs.Frames.{framed_of}
use Rattle.journal_log.specs.Gates.{IsClosed, IsOpening}
use Rattle.stored_forms.specs.StoredForms.{entry_bytes}
use Rattle.pod_command.specs.declared.entry.Entry.{Entry}
use Rattle.pod_core.specs.KeeperSteps as keeper
use Rattle.pod_core.specs.KeeperSteps.{Holder, KeeperView}
use Rattle.pod_core.specs.WorldImages.{IsAllowedImage, MayFollow, journal_of}
use Rattle.request_history.proofs.MaySteps.{any_yes, none_of}

abbrev OpensWith : List ℕ → List ℕ → Entry → Type 0
OpensWith journal image entry = IsOpening journal (framed_of (entry_bytes entry)) image

-- the image is one of a record of the entry in doubt, or of the holder's
abbrev IsDoubted : KeeperView → List ℕ → List ℕ → Type 0
IsDoubted view journal image = (entry : Entry) × (view.doubt ≡ Some entry) × OpensWith journal image entry

abbrev IsWritten : KeeperView → List ℕ → List ℕ → Type 0
IsWritten view journal image = (holder : Holder) × (view.phase ≡ keeper.written holder) × OpensWith journal image holder.entry

module _ (view : KeeperView) (journal image : List ℕ) (is : journal ≡ journal_of view.history) (closed doubted written : Bool) where
  one_of : (closed ≡ true) ⊎ ((doubted ≡ true) ⊎ (written ≡ true)) → (closed ≡ true → IsClosed journal image) → (doubted ≡ true → IsDoubted view journal image) → (written ≡ true → IsWritten view journal image)
      → IsAllowedImage view image
  one_of (inl t) c d w = inl (subst (λ j. IsClosed j image) is (c t))
  one_of (inr (inl t)) c d w =
      let h = d t in
      inr (h.0, inl h.1, subst (λ j. OpensWith j image h.0) is h.2)
  one_of (inr (inr t)) c d w =
      let h = w t in
      inr (h.0.entry, inr (h.0, h.1, λ i. h.0.entry), subst (λ j. OpensWith j image h.0.entry) is h.2)

  pub allowed_yes : closed || (doubted || written) ≡ true → (closed ≡ true → IsClosed journal image) → (doubted ≡ true → IsDoubted view journal image) → (written ≡ true → IsWritten view journal image)
      → IsAllowedImage view image
  allowed_yes t = one_of (any_yes closed doubted written t)

  no_record : (entry : Entry) → MayFollow view entry → OpensWith journal image entry
      → ((one : Entry) → view.doubt ≡ Some one → OpensWith journal image one → ⊥) → ((holder : Holder) → view.phase ≡ keeper.written holder → OpensWith journal image holder.entry → ⊥) → ⊥
  no_record entry (inl e) o d w = d entry e o
  no_record entry (inr h) o d w = w h.0 h.1 (subst (OpensWith journal image) (sym h.2) o)

  none : IsAllowedImage view image → (IsClosed journal image → ⊥)
      → ((one : Entry) → view.doubt ≡ Some one → OpensWith journal image one → ⊥) → ((holder : Holder) → view.phase ≡ keeper.written holder → OpensWith journal image holder.entry → ⊥) → ⊥
  none (inl a) c d w = c (subst (λ j. IsClosed j image) (sym is) a)
  none (inr a) c d w = no_record a.0 a.1 (subst (λ j. OpensWith j image a.0) (sym is) a.2) d w

  pub allowed_no : closed || (doubted || written) ≡ false → (closed ≡ false → IsClosed journal image → ⊥)
      → (doubted ≡ false → (one : Entry) → view.doubt ≡ Some one → OpensWith journal image one → ⊥)
      → (written ≡ false → (holder : Holder) → view.phase ≡ keeper.written holder → OpensWith journal image holder.entry → ⊥) → IsAllowedImage view image → ⊥
  allowed_no f c d w a =
      let all = none_of closed doubted written f in
      none a (c all.0) (d all.1) (w all.2)
