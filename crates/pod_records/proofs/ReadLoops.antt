-- One step of the loop over records.
use Rattle.std.proofs.Common.{◌≡◌, ℕ, ◌+◌, ◌<◌, ◌^◌, List, [], ◌∷◌, ◌++◌, length, take, drop, slice_index_or, sym, ◌∙◌, ap, arith}
use Rattle.std.specs.List.{sum_by}
use Rattle.std.proofs.lemmas.List.{take_more, drop_more, take-append-drop}
use Rattle.std.proofs.lemmas.List.Sums.{sum_by-cons, sum_by-append}
use Rattle.journal_log.specs.Frames.{frame_len}
use Rattle.pod_records.specs.PodStores.{gate_after}

module _ (first : List ℕ) (all : List (List ℕ)) (i : ℕ) (item text : List ℕ) (within : i < length all) (is : item ≡ slice_index_or all i item) (same : text ≡ item) where
  item_is : slice_index_or all i item ≡ text
  item_is = sym is ∙ sym same

  pub split_here : first ∷ all ≡ (first ∷ take i all) ++ text ∷ drop (i + 1) all
  split_here = ap (λ l. first ∷ l) (sym (take-append-drop i all) ∙ ap (λ l. take i all ++ l) (drop_more all i item within ∙ ap (λ x. x ∷ drop (i + 1) all) item_is))

  pub taken : first ∷ take (i + 1) all ≡ (first ∷ take i all) ++ text ∷ []
  taken = ap (λ l. first ∷ l) (take_more all i item within ∙ ap (λ x. take i all ++ x ∷ []) item_is)

  pub room_here : (at : ℕ) → at ≡ gate_after (first ∷ take i all) → gate_after (first ∷ all) < 2 ^ 64 → at + frame_len text < 2 ^ 64
  room_here at at_is room = omega (arith, at_is, room, ap (sum_by frame_len) split_here, sum_by-append frame_len (first ∷ take i all) (text ∷ drop (i + 1) all), sum_by-cons frame_len text (drop (i + 1) all))

  pub gate_next : (at next : ℕ) → at ≡ gate_after (first ∷ take i all) → next ≡ at + frame_len text → next ≡ gate_after (first ∷ take (i + 1) all)
  gate_next at next at_is next_is = omega (arith, at_is, next_is, ap (sum_by frame_len) taken, sum_by-append frame_len (first ∷ take i all) (text ∷ []), sum_by-cons frame_len text [])
