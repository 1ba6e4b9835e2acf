-- The frames of records, one after the other.
use Rattle.std.proofs.Common.{◌≡◌, ℕ, ◌+◌, ◌<◌, ◌≤◌, List, [], ◌∷◌, ◌++◌, length, take, drop, slice_index_or, Option, Result, IsErr, sym, ◌∙◌, ap, subst, append-nil}
use Rattle.std.proofs.lemmas.List.{drop_more, take_more, take_all, take-append-drop}
use Rattle.std.proofs.lemmas.List.Concat.{flat_map-append}
use Rattle.pod_io.specs.Writing.{ExtendsBy, ExtendsByPart, Writes}
use Rattle.pod_io.proofs.Extending.{extends_more, part_after, part_before, writes_failed}
use Rattle.pod_follow.specs.Frames.{frame_of, frames_of}

pub all_written : (records : List (List ℕ)) (i : ℕ) (old now : Option (List ℕ)) → length records ≤ i → ExtendsBy (frames_of (take i records)) old now → ExtendsBy (frames_of records) old now
all_written records i old now over so_far = subst (λ (rs : List (List ℕ)). ExtendsBy (frames_of rs) old now) (take_all i records over) so_far

module _ (records : List (List ℕ)) (i : ℕ) (item body : List ℕ) (within : i < length records) (is : item ≡ slice_index_or records i item) (same : body ≡ item) (old now : Option (List ℕ)) (so_far : ExtendsBy (frames_of (take i records)) old now) where
  here : slice_index_or records i item ≡ body
  here = sym is ∙ sym same

  more : frames_of (take (i + 1) records) ≡ frames_of (take i records) ++ frame_of body
  more =
      ap frames_of (take_more records i item within ∙ ap (λ (x : List ℕ). take i records ++ x ∷ []) here)
      ∙ flat_map-append frame_of (take i records) (body ∷ [])
      ∙ ap (λ l. frames_of (take i records) ++ l) (append-nil (frame_of body))

  -- one frame more
  pub one_more : (new : Option (List ℕ)) → ExtendsBy (frame_of body) now new → ExtendsBy (frames_of (take (i + 1) records)) old new
  one_more new written = subst (λ t. ExtendsBy t old new) (sym more) (extends_more old now new (frames_of (take i records)) (frame_of body) so_far written)

  cut : frames_of records ≡ frames_of (take i records) ++ (frame_of body ++ frames_of (drop (i + 1) records))
  cut =
      ap frames_of (sym (take-append-drop i records))
      ∙ flat_map-append frame_of (take i records) (drop i records)
      ∙ ap (λ (rs : List (List ℕ)). frames_of (take i records) ++ frames_of rs) (drop_more records i item within ∙ ap (λ (x : List ℕ). x ∷ drop (i + 1) records) here)

  -- a part of it
  pub cut_short : {T E : Type 0} (result : Result T E) (new : Option (List ℕ)) → IsErr result → ExtendsByPart (frame_of body) now new → Writes result (frames_of records) old new
  cut_short result new failed part =
      writes_failed result old new (frames_of records) failed
      (subst (λ t. ExtendsByPart t old new) (sym cut)
      (part_after old now new (frames_of (take i records)) (frame_of body ++ frames_of (drop (i + 1) records)) so_far
      (part_before now new (frame_of body) (frames_of (drop (i + 1) records)) part)))
