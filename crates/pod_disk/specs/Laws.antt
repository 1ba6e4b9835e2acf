-- The laws of a disk, for one in memory.
use Rattle.std.specs.Prelude.{◌≡◌, ◌⊎◌, ◌<◌, ◌≤◌, ◌+◌, ◌-◌, if◌then◌else◌, ℕ, Bool, true, false}
use Rattle.std.specs.Prelude.{min, List, [], ◌∷◌, ◌++◌, length, take, drop, Some, None, refl}
use Rattle.std.proofs.Common.{inl, inr, ⊎_elim, append_assoc, sym, ◌∙◌, ap, subst, arith, rules}
use Rattle.std.proofs.Common.{length-append}
use Rattle.std.proofs.lemmas.List.{take_all, drop_all, take_at, drop_at, length-take, length-drop}
use Rattle.std.proofs.lemmas.List.{take-take}
use Rattle.std.proofs.lemmas.Bool.{cases_lt}
use Rattle.pod_disk.specs.Disk.{overwritten, Torn, TornCut}
use Rattle.pod_disk.specs.NotedCalls.{DiskState, done_by, content_after, Step, left_by}
use Rattle.pod_disk.specs.NotedCalls.{images_after, content_at, visible_content, CrashImageAt}
use Rattle.pod_disk.specs.NotedCalls.{IsCrashImage, MayLeave, moment_of, LeftSince}
use Rattle.pod_disk.specs.declared.call.Call.{Call}
use Rattle.pod_disk.specs.declared.call.NotedCall.{NotedCall}
use Rattle.pod_disk.specs.declared.call.Call.TheVariants.{Length, Read, Write, Cut as Shorten, Sync}

-- this moment is one of those since an earlier one
pub image_now : (disk : DiskState) (t : ℕ) (c : List ℕ) → t ≤ moment_of disk → MayLeave disk c
    → LeftSince disk t c
image_now disk t c le image = (
  length disk.noted,
  le,
  omega arith,
  subst
      (λ (l : List NotedCall). IsCrashImage disk.first l c)
      (sym (take_all (length disk.noted) disk.noted (omega arith))) image,
)

-- since this moment there is no other
pub only_image : (disk : DiskState) (c : List ℕ) → LeftSince disk (moment_of disk) c
    → MayLeave disk c
only_image disk c was = subst
    (λ (l : List NotedCall). IsCrashImage disk.first l c) (take_all was.0 disk.noted was.1) was.3

le_or_lt : (m n : ℕ) → (m ≤ n) ⊎ (n < m)
le_or_lt m n = ⊎_elim (λ lt. inr lt) (λ le. inl le) (cases_lt n m)

-- a whole write is one that a crash may leave, and so are none and a whole cut
pub whole_is_torn : (at : ℕ) (bytes b : List ℕ) → Torn at (length bytes) b (overwritten at bytes b)
whole_is_torn at bytes b =
    let rest = drop (at + length bytes) b in
    let front : length (take at b) ≡ min at (length b) = length-take at b in
    let back : length rest ≡ length b - (at + length bytes) = length-drop (at + length bytes) b in
    let whole : length (take at b ++ bytes ++ rest) ≡ min at
    (length b) + length bytes + length rest =
    omega (
      arith,
      front,
      length-append (take at b ++ bytes) rest,
      length-append
          (take at b) bytes,
    ) in
    record {
      before = ap
          (λ (l : List ℕ). take (min at (length b)) l)
          (append_assoc (take at b) bytes rest) ∙ take_at (take at b) (bytes ++ rest)
          (min at (length b)) front;
      behind = ⊎_elim
          (λ inside. drop_at (take at b ++ bytes) rest (at + length bytes)
          (omega (arith, inside, front, length-append (take at b) bytes)))
          (λ outside. drop_all (at + length bytes) (take at b ++ bytes ++ rest)
          (omega (arith, outside, whole, back)) ∙ sym
          (drop_all (at + length bytes) b (omega (arith, outside))))
          (le_or_lt at (length b));
      no_shorter = omega (arith, whole, back);
      no_longer = omega (arith, whole, back);
    }

pub same_is_torn : (at count : ℕ) (b : List ℕ) → Torn at count b b
same_is_torn at count b = record {
  before = ⊎_elim
      (λ inside. ap (λ (m : ℕ). take m b) {x = min at (length b)} {y = at} (omega (arith, inside)))
      (λ outside. take_all (min at (length b)) b (omega (arith, outside)) ∙ sym
      (take_all at b (omega (arith, outside))))
      (le_or_lt at (length b));
  behind = refl;
  no_shorter = omega arith;
  no_longer = omega arith;
}

least : (len : ℕ) (b : List ℕ) → take (min len (length b)) b ≡ take len b
least len b = of (le_or_lt len (length b))
  where
    of : (len ≤ length b) ⊎ (length b < len) → take (min len (length b)) b ≡ take len b
    of (inl inside) = ap
        (λ (m : ℕ). take m b) {x = min len (length b)} {y = len} (omega (arith, inside))
    of (inr outside) =
        take_all (min len (length b)) b (omega (arith, outside))
        ∙ sym (take_all len b (omega (arith, outside)))

pub whole_is_cut : (len : ℕ) (b : List ℕ) → TornCut len b (take len b)
whole_is_cut len b = record {
  no_shorter = omega (arith, length-take len b);
  no_longer = omega (arith, length-take len b);
  below = take_all (min len (length b)) (take len b) (omega (arith, length-take len b));
}

pub same_is_cut : (len : ℕ) (b : List ℕ) → TornCut len b b
same_is_cut len b =
    record { no_shorter = omega arith; no_longer = omega arith; below = least len b }

-- so is a cut to a length between the two, with any bytes past the lesser
pub between_is_cut : (len most : ℕ) (b : List ℕ) → len ≤ most → TornCut len b (take most b)
between_is_cut len most b le = record {
  no_shorter = omega (arith, le, length-take most b);
  no_longer = omega (arith, length-take most b);
  below =
      take-take (min len (length b)) most b (omega (arith, le))
      ∙ least len b;
}

-- a call may be done whole, or not at all
pub whole_step : (call : Call) (b : List ℕ) → Step call b (done_by call b)
whole_step (Write at bytes) b = whole_is_torn at bytes b
whole_step (Shorten len) b = whole_is_cut len b
whole_step Length b = refl
whole_step (Read at count) b = refl
whole_step Sync b = refl

pub no_step : (call : Call) (b : List ℕ) → Step call b b
no_step (Write at bytes) b = same_is_torn at (length bytes) b
no_step (Shorten len) b = same_is_cut len b
no_step Length b = refl
no_step (Read at count) b = refl
no_step Sync b = refl

-- where the content is an image before a call, it is one after it
content_left : (b : List ℕ) (images : List ℕ → Type 0) (call : Call) (done : Bool) → images b
    → left_by b images call done (if done then done_by call b else b)
content_left b images Sync true is = refl
content_left b images Sync false is = (b, is, refl)
content_left b images Length true is = (b, is, refl)
content_left b images Length false is = (b, is, refl)
content_left b images (Read at count) true is = (b, is, refl)
content_left b images (Read at count) false is = (b, is, refl)
content_left b images (Write at bytes) true is = (b, is, whole_is_torn at bytes b)
content_left b images (Write at bytes) false is = (b, is, same_is_torn at (length bytes) b)
content_left b images (Shorten len) true is = (b, is, whole_is_cut len b)
content_left b images (Shorten len) false is = (b, is, same_is_cut len b)

pub content_is_image : (b : List ℕ) (images : List ℕ → Type 0) (calls : List NotedCall) → images b
    → CrashImageAt b images calls (content_at b calls)
content_is_image b images [] is = is
content_is_image b images (noted ∷ more) is = content_is_image (content_after b noted)
    (images_after b images noted) more (content_left b images noted.call noted.done is)

some_is : {x y : List ℕ} → Some x ≡ Some y → x ≡ y
some_is is = search rules

-- what reads give is one of the images
pub visible_is_image : (disk : DiskState) (b : List ℕ) → visible_content disk ≡ Some b
    → MayLeave disk b
visible_is_image disk b is = subst (MayLeave disk) (some_is is)
    (content_is_image disk.first (λ d. d ≡ disk.first) disk.noted refl)

-- a disk that tells nothing tells no content
pub none_visible : (b : List ℕ) → None ≡ Some b → ⊥
none_visible b is = search rules
