-- What one more call makes of the content and the images of a disk in memory.
use Rattle.std.proofs.Common.{◌≡◌, ◌⊎◌, inl, inr, ⊎_elim, ℕ, ◌+◌, ◌≤◌, Bool, true, false, List, [], ◌∷◌, ◌++◌, length, take, Some, Result, Ok, Err, OnOk, OnErr, refl, sym, ◌∙◌, ap, subst, arith, length-append}
use Rattle.std.proofs.lemmas.List.{take_all, take-append-le}
use Rattle.std.proofs.lemmas.Bool.{cases_lt}
use Rattle.pod_disk.specs.Disk.{Passes}
use Rattle.pod_disk.specs.NotedCalls.{DiskState, noted_as, done_by, content_after, Step, left_by, images_after, content_at, content_of, visible_content, CrashImageAt, IsCrashImage, MayLeave, moment_of, LeftSince, MakesCall, LeavesContent}
use Rattle.pod_disk.specs.Laws.{no_step, content_is_image}
use Rattle.pod_disk.specs.declared.call.Call.{Call}
use Rattle.pod_disk.specs.declared.call.NotedCall.{NotedCall}
use Rattle.pod_disk.specs.declared.call.Call.TheVariants.{Length, Read, Write, Cut as Shorten, Sync}

-- one more call behind the others
content_push : (b : List ℕ) (calls : List NotedCall) (noted : NotedCall) → content_at b (calls ++ noted ∷ []) ≡ content_after (content_at b calls) noted
content_push b [] noted = refl
content_push b (first ∷ calls) noted = content_push (content_after b first) calls noted

pub replay_done : (b : List ℕ) (calls later : List NotedCall) (call : Call) → later ≡ calls ++ noted_as call true ∷ [] → content_at b later ≡ done_by call (content_at b calls)
replay_done b calls later call is = ap (content_at b) is ∙ content_push b calls (noted_as call true)

pub replay_failed : (b : List ℕ) (calls later : List NotedCall) (call : Call) → (later ≡ calls ++ noted_as call false ∷ []) ⊎ (later ≡ calls) → content_at b later ≡ content_at b calls
replay_failed b calls later call (inl added) = ap (content_at b) added ∙ content_push b calls (noted_as call false)
replay_failed b calls later call (inr kept) = ap (content_at b) kept

image_push : (b : List ℕ) (images : List ℕ → Type 0) (calls : List NotedCall) (noted : NotedCall) (c : List ℕ) → CrashImageAt b images (calls ++ noted ∷ []) c → images_after (content_at b calls) (CrashImageAt b images calls) noted c
image_push b images [] noted c image = image
image_push b images (first ∷ calls) noted c image = image_push (content_after b first) (images_after b images first) calls noted c image

-- each image after a call is one before it, after a step of that call
left_steps : (b : List ℕ) (images : List ℕ → Type 0) (call : Call) (done : Bool) (c : List ℕ) → images b → left_by b images call done c → (d : List ℕ) × images d × Step call d c
left_steps b images Sync true c is left = (b, is, sym left)
left_steps b images Sync false c is left = left
left_steps b images Length done c is left = left
left_steps b images (Read at count) done c is left = left
left_steps b images (Write at bytes) done c is left = left
left_steps b images (Shorten len) done c is left = left

module _ (old new : DiskState) where
  -- the calls of new are those of old and one more
  abbrev pub Adds : Call → Bool → Type 0
  Adds call done = new.noted ≡ old.noted ++ noted_as call done ∷ []

  pub content_added : (call : Call) (done : Bool) → new.first ≡ old.first → Adds call done → content_of new ≡ content_after (content_of old) (noted_as call done)
  content_added call done first is =
      ap (λ (b : List ℕ). content_at b new.noted) first ∙ ap (content_at old.first) is ∙ content_push old.first old.noted (noted_as call done)

  image_added : (call : Call) (done : Bool) (c : List ℕ) → new.first ≡ old.first → Adds call done → MayLeave new c → left_by (content_of old) (MayLeave old) call done c
  image_added call done c first is image =
      image_push old.first (λ d. d ≡ old.first) old.noted (noted_as call done) c (subst (λ (l : List NotedCall). IsCrashImage old.first l c) is (subst (λ (b : List ℕ). IsCrashImage b new.noted c) first image))

  pub passes_added : (call : Call) (done : Bool) → new.first ≡ old.first → Adds call done → Passes MayLeave moment_of LeftSince (Step call) old new
  passes_added call done first is =
      let size : length new.noted ≡ length old.noted + 1 = ap length is ∙ length-append old.noted (noted_as call done ∷ []) in
      record {
        images = λ c image. left_steps (content_of old) (MayLeave old) call done c (content_is_image old.first (λ d. d ≡ old.first) old.noted refl) (image_added call done c first is image);
        later = omega (arith, size);
        nothing_else = λ t c le was. ⊎_elim
            (λ now. inr (subst (λ (l : List NotedCall). IsCrashImage new.first l c) (take_all was.0 new.noted (omega (arith, now, size))) was.3))
            (λ before. inl (was.0, was.1, before, earlier was.0 c before was.3))
            (cases_lt (length old.noted) was.0);
        keeps = λ t c le was. (was.0, was.1, omega (arith, was.2, size), later was.0 c was.2 was.3);
      }
    where
      front : (k : ℕ) → k ≤ length old.noted → take k new.noted ≡ take k old.noted
      front k le = ap (λ (l : List NotedCall). take k l) is ∙ take-append-le k old.noted (noted_as call done ∷ []) le

      earlier : (k : ℕ) (c : List ℕ) → k ≤ length old.noted → IsCrashImage new.first (take k new.noted) c → IsCrashImage old.first (take k old.noted) c
      earlier k c le image = subst (λ (b : List ℕ). IsCrashImage b (take k old.noted) c) first (subst (λ (l : List NotedCall). IsCrashImage new.first l c) (front k le) image)

      later : (k : ℕ) (c : List ℕ) → k ≤ length old.noted → IsCrashImage old.first (take k old.noted) c → IsCrashImage new.first (take k new.noted) c
      later k c le image = subst (λ (l : List NotedCall). IsCrashImage new.first l c) (sym (front k le)) (subst (λ (b : List ℕ). IsCrashImage b (take k old.noted) c) (sym first) image)

  -- a call that is not noted
  pub passes_kept : (call : Call) → new.first ≡ old.first → new.noted ≡ old.noted → Passes MayLeave moment_of LeftSince (Step call) old new
  passes_kept call first is = record {
    images = λ c image. (c, same c new.noted old.noted first is image, no_step call c);
    later = omega (arith, ap length is);
    nothing_else = λ t c le was. inl (was.0, was.1, omega (arith, was.2, ap length is), same c (take was.0 new.noted) (take was.0 old.noted) first (ap (λ (l : List NotedCall). take was.0 l) is) was.3);
    keeps = λ t c le was. (was.0, was.1, omega (arith, was.2, ap length is), back c (take was.0 old.noted) (take was.0 new.noted) first (ap (λ (l : List NotedCall). take was.0 l) (sym is)) was.3);
  }
    where
      same : (c : List ℕ) (l m : List NotedCall) → new.first ≡ old.first → l ≡ m → IsCrashImage new.first l c → IsCrashImage old.first m c
      same c l m f e image = subst (λ (b : List ℕ). IsCrashImage b m c) f (subst (λ (k : List NotedCall). IsCrashImage new.first k c) e image)

      back : (c : List ℕ) (l m : List NotedCall) → new.first ≡ old.first → l ≡ m → IsCrashImage old.first l c → IsCrashImage new.first m c
      back c l m f e image = subst (λ (b : List ℕ). IsCrashImage b m c) (sym f) (subst (λ (k : List NotedCall). IsCrashImage old.first k c) e image)

  -- one that failed: it may be noted or not
  abbrev pub Misses : Call → Type 0
  Misses call = Adds call false ⊎ (new.noted ≡ old.noted)

  pub passes_failed : (call : Call) → new.first ≡ old.first → Misses call → Passes MayLeave moment_of LeftSince (Step call) old new
  passes_failed call first (inl added) = passes_added call false first added
  passes_failed call first (inr kept) = passes_kept call first kept

  pub content_failed : (call : Call) → new.first ≡ old.first → Misses call → content_of new ≡ content_of old
  content_failed call first (inl added) = content_added call false first added
  content_failed call first (inr kept) = ap (λ (b : List ℕ). content_at b new.noted) first ∙ ap (content_at old.first) kept

  -- after a sync that succeeded the content is the only image
  durable_after : new.first ≡ old.first → Adds Sync true → (c : List ℕ) → MayLeave new c → visible_content new ≡ Some c
  durable_after first is c image = ap Some (content_added Sync true first is ∙ sym (image_added Sync true c first is image))

  settles : (call : Call) → new.first ≡ old.first → Adds call true → LeavesContent call new
  settles Sync first is = durable_after first is
  settles Length first is = tt
  settles (Read at count) first is = tt
  settles (Write at bytes) first is = tt
  settles (Shorten len) first is = tt

  module _ {T E : Type 0} (call : Call) where
    pub passes_made : (result : Result T E) → MakesCall call result old new → Passes MayLeave moment_of LeftSince (Step call) old new
    passes_made (Ok x) makes = passes_added call true makes.first makes.done
    passes_made (Err e) makes = passes_failed call makes.first makes.failed

    pub content_made : (result : Result T E) → MakesCall call result old new → OnOk result (content_of new ≡ done_by call (content_of old))
    content_made (Ok x) makes = content_added call true makes.first makes.done
    content_made (Err e) makes = tt

    pub content_missed : (result : Result T E) → MakesCall call result old new → OnErr result (content_of new ≡ content_of old)
    content_missed (Ok x) makes = tt
    content_missed (Err e) makes = content_failed call makes.first makes.failed

    pub settles_made : (result : Result T E) → MakesCall call result old new → OnOk result (LeavesContent call new)
    settles_made (Ok x) makes = settles call makes.first makes.done
    settles_made (Err e) makes = tt
