-- What the tears of a crash make of the calls of a disk in memory: it is one of the crash images,
-- and of what came before a sync that succeeded only the content matters.
use Rattle.std.proofs.Common.{◌≡◌, ◌&&◌, ◌+◌, ◌-◌, ◌<◌, ◌≤◌, ⊎_elim, ℕ, Bool, true, false, min, max, Option, Some, None, List, [], ◌∷◌, ◌++◌, length, take, drop, get_or, replicate, refl, sym, ◌∙◌, ap, subst, rules, arith, if◌then◌else◌, length-append, take-append-drop}
use Rattle.std.proofs.lemmas.List.{drop_more, take_more, take_all, drop_all, take_at, take-take, drop-drop, length-take, length-replicate, append-nil}
use Rattle.std.proofs.lemmas.Bool.{cases_lt}
use Rattle.pod_disk.specs.Disk.{Torn, TornCut, overwritten}
use Rattle.pod_disk.specs.NotedCalls.{Step, left_by, is_sync, synced, done_by, content_after, images_after, content_at, CrashImageAt, IsCrashImage}
use Rattle.pod_disk.specs.Tears.{lengthened, written_at, torn_write, torn_cut, torn_by, first_of, image_torn, tears_left, tears_after, left_torn, crash_of}
use Rattle.pod_disk.specs.Laws.{whole_is_torn, same_is_torn, whole_is_cut, between_is_cut}
use Rattle.pod_disk.specs.declared.call.Call.{Call}
use Rattle.pod_disk.specs.declared.call.NotedCall.{NotedCall}
use Rattle.pod_disk.specs.declared.call.Call.TheVariants.{Length, Read, Write, Cut as Shorten, Sync}
use Rattle.pod_disk.specs.declared.torn_call.Tear.{Tear}
use Rattle.pod_disk.specs.declared.torn_call.Tear.TheVariants.{Prefix, Filled}

never : {A : Type 0} → false ≡ true → A
never is = absurd (search rules)

-- a longer range may be torn where a shorter one is
wider : (at n count : ℕ) (old new : List ℕ) → n ≤ count → Torn at n old new → Torn at count old new
wider at n count old new le torn =
    let same : at + n + (count - n) ≡ at + count = omega (arith, le) in
    record {
      before = torn.before;
      behind = ap (λ (k : ℕ). drop k new) (sym same) ∙ sym (drop-drop (count - n) (at + n) new) ∙ ap (λ (l : List ℕ). drop (count - n) l) torn.behind ∙ drop-drop (count - n) (at + n) old ∙ ap (λ (k : ℕ). drop k old) same;
      no_shorter = torn.no_shorter;
      no_longer = omega (arith, le, torn.no_longer);
    }

-- a file that is long enough stays
pub enough : (len byte : ℕ) (file : List ℕ) → len ≤ length file → lengthened len byte file ≡ file
enough len byte file le = ap (λ (n : ℕ). file ++ replicate n byte) {x = len - length file} {y = 0} (omega (arith, le)) ∙ append-nil file

length-lengthened : (len byte : ℕ) (file : List ℕ) → length (lengthened len byte file) ≡ max (length file) len
length-lengthened len byte file = omega (arith, length-append file (replicate (len - length file) byte), length-replicate (len - length file) byte)

-- what lies between the file's end and the write may be torn too
gap_torn : (at n : ℕ) (old new : List ℕ) → Torn at n (lengthened at 0 old) new → Torn at n old new
gap_torn at n old new torn = ⊎_elim outside inside (cases_lt (length old) at)
  where
    inside : at ≤ length old → Torn at n old new
    inside le = subst (λ (l : List ℕ). Torn at n l new) (enough at 0 old le) torn

    outside : length old < at → Torn at n old new
    outside lt =
        let longer = lengthened at 0 old in
        let size : length longer ≡ max (length old) at = length-lengthened at 0 old in
        let front : take at new ≡ take at longer = ap (λ (k : ℕ). take k new) {x = at} {y = min at (length longer)} (omega (arith, lt, size)) ∙ torn.before in
        record {
          before =
              ap (λ (k : ℕ). take k new) {x = min at (length old)} {y = length old} (omega (arith, lt))
              ∙ sym (take-take (length old) at new (omega (arith, lt)))
              ∙ ap (λ (l : List ℕ). take (length old) l) front
              ∙ take-take (length old) at longer (omega (arith, lt))
              ∙ take_at old (replicate (at - length old) 0) (length old) refl
              ∙ sym (take_all at old (omega (arith, lt)));
          behind = torn.behind ∙ drop_all (at + n) longer (omega (arith, lt, size)) ∙ sym (drop_all (at + n) old (omega (arith, lt)));
          no_shorter = omega (arith, size, torn.no_shorter);
          no_longer = omega (arith, lt, size, torn.no_longer);
        }

written_torn : (at count : ℕ) (bytes old : List ℕ) → length bytes ≤ count → Torn at count old (written_at at bytes old)
written_torn at count [] old le = same_is_torn at count old
written_torn at count (byte ∷ more) old le =
    let bytes = byte ∷ more in
    let longer = lengthened at 0 old in
    wider at (length bytes) count old (overwritten at bytes longer) le (gap_torn at (length bytes) old (overwritten at bytes longer) (whole_is_torn at bytes longer))

write_torn : (at : ℕ) (bytes : List ℕ) (tear : Option Tear) (old : List ℕ) → Torn at (length bytes) old (torn_write at bytes tear old)
write_torn at bytes None old = written_torn at (length bytes) bytes old (omega arith)
write_torn at bytes (Some (Prefix count)) old = written_torn at (length bytes) (take count bytes) old (omega (arith, length-take count bytes))
write_torn at bytes (Some (Filled byte)) old = written_torn at (length bytes) (replicate (length bytes) byte) old (omega (arith, length-replicate (length bytes) byte))

cut_torn : (len : ℕ) (tear : Option Tear) (old : List ℕ) → TornCut len old (torn_cut len tear old)
cut_torn len None old = whole_is_cut len old
cut_torn len (Some (Prefix count)) old = between_is_cut len (max len (length old - count)) old (omega arith)
cut_torn len (Some (Filled byte)) old =
    let size : length (lengthened (length old) byte (take len old)) ≡ length old = omega (arith, length-lengthened (length old) byte (take len old), length-take len old) in
    record {
      no_shorter = omega (arith, size);
      no_longer = omega (arith, size);
      below = take_at (take len old) (replicate (length old - length (take len old)) byte) (min len (length old)) (length-take len old);
    }

-- what a tear leaves of a call is what the call may make of an image
torn_step : (call : Call) (tear : Option Tear) (image : List ℕ) → Step call image (torn_by call tear image)
torn_step (Write at bytes) tear image = write_torn at bytes tear image
torn_step (Shorten len) tear image = cut_torn len tear image
torn_step Length tear image = refl
torn_step (Read at count) tear image = refl
torn_step Sync tear image = refl

torn_left : (content image : List ℕ) (images : List ℕ → Type 0) (call : Call) (done : Bool) (tear : Option Tear) → images image
    → left_by content images call done (if done && is_sync call then content else torn_by call tear image)
torn_left content image images Sync true tear is = refl
torn_left content image images Sync false tear is = (image, is, refl)
torn_left content image images Length true tear is = (image, is, refl)
torn_left content image images Length false tear is = (image, is, refl)
torn_left content image images (Read at count) true tear is = (image, is, refl)
torn_left content image images (Read at count) false tear is = (image, is, refl)
torn_left content image images (Write at bytes) true tear is = (image, is, write_torn at bytes tear image)
torn_left content image images (Write at bytes) false tear is = (image, is, write_torn at bytes tear image)
torn_left content image images (Shorten len) true tear is = (image, is, cut_torn len tear image)
torn_left content image images (Shorten len) false tear is = (image, is, cut_torn len tear image)

-- what the tears leave is a crash image
torn_is_image : (all : List Tear) (content image : List ℕ) (images : List ℕ → Type 0) (calls : List NotedCall) (tears : List Tear) → images image
    → CrashImageAt content images calls (left_torn all content image calls tears)
torn_is_image all content image images [] tears is = is
torn_is_image all content image images (noted ∷ more) tears is =
    torn_is_image all (content_after content noted) (image_torn content image noted (first_of tears)) (images_after content images noted) more (tears_after all noted tears)
    (torn_left content image images noted.call noted.done (first_of tears) is)

pub crash_is_image : (first : List ℕ) (calls : List NotedCall) (tears : List Tear) → IsCrashImage first calls (crash_of first calls tears)
crash_is_image first calls tears = torn_is_image tears first first (λ d. d ≡ first) calls tears refl

-- the calls from one of them on
from_item : (calls : List NotedCall) (i : ℕ) (noted : NotedCall) → i < length calls → noted ≡ get_or calls i noted → drop i calls ≡ noted ∷ drop (i + 1) calls
from_item calls i noted lt is = drop_more calls i noted lt ∙ ap (λ (n : NotedCall). n ∷ drop (i + 1) calls) (sym is)

-- one call of the walk
pub walked : (all : List Tear) (content image after next : List ℕ) (calls : List NotedCall) (i : ℕ) (noted : NotedCall) (tears later : List Tear)
    → i < length calls → noted ≡ get_or calls i noted
    → after ≡ content_after content noted → next ≡ image_torn content image noted (first_of tears) → later ≡ tears_after all noted tears
    → left_torn all after next (drop (i + 1) calls) later ≡ left_torn all content image (drop i calls) tears
walked all content image after next calls i noted tears later lt is follows left behind =
    let rest = drop (i + 1) calls in
    ap (λ (b : List ℕ). left_torn all b next rest later) follows
    ∙ ap (λ (d : List ℕ). left_torn all (content_after content noted) d rest later) left
    ∙ ap (λ (t : List Tear). left_torn all (content_after content noted) (image_torn content image noted (first_of tears)) rest t) behind
    ∙ ap (λ (l : List NotedCall). left_torn all content image l tears) (sym (from_item calls i noted lt is))

-- a sync leaves the content
sync_keeps : (content : List ℕ) (call : Call) (done : Bool) → done && is_sync call ≡ true → (if done then done_by call content else content) ≡ content
sync_keeps content Sync true is = refl
sync_keeps content Sync false is = never is
sync_keeps content Length true is = never is
sync_keeps content Length false is = never is
sync_keeps content (Read at count) true is = never is
sync_keeps content (Read at count) false is = never is
sync_keeps content (Write at bytes) true is = never is
sync_keeps content (Write at bytes) false is = never is
sync_keeps content (Shorten len) true is = never is
sync_keeps content (Shorten len) false is = never is

-- after a sync that succeeded the walk goes on from the content, with all tears
anew : (all : List Tear) (content image : List ℕ) (calls : List NotedCall) (noted : NotedCall) (more : List NotedCall) (tears : List Tear) → synced noted ≡ true
    → left_torn all content image (calls ++ (noted ∷ more)) tears ≡ left_torn all (content_at content (calls ++ (noted ∷ []))) (content_at content (calls ++ (noted ∷ []))) more all
anew all content image [] noted more tears is =
    let after = content_after content noted in
    let torn = torn_by noted.call (first_of tears) image in
    let left : image_torn content image noted (first_of tears) ≡ after =
    ap (λ (b : Bool). if b then content else torn) is ∙ sym (sync_keeps content noted.call noted.done is) in
    ap (λ (d : List ℕ). left_torn all after d more (tears_after all noted tears)) left
    ∙ ap (λ (t : List Tear). left_torn all after after more t) (ap (λ (b : Bool). if b then all else tears_left noted.call tears) is)
anew all content image (first ∷ calls) noted more tears is =
    anew all (content_after content first) (image_torn content image first (first_of tears)) calls noted more (tears_after all first tears) is

-- of the calls up to a sync that succeeded only the content matters
pub skipped_to : (first : List ℕ) (all : List Tear) (calls : List NotedCall) (i : ℕ) (noted : NotedCall) → i < length calls → noted ≡ get_or calls i noted → synced noted ≡ true
    → crash_of first calls all ≡ left_torn all (content_at first (take (i + 1) calls)) (content_at first (take (i + 1) calls)) (drop (i + 1) calls) all
skipped_to first all calls i noted lt is sync =
    let rest = drop (i + 1) calls in
    let whole : calls ≡ take i calls ++ (noted ∷ rest) = sym (take-append-drop i calls) ∙ ap (λ (l : List NotedCall). take i calls ++ l) (from_item calls i noted lt is) in
    let taken : take (i + 1) calls ≡ take i calls ++ (noted ∷ []) = take_more calls i noted lt ∙ ap (λ (n : NotedCall). take i calls ++ (n ∷ [])) (sym is) in
    ap (λ (l : List NotedCall). left_torn all first first l all) whole
    ∙ anew all first first (take i calls) noted rest all sync
    ∙ ap (λ (p : List NotedCall). left_torn all (content_at first p) (content_at first p) rest all) (sym taken)
