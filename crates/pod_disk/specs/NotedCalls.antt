-- What a disk in memory keeps, and what its content and its images are by the record of its calls.
use Rattle.std.specs.Prelude.{◌≡◌, ◌⊎◌, ◌≤◌, if◌then◌else◌, ◌&&◌, ℕ, Bool, true, false, List, []}
use Rattle.std.specs.Prelude.{◌∷◌, ◌++◌, length, take, Option, Some, Result, IsErr, OnOk, OnErr}
use Rattle.pod_io.specs.Memory.{Script, NextFails, IsNextCall}
use Rattle.pod_disk.specs.Disk.{overwritten, Torn, TornCut, Unchanged}
use Rattle.pod_disk.specs.declared.call.Call.{Call}
use Rattle.pod_disk.specs.declared.call.NotedCall.{NotedCall}
use Rattle.pod_disk.specs.declared.call.Call.TheVariants.{Length, Read, Write, Cut as Shorten, Sync}

-- the bytes that it held at first, all of them durable, the calls that it has noted, and how many
-- it was asked to make, which are to fail and how many failed
pub record DiskState : Type 0 where
  pub first : List ℕ
  pub noted : List NotedCall
  pub calls : Script

-- a call as it is noted
abbrev pub noted_as : Call → Bool → NotedCall
noted_as call done = record { call = call; done = done }

-- what reads give after a call that succeeded
abbrev pub done_by : Call → List ℕ → List ℕ
done_by (Write at bytes) content = overwritten at bytes content
done_by (Shorten len) content = take len content
done_by Length content = content
done_by (Read at count) content = content
done_by Sync content = content

-- what reads give after a call; one that failed leaves it
abbrev pub content_after : List ℕ → NotedCall → List ℕ
content_after content noted = if noted.done then done_by noted.call content else content

-- what a call may make of an image, whether it succeeds or not
abbrev pub Step : Call → List ℕ → List ℕ → Type 0
Step (Write at bytes) = Torn at (length bytes)
Step (Shorten len) = TornCut len
Step Length = Unchanged
Step (Read at count) = Unchanged
Step Sync = Unchanged

-- What a crash may leave after a call, by the content and the images before it. Only a sync that
-- succeeds takes images away, all but the content.
abbrev pub left_by : List ℕ → (List ℕ → Type 0) → Call → Bool → List ℕ → Type 0
left_by content images Sync true c = c ≡ content
left_by content images call done c = (d : List ℕ) × images d × Step call d c

abbrev pub images_after : List ℕ → (List ℕ → Type 0) → NotedCall → List ℕ → Type 0
images_after content images noted = left_by content images noted.call noted.done

-- whether a call is a sync that succeeded
abbrev pub is_sync : Call → Bool
is_sync Sync = true
is_sync Length = false
is_sync (Read at count) = false
is_sync (Write at bytes) = false
is_sync (Shorten len) = false

abbrev pub synced : NotedCall → Bool
synced noted = noted.done && is_sync noted.call

-- what reads give after these calls, the first of them first
abbrev pub content_at : List ℕ → List NotedCall → List ℕ
content_at content [] = content
content_at content (noted ∷ more) = content_at (content_after content noted) more

-- what a crash may leave after these calls
abbrev pub CrashImageAt : List ℕ → (List ℕ → Type 0) → List NotedCall → List ℕ → Type 0
CrashImageAt content images [] c = images c
CrashImageAt content images (noted ∷ more) c = CrashImageAt (content_after content noted)
    (images_after content images noted) more c

-- what a crash may leave after these calls on a disk that held these bytes, all of them durable
abbrev pub IsCrashImage : List ℕ → List NotedCall → List ℕ → Type 0
IsCrashImage first calls c = CrashImageAt first (λ d. d ≡ first) calls c

-- what a crash may have left after that many of the calls or later
abbrev pub WasCrashImage : List ℕ → List NotedCall → ℕ → List ℕ → Type 0
WasCrashImage first calls t c = (k : ℕ) × (t ≤ k) × (k ≤ length calls)
    × IsCrashImage first (take k calls) c

-- The same of a disk in memory: what reads give, what a crash may leave now, the moment, which is
-- the number of its calls, and what a crash may have left since an earlier moment.
abbrev pub content_of : DiskState → List ℕ
content_of disk = content_at disk.first disk.noted

abbrev pub visible_content : DiskState → Option (List ℕ)
visible_content disk = Some (content_of disk)

abbrev pub MayLeave : DiskState → List ℕ → Type 0
MayLeave disk = IsCrashImage disk.first disk.noted

abbrev pub moment_of : DiskState → ℕ
moment_of disk = length disk.noted

abbrev pub LeftSince : DiskState → ℕ → List ℕ → Type 0
LeftSince disk = WasCrashImage disk.first disk.noted

-- A disk in memory makes a call: it is the next one, and fails where it is to fail. It is noted
-- where it succeeds. One that fails may be noted too, as a call that failed.
pub record MakesCall {T E : Type 0} (call : Call) (result : Result T E)
    (old new : DiskState) : Type 0 where
  pub first : new.first ≡ old.first
  pub calls : IsNextCall result old.calls new.calls
  pub listed : NextFails old.calls → IsErr result
  pub done : OnOk result (new.noted ≡ old.noted ++ noted_as call true ∷ [])
  pub failed : OnErr result ((new.noted ≡ old.noted ++ noted_as call false ∷ [])
      ⊎ (new.noted ≡ old.noted))

-- after a sync that succeeded a crash leaves what reads give
abbrev pub LeavesContent : Call → DiskState → Type 0
LeavesContent Sync disk = (c : List ℕ) → MayLeave disk c → visible_content disk ≡ Some c
LeavesContent Length disk = Unit {0}
LeavesContent (Read at count) disk = Unit {0}
LeavesContent (Write at bytes) disk = Unit {0}
LeavesContent (Shorten len) disk = Unit {0}
