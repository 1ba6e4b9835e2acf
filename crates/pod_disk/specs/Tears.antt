-- What a crash leaves of the calls of a disk in memory, byte for byte, by their tears.
use Rattle.std.specs.Prelude.{◌-◌, if◌then◌else◌, ℕ, max, List, [], ◌∷◌, ◌++◌, length, take}
use Rattle.std.specs.Prelude.{Option, Some, None, replicate}
use Rattle.pod_disk.specs.Disk.{overwritten}
use Rattle.pod_disk.specs.NotedCalls.{content_after, synced}
use Rattle.pod_disk.specs.declared.call.Call.{Call}
use Rattle.pod_disk.specs.declared.call.NotedCall.{NotedCall}
use Rattle.pod_disk.specs.declared.call.Call.TheVariants.{Length, Read, Write, Cut as Shorten, Sync}
use Rattle.pod_disk.specs.declared.torn_call.Tear.{Tear}
use Rattle.pod_disk.specs.declared.torn_call.Tear.TheVariants.{Prefix, Filled}

-- the file, with this byte at each place from its end up to that length
abbrev pub lengthened : ℕ → ℕ → List ℕ → List ℕ
lengthened len byte file = file ++ replicate (len - length file) byte

-- What a whole write of these bytes at that place leaves. Without a byte nothing changes. Else what
-- lies between the file's end and the place becomes 0.
abbrev pub written_at : ℕ → List ℕ → List ℕ → List ℕ
written_at at [] file = file
written_at at (byte ∷ more) file = overwritten at (byte ∷ more) (lengthened at 0 file)

-- what is left of a write: all of it where it has no tear, its first bytes, or one byte all over
abbrev pub torn_write : ℕ → List ℕ → Option Tear → List ℕ → List ℕ
torn_write at bytes None old = written_at at bytes old
torn_write at bytes (Some (Prefix count)) old = written_at at (take count bytes) old
torn_write at bytes (Some (Filled byte)) old = written_at at (replicate (length bytes) byte) old

-- what is left of a cut: all of it where it has no tear, the last so many bytes cut off and no
-- more, or none, with one byte at each place past the length
abbrev pub torn_cut : ℕ → Option Tear → List ℕ → List ℕ
torn_cut len None old = take len old
torn_cut len (Some (Prefix count)) old = take (max len (length old - count)) old
torn_cut len (Some (Filled byte)) old = lengthened (length old) byte (take len old)

-- what the call leaves of an image, by its tear; only a write and a cut change it
abbrev pub torn_by : Call → Option Tear → List ℕ → List ℕ
torn_by (Write at bytes) tear image = torn_write at bytes tear image
torn_by (Shorten len) tear image = torn_cut len tear image
torn_by Length tear image = image
torn_by (Read at count) tear image = image
torn_by Sync tear image = image

-- the tear of the next write or cut, if there is one
abbrev pub first_of : List Tear → Option Tear
first_of [] = None
first_of (tear ∷ later) = Some tear

-- the tears after the first one was used up; the last one goes on
abbrev pub used_up : List Tear → List Tear
used_up [] = []
used_up (tear ∷ []) = tear ∷ []
used_up (tear ∷ (second ∷ later)) = second ∷ later

-- the tears after the call; a write and a cut use one up
abbrev pub tears_left : Call → List Tear → List Tear
tears_left (Write at bytes) tears = used_up tears
tears_left (Shorten len) tears = used_up tears
tears_left Length tears = tears
tears_left (Read at count) tears = tears
tears_left Sync tears = tears

-- the image after a noted call, done or failed: a sync that succeeded leaves the content
abbrev pub image_torn : List ℕ → List ℕ → NotedCall → Option Tear → List ℕ
image_torn content image noted tear = if synced noted then content else torn_by noted.call tear image

-- the tears after a noted call: after a sync that succeeded they begin anew
abbrev pub tears_after : List Tear → NotedCall → List Tear → List Tear
tears_after all noted tears = if synced noted then all else tears_left noted.call tears

-- What a crash leaves after these calls, by all tears, and by the content, the image and the tears
-- that are left before them.
abbrev pub left_torn : List Tear → List ℕ → List ℕ → List NotedCall → List Tear → List ℕ
left_torn all content image [] tears = image
left_torn all content image (noted ∷ more) tears = left_torn all (content_after content noted)
    (image_torn content image noted (first_of tears)) more (tears_after all noted tears)

-- What a crash leaves after these calls on a disk that held these bytes, all of them durable. The
-- tears are those of the writes and cuts since the last sync that succeeded.
abbrev pub crash_of : List ℕ → List NotedCall → List Tear → List ℕ
crash_of first calls tears = left_torn tears first first calls tears
