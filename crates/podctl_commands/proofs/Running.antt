-- A run of a follower, read by read, and its end.
use Rattle.std.proofs.Common.{◌≡◌, ◌⊎◌, inl, inr, ℕ, ◌+◌, ◌<◌, ◌≤◌, ◌^◌, ◌==◌, Bool, true, false, Err, List, [], ◌∷◌, ◌++◌, length, length-append, take, Option, Some, None, refl, sym, ap, subst, ◌∙◌, append_assoc, append-nil, arith}
use Rattle.std.specs.Prelude.{IsErrOf}
use Rattle.std.proofs.lemmas.Bool.Decides.{nat_tests}
use Rattle.pod_io.specs.Writing.{ExtendsBy, ExtendsByPart}
use Rattle.pod_io.proofs.Extending.{extends_more, nothing_added}
use Rattle.stored_forms.specs.StoredForms.{number_bytes}
use Rattle.stored_forms.proofs.ReadLaws.{number_length}
use Rattle.pod_follow.specs.Frames.{HasNoFrame, frame_of, frames_of}
use Rattle.pod_io.specs.Counts.{next_count}
use Rattle.pod_pipe.specs.Streams.{AddsReads, AtEnd, Reads}
use Rattle.pod_rows.specs.State.{NumberedPod}
use Rattle.podctl_commands.specs.FollowEnds.{ComesOf, CountsFrames, EndsSo, FollowsInput, IsUnfinished, MeetsFramesEnd}
use Rattle.podctl_commands.specs.Following.{Follows, FollowsAll, IsRefused}
use Rattle.podctl_commands.specs.Steps.{FollowedTo, Leaves, Stopped, end_at, end_of_frames, fault_end}
use Rattle.podctl_commands.specs.declared.follow_end.FollowEnd.{FollowEnd}
use Rattle.podctl_commands.specs.declared.follow_end.FollowEnd.TheVariants as ends
use Rattle.podctl_commands.specs.declared.frame_input.FrameFault.{FrameFault}
use Rattle.podctl_commands.specs.declared.frame_input.FrameFault.TheVariants as faults
use Rattle.podctl_commands.specs.declared.frame_input.Following.{Following}
use Rattle.podctl_commands.proofs.ManyFrames.{followed_join, followed_none, stopped_join}

abbrev pub begun : Following
begun = record { follower = None; frames = 0 }

-- a frame has eight bytes at least
pub frame_some : (body more : List ℕ) → 8 + length more ≤ length (frame_of body ++ more)
frame_some body more = omega (arith, number_length (length body), length-append (number_bytes (length body)) body, length-append (frame_of body) more)

pub nothing_framed : HasNoFrame []
nothing_framed body rest is = absurd (omega (arith, ap length is, frame_some body rest))

pub nothing_unfinished : IsUnfinished []
nothing_unfinished = record { no_frame = nothing_framed; not_too_long = λ never. never }

-- What was read are frames that were taken, and what is kept of the next one.
pub record Running (first last : Option (List ℕ)) (following : Following) (kept : List ℕ) (out out_now : Option (List ℕ)) (count : ℕ) : Type 0 where
  pub read : List ℕ
  pub reads : Reads read first last
  pub followed : FollowedTo begun read kept following out out_now
  pub unfinished : IsUnfinished kept
  pub long : count ≤ length read

-- nothing was read
read_nothing : (first : Option (List ℕ)) → Reads [] first first
read_nothing None = refl
read_nothing (Some bytes) = refl

pub begins : (first out : Option (List ℕ)) → Running first first begun [] out out 0
begins first out = record { read = []; reads = read_nothing first; followed = followed_none begun [] out; unfinished = nothing_unfinished; long = omega arith }

nothing_more : (text : List ℕ) (out out_now : Option (List ℕ)) → ExtendsBy text out out_now → ExtendsBy (text ++ []) out out_now
nothing_more text out out_now w = subst (λ t. ExtendsBy t out out_now) (sym (append-nil text)) w

-- ---- frames that weren't none leave a follower

some_after : (old : Option NumberedPod) (body text : List ℕ) (new : Option NumberedPod) → Follows old body text new → (state : NumberedPod) × (new ≡ Some state)
some_after old body text new (inl s) = (s.state, s.after)
some_after old body text new (inr (inl t)) = (t.next, t.after)
some_after old body text new (inr (inr r)) = (r.state, r.after ∙ r.before)

never_none : (bodies : List (List ℕ)) (state : NumberedPod) (text : List ℕ) → FollowsAll (Some state) bodies text None → ⊥
never_none [] state text (none, same) = let never = same in cc
never_none (body ∷ bodies) state text (mid, first, rest, one, others, is) =
    let some = some_after (Some state) body first mid one in
    never_none bodies some.0 rest (subst (λ (m : Option NumberedPod). FollowsAll m bodies rest None) some.1 others)

no_bodies : (bodies : List (List ℕ)) (text : List ℕ) → FollowsAll None bodies text None → bodies ≡ []
no_bodies [] text follows = refl
no_bodies (body ∷ bodies) text (mid, first, rest, one, others, is) =
    let some = some_after None body first mid one in
    absurd (never_none bodies some.0 rest (subst (λ (m : Option NumberedPod). FollowsAll m bodies rest None) some.1 others))

module _ (first last : Option (List ℕ)) (following : Following) (kept : List ℕ) (out out_now : Option (List ℕ)) (count : ℕ) (r : Running first last following kept out out_now count) where
  -- ---- ends between frames

  -- nothing was written after the responses
  between : (end : FollowEnd) (end_last : Option (List ℕ)) → Reads r.read first end_last → EndsSo r.read r.followed.bodies kept following.follower [] end_last end → FollowsInput end first end_last out out_now
  between end end_last reads so = record {
    read = r.read;
    bodies = r.followed.bodies;
    rest = kept;
    text = r.followed.text;
    state = following.follower;
    part = [];
    reads = reads;
    parts = r.followed.parts;
    follows = r.followed.follows;
    writes = nothing_more r.followed.text out out_now r.followed.written;
    ends = so;
  }

  pub read_fault : (end_last : Option (List ℕ)) → end_last ≡ last → FollowsInput ends.ReadFault first end_last out out_now
  read_fault end_last same = between ends.ReadFault end_last (subst (Reads r.read first) (sym same) r.reads) (r.unfinished, refl)

  pub read_limit : 2 ^ 40 ≤ count → FollowsInput ends.ReadLimit first last out out_now
  read_limit many = between ends.ReadLimit last r.reads (r.unfinished, refl, omega (arith, many, r.long))

  -- the input ended
  module _ (end_last : Option (List ℕ)) (reads : Reads r.read first end_last) (at_end : AtEnd end_last) where
    whole_end : (state : NumberedPod) → following.follower ≡ Some state → kept ≡ [] → FollowsInput (ends.Done state.next) first end_last out out_now
    whole_end state is none = between (ends.Done state.next) end_last reads (record { last = state; state_is = is; next_is = refl; nothing_left = none; at_end = at_end }, refl)

    cut_end : ((kept ≡ [] → ⊥) ⊎ (r.followed.bodies ≡ [])) → FollowsInput (ends.BadFrame following.frames) first end_last out out_now
    cut_end cut = between (ends.BadFrame following.frames) end_last reads (omega (arith, r.followed.frames), refl, inr (inr (record { unfinished = r.unfinished; cut = cut; at_end = at_end })))

    by_state : (state : Option NumberedPod) (whole : Bool) → following.follower ≡ state → (whole ≡ true → kept ≡ []) → (whole ≡ false → kept ≡ [] → ⊥) → FollowsInput (end_of_frames state following.frames whole) first end_last out out_now
    by_state (Some state) true is none some = whole_end state is (none refl)
    by_state (Some state) false is none some = cut_end (inl (some refl))
    by_state None whole is none some = cut_end (inr (no_bodies r.followed.bodies r.followed.text (subst (λ (s : Option NumberedPod). FollowsAll None r.followed.bodies r.followed.text s) is r.followed.follows)))

    pub at_the_end : (whole : Bool) → (whole ≡ true → kept ≡ []) → (whole ≡ false → kept ≡ [] → ⊥) → FollowsInput (end_at following whole) first end_last out out_now
    at_the_end whole none some = by_state following.follower whole refl none some

  -- ---- one piece more

  module _ (piece : List ℕ) (piece_last : Option (List ℕ)) (reads : Reads (r.read ++ piece) first piece_last) (new : Following) (out_new : Option (List ℕ)) where
    pub goes_on : (kept_new : List ℕ) → FollowedTo following (kept ++ piece) kept_new new out_now out_new → IsUnfinished kept_new → 0 < length piece → Running first piece_last new kept_new out out_new (count + 1)
    goes_on kept_new more unfinished some = record {
      read = r.read ++ piece;
      reads = reads;
      followed = followed_join begun following new r.read piece kept kept_new out out_now out_new r.followed more;
      unfinished = unfinished;
      long = omega (arith, r.long, some, length-append r.read piece);
    }

    -- frames were no longer taken, and this was written after the responses
    stopped : (fault : FrameFault) (s : Stopped fault begun (r.read ++ piece) new out out_new) (part : List ℕ) (end : FollowEnd) → ExtendsBy (s.text ++ part) out out_new → EndsSo (r.read ++ piece) s.bodies s.rest s.state part piece_last end → FollowsInput end first piece_last out out_new
    stopped fault s part end writes so = record {
      read = r.read ++ piece;
      bodies = s.bodies;
      rest = s.rest;
      text = s.text;
      state = s.state;
      part = part;
      reads = reads;
      parts = s.parts;
      follows = s.follows;
      writes = writes;
      ends = so;
    }

    ended : (fault : FrameFault) (s : Stopped fault begun (r.read ++ piece) new out out_new) → Leaves fault s.state s.rest s.mid out_new → FollowsInput (fault_end fault new.frames) first piece_last out out_new
    ended faults.Refused s (body, more, whole, refused, same) =
        stopped faults.Refused s [] (fault_end faults.Refused new.frames) (nothing_more s.text out out_new (subst (ExtendsBy s.text out) (sym same) s.written))
        (omega (arith, s.frames), refl, inl (record { body = body; more = more; whole = whole; refused = refused }))
    ended faults.TooLong s (never, same) =
        stopped faults.TooLong s [] (fault_end faults.TooLong new.frames) (nothing_more s.text out out_new (subst (ExtendsBy s.text out) (sym same) s.written)) (omega (arith, s.frames), refl, inr (inl never))
    ended faults.WriteFault s (body, more, whole, text, after, follows, part) =
        stopped faults.WriteFault s (take part.0 text) (fault_end faults.WriteFault new.frames) (extends_more out s.mid out_new s.text (take part.0 text) s.written part.2)
        (inl (record { body = body; more = more; text = text; after = after; whole = whole; follows = follows; count = part.0; less = part.1; part_is = refl }))
    ended faults.NoMemory s same = stopped faults.NoMemory s [] (fault_end faults.NoMemory new.frames) (nothing_more s.text out out_new (subst (ExtendsBy s.text out) (sym same) s.written)) refl

    pub faulted : (fault : FrameFault) → Stopped fault following (kept ++ piece) new out_now out_new → FollowsInput (fault_end fault new.frames) first piece_last out out_new
    faulted fault stop =
        let s = stopped_join fault begun following new r.read piece kept out out_now out_new r.followed stop in
        ended fault s s.leaves

-- ---- the last line

pub told_after : (end told : FollowEnd) (first last out out_now : Option (List ℕ)) → ComesOf end told → FollowsInput end first last out out_now → FollowsInput told first last out out_now
told_after end told first last out out_now (inl same) f = subst (λ (e : FollowEnd). FollowsInput e first last out out_now) (sym same) f
told_after (ends.Done next) told first last out out_now (inr (done, is)) f =
    subst (λ (e : FollowEnd). FollowsInput e first last out out_now) (sym is)
    (record {
      read = f.read;
      bodies = f.bodies;
      rest = f.rest;
      text = f.text;
      state = f.state;
      part = f.part;
      reads = f.reads;
      parts = f.parts;
      follows = f.follows;
      writes = f.writes;
      ends = inr (record { next = next; ends = f.ends.0; nothing_more = f.ends.1 });
    })
told_after (ends.BadFrame frame) told first last out out_now (inr (done, is)) f = absurd done
told_after ends.ReadFault told first last out out_now (inr (done, is)) f = absurd done
told_after ends.WriteFault told first last out out_now (inr (done, is)) f = absurd done
told_after ends.NoMemory told first last out out_now (inr (done, is)) f = absurd done
told_after ends.ReadLimit told first last out out_now (inr (done, is)) f = absurd done

pub counted_after : (end told : FollowEnd) (reads reads_now met met_now : ℕ) → ComesOf end told → CountsFrames end reads reads_now met met_now → CountsFrames told reads reads_now met met_now
counted_after end told reads reads_now met met_now (inl same) c = subst (λ (e : FollowEnd). CountsFrames e reads reads_now met met_now) (sym same) c
counted_after (ends.Done next) told reads reads_now met met_now (inr (done, is)) c =
    subst (λ (e : FollowEnd). CountsFrames e reads reads_now met met_now) (sym is) (record { reads = c.reads; limit = λ e. absurd (let never = e in cc); ends = inr c.ends })
counted_after (ends.BadFrame frame) told reads reads_now met met_now (inr (done, is)) c = absurd done
counted_after ends.ReadFault told reads reads_now met met_now (inr (done, is)) c = absurd done
counted_after ends.WriteFault told reads reads_now met met_now (inr (done, is)) c = absurd done
counted_after ends.NoMemory told reads reads_now met met_now (inr (done, is)) c = absurd done
counted_after ends.ReadLimit told reads reads_now met met_now (inr (done, is)) c = absurd done

-- ---- the ends of a run

-- what holds of a list holds of one that is equal
pub emptiness : (kept seen : List ℕ) (whole : Bool) → seen ≡ kept → whole ≡ (length seen == 0) → whole ≡ (length kept == 0)
emptiness kept seen whole same is = is ∙ ap (λ (xs : List ℕ). length xs == 0) same

pub empty_is : (kept : List ℕ) (whole : Bool) → whole ≡ (length kept == 0) → whole ≡ true → kept ≡ []
empty_is [] whole is e = refl
empty_is (x ∷ xs) whole is e =
    let t : (length (x ∷ xs) == 0) ≡ true = sym is ∙ e in
    let n : length (x ∷ xs) ≡ 0 = grind (arith, nat_tests, t) in
    absurd (omega (arith, n))

pub some_is : (kept : List ℕ) (whole : Bool) → whole ≡ (length kept == 0) → whole ≡ false → kept ≡ [] → ⊥
some_is [] whole is e none = let never : true ≡ false = sym is ∙ e in cc
some_is (x ∷ xs) whole is e none = absurd cc

ends_read : (state : Option NumberedPod) (frames : ℕ) (whole : Bool) → end_of_frames state frames whole ≡ ends.ReadFault → ⊥
ends_read (Some state) frames true e = cc
ends_read (Some state) frames false e = cc
ends_read None frames whole e = cc

ends_write : (state : Option NumberedPod) (frames : ℕ) (whole : Bool) → end_of_frames state frames whole ≡ ends.WriteFault → ⊥
ends_write (Some state) frames true e = cc
ends_write (Some state) frames false e = cc
ends_write None frames whole e = cc

pub never_reads : (following : Following) (whole : Bool) → end_at following whole ≡ ends.ReadFault → ⊥
never_reads following whole e = ends_read following.follower following.frames whole e

pub never_writes_at : (following : Following) (whole : Bool) → end_at following whole ≡ ends.WriteFault → ⊥
never_writes_at following whole e = ends_write following.follower following.frames whole e

pub never_reads_at : (fault : FrameFault) (frames : ℕ) → fault_end fault frames ≡ ends.ReadFault → ⊥
never_reads_at faults.Refused frames e = cc
never_reads_at faults.TooLong frames e = cc
never_reads_at faults.WriteFault frames e = cc
never_reads_at faults.NoMemory frames e = cc

pub write_is : {T : Type 0} (fault : FrameFault) (frames : ℕ) → fault_end fault frames ≡ ends.WriteFault → IsErrOf {T = T} (Err fault) faults.WriteFault
write_is faults.Refused frames e = absurd cc
write_is faults.TooLong frames e = absurd cc
write_is faults.WriteFault frames e = refl
write_is faults.NoMemory frames e = absurd cc

ends_counted : (state : Option NumberedPod) (frames : ℕ) (whole : Bool) (reads reads_now met met_now : ℕ) → AddsReads reads reads_now → met_now ≡ next_count met → CountsFrames (end_of_frames state frames whole) reads reads_now met met_now
ends_counted (Some state) frames true reads reads_now met met_now few is = record { reads = few; limit = λ e. absurd cc; ends = is }
ends_counted (Some state) frames false reads reads_now met met_now few is = record { reads = few; limit = λ e. absurd cc; ends = inr is }
ends_counted None frames whole reads reads_now met met_now few is = record { reads = few; limit = λ e. absurd cc; ends = inr is }

pub counts_at_end : (following : Following) (whole : Bool) (reads reads_now met met_now : ℕ) → AddsReads reads reads_now → met_now ≡ next_count met → CountsFrames (end_at following whole) reads reads_now met met_now
counts_at_end following whole reads reads_now met met_now few is = ends_counted following.follower following.frames whole reads reads_now met met_now few is

pub counts_at_fault : (fault : FrameFault) (frames reads reads_now met met_now : ℕ) → AddsReads reads reads_now → met_now ≡ met → CountsFrames (fault_end fault frames) reads reads_now met met_now
counts_at_fault faults.Refused frames reads reads_now met met_now few is = record { reads = few; limit = λ e. absurd cc; ends = inl is }
counts_at_fault faults.TooLong frames reads reads_now met met_now few is = record { reads = few; limit = λ e. absurd cc; ends = inl is }
counts_at_fault faults.WriteFault frames reads reads_now met met_now few is = record { reads = few; limit = λ e. absurd cc; ends = inl is }
counts_at_fault faults.NoMemory frames reads reads_now met met_now few is = record { reads = few; limit = λ e. absurd cc; ends = is }
