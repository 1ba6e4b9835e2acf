-- Frames that are taken one after the other.
use Rattle.std.proofs.Common.{◌≡◌, inl, inr, ℕ, ◌+◌, ◌-◌, ◌<◌, List, [], ◌∷◌, ◌++◌, length, length-append, drop, Option, Some, None, refl, sym, ap, subst, ◌∙◌, append_assoc, append-nil, arith}
use Rattle.std.proofs.lemmas.List.{drop_at}
use Rattle.std.proofs.lemmas.List.Concat.{flat_map-append}
use Rattle.pod_io.specs.Writing.{ExtendsBy, ExtendsByPart}
use Rattle.pod_io.proofs.Extending.{extends_more, nothing_added}
use Rattle.pod_follow.specs.Frames.{frame_of, frames_of}
use Rattle.pod_rows.specs.State.{NumberedPod}
use Rattle.podctl_commands.specs.FollowEnds.{NeverEnds}
use Rattle.podctl_commands.specs.Following.{Follows, FollowsAll, IsRefused}
use Rattle.podctl_commands.specs.Steps.{FollowedOne, FollowedTo, Leaves, Stopped, StoppedIn}
use Rattle.podctl_commands.specs.declared.frame_input.FrameFault.{FrameFault}
use Rattle.podctl_commands.specs.declared.frame_input.FrameFault.TheVariants as faults
use Rattle.podctl_commands.specs.declared.frame_input.Following.{Following}

pub follows_join : (xs ys : List (List ℕ)) (old mid new : Option NumberedPod) (text more : List ℕ) → FollowsAll old xs text mid → FollowsAll mid ys more new → FollowsAll old (xs ++ ys) (text ++ more) new
follows_join [] ys old mid new text more (none, same) after =
    subst (λ (s : Option NumberedPod). FollowsAll s ys (text ++ more) new) same (subst (λ (t : List ℕ). FollowsAll mid ys (t ++ more) new) (sym none) after)
follows_join (x ∷ xs) ys old mid new text more (next, first, rest, one, others, is) after =
    (next, first, rest ++ more, one, follows_join xs ys next mid new rest more others after, ap (λ t. t ++ more) is ∙ append_assoc first rest more)

pub follows_one : (body : List ℕ) (old new : Option NumberedPod) (text : List ℕ) → Follows old body text new → FollowsAll old (body ∷ []) text new
follows_one body old new text follows = (new, text, [], follows, (refl, refl), sym (append-nil text))

frames_more : (bodies : List (List ℕ)) (body : List ℕ) → frames_of (bodies ++ body ∷ []) ≡ frames_of bodies ++ frame_of body
frames_more bodies body = flat_map-append frame_of bodies (body ∷ []) ∙ ap (λ l. frames_of bodies ++ l) (append-nil (frame_of body))

-- what is left, by its length
pub last_is : (bytes front rest : List ℕ) → bytes ≡ front ++ rest → drop (length bytes - length rest) bytes ≡ rest
last_is bytes front rest is =
    let n : length front ≡ length bytes - length rest = omega (arith, ap length is, length-append front rest) in
    ap (drop (length bytes - length rest)) is ∙ drop_at front rest (length bytes - length rest) n

pub followed_none : (old : Following) (bytes : List ℕ) (out : Option (List ℕ)) → FollowedTo old bytes bytes old out out
followed_none old bytes out = record { bodies = []; text = []; parts = refl; follows = (refl, refl); frames = omega arith; written = nothing_added out }

pub followed_more : (old mid new : Following) (bytes rest body more : List ℕ) (out out_mid out_now : Option (List ℕ)) → FollowedTo old bytes rest mid out out_mid → rest ≡ frame_of body ++ more → FollowedOne mid.follower body new.follower out_mid out_now → new.frames ≡ mid.frames + 1 → FollowedTo old bytes more new out out_now
followed_more old mid new bytes rest body more out out_mid out_now f is one count = record {
  bodies = f.bodies ++ body ∷ [];
  text = f.text ++ one.text;
  parts =
      f.parts ∙ ap (λ r. frames_of f.bodies ++ r) is ∙ sym (append_assoc (frames_of f.bodies) (frame_of body) more)
      ∙ ap (λ l. l ++ more) (sym (frames_more f.bodies body));
  follows = follows_join f.bodies (body ∷ []) old.follower mid.follower new.follower f.text one.text f.follows (follows_one body mid.follower new.follower one.text one.follows);
  frames = omega (arith, f.frames, count, length-append f.bodies (body ∷ []));
  written = extends_more out out_mid out_now f.text one.text f.written one.written;
}

pub followed_join : (old mid new : Following) (bytes piece kept rest : List ℕ) (out out_mid out_now : Option (List ℕ)) → FollowedTo old bytes kept mid out out_mid → FollowedTo mid (kept ++ piece) rest new out_mid out_now → FollowedTo old (bytes ++ piece) rest new out out_now
followed_join old mid new bytes piece kept rest out out_mid out_now f g = record {
  bodies = f.bodies ++ g.bodies;
  text = f.text ++ g.text;
  parts =
      ap (λ l. l ++ piece) f.parts ∙ append_assoc (frames_of f.bodies) kept piece ∙ ap (λ l. frames_of f.bodies ++ l) g.parts
      ∙ sym (append_assoc (frames_of f.bodies) (frames_of g.bodies) rest)
      ∙ ap (λ l. l ++ rest) (sym (flat_map-append frame_of f.bodies g.bodies));
  follows = follows_join f.bodies g.bodies old.follower mid.follower new.follower f.text g.text f.follows g.follows;
  frames = omega (arith, f.frames, g.frames, length-append f.bodies g.bodies);
  written = extends_more out out_mid out_now f.text g.text f.written g.written;
}

-- ---- and then no more

leaves_of : (fault : FrameFault) (state : Option NumberedPod) (rest body more : List ℕ) (out out_now : Option (List ℕ)) → rest ≡ frame_of body ++ more → StoppedIn fault state body out out_now → Leaves fault state rest out out_now
leaves_of faults.Refused state rest body more out out_now is (refused, same) = (body, more, is, refused, same)
leaves_of faults.TooLong state rest body more out out_now is never = absurd never
leaves_of faults.WriteFault state rest body more out out_now is (text, after, follows, part) = (body, more, is, text, after, follows, part)
leaves_of faults.NoMemory state rest body more out out_now is same = same

pub stopped_in : (fault : FrameFault) (old mid new : Following) (bytes rest body more : List ℕ) (out out_mid out_now : Option (List ℕ)) → FollowedTo old bytes rest mid out out_mid → rest ≡ frame_of body ++ more → StoppedIn fault mid.follower body out_mid out_now → new.frames ≡ mid.frames → Stopped fault old bytes new out out_now
stopped_in fault old mid new bytes rest body more out out_mid out_now f is stopped kept = record {
  bodies = f.bodies;
  rest = rest;
  text = f.text;
  state = mid.follower;
  mid = out_mid;
  parts = f.parts;
  follows = f.follows;
  frames = kept ∙ f.frames;
  written = f.written;
  leaves = leaves_of fault mid.follower rest body more out_mid out_now is stopped;
}

-- before a frame that is too long
pub stopped_too_long : (old new : Following) (bytes rest : List ℕ) (out out_now : Option (List ℕ)) → FollowedTo old bytes rest new out out_now → NeverEnds rest → Stopped faults.TooLong old bytes new out out_now
stopped_too_long old new bytes rest out out_now f never = record {
  bodies = f.bodies;
  rest = rest;
  text = f.text;
  state = new.follower;
  mid = out_now;
  parts = f.parts;
  follows = f.follows;
  frames = f.frames;
  written = f.written;
  leaves = (never, refl);
}

-- after frames that came before
pub stopped_join : (fault : FrameFault) (old mid new : Following) (bytes piece kept : List ℕ) (out out_mid out_now : Option (List ℕ)) → FollowedTo old bytes kept mid out out_mid → Stopped fault mid (kept ++ piece) new out_mid out_now → Stopped fault old (bytes ++ piece) new out out_now
stopped_join fault old mid new bytes piece kept out out_mid out_now f s = record {
  bodies = f.bodies ++ s.bodies;
  rest = s.rest;
  text = f.text ++ s.text;
  state = s.state;
  mid = s.mid;
  parts =
      ap (λ l. l ++ piece) f.parts ∙ append_assoc (frames_of f.bodies) kept piece ∙ ap (λ l. frames_of f.bodies ++ l) s.parts
      ∙ sym (append_assoc (frames_of f.bodies) (frames_of s.bodies) s.rest)
      ∙ ap (λ l. l ++ s.rest) (sym (flat_map-append frame_of f.bodies s.bodies));
  follows = follows_join f.bodies s.bodies old.follower mid.follower s.state f.text s.text f.follows s.follows;
  frames = omega (arith, s.frames, f.frames, length-append f.bodies s.bodies);
  written = extends_more out out_mid s.mid f.text s.text f.written s.written;
  leaves = s.leaves;
}
