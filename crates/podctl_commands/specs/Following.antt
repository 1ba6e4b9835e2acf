-- What a follower makes of frames, and what it writes.
use Rattle.std.specs.Prelude.{◌≡◌, ◌⊎◌, ℕ, List, [], ◌∷◌, ◌++◌, Option, Some}
use Rattle.pod_follow.specs.Followed.{IsStart, Takes}
use Rattle.pod_follow.specs.declared.follower.Took.{Took}
use Rattle.pod_follow.specs.declared.follower.Took.TheVariants as took
use Rattle.pod_rows.specs.State.{NumberedPod}
use Rattle.podctl_commands.specs.Reads.{IsReadText}

-- an entry that was applied, or that isn't the next one
abbrev pub IsPassedEntry : Took → Type 0
IsPassedEntry took.Applied = Unit {0}
IsPassedEntry (took.Old seq next) = Unit {0}
IsPassedEntry (took.Ahead seq next) = Unit {0}
IsPassedEntry (took.Unfit seq) = ⊥
IsPassedEntry took.NotEntry = ⊥

module _ (old : Option NumberedPod) (body text : List ℕ) (new : Option NumberedPod) where
  -- The body is a snapshot, with which the follower starts, or starts anew. Nothing is written.
  pub record Starts : Type 0 where
    pub state : NumberedPod
    pub is : IsStart body state
    pub after : new ≡ Some state
    pub silent : text ≡ []

  -- It is an entry, which is applied where it is the next one, and passed over where it isn't.
  pub record TakesOne : Type 0 where
    pub state : NumberedPod
    pub next : NumberedPod
    pub took : Took
    pub before : old ≡ Some state
    pub takes : Takes state body next took
    pub passed : IsPassedEntry took
    pub after : new ≡ Some next
    pub silent : text ≡ []

  -- It is a read, and the response to it is written.
  pub record Answers : Type 0 where
    pub state : NumberedPod
    pub before : old ≡ Some state
    pub answers : IsReadText state body text
    pub after : new ≡ old

  -- What is made of the body of a frame, and what is written.
  abbrev pub Follows : Type 0
  Follows = Starts ⊎ (TakesOne ⊎ Answers)

-- Nothing can be made of the body of a frame: it isn't a well-formed snapshot, an entry in one of
-- the formats, or a read; or the entry is the next one and doesn't apply; or no snapshot came before
-- it.
abbrev pub IsRefused : Option NumberedPod → List ℕ → Type 0
IsRefused state body = (text : List ℕ) (after : Option NumberedPod)
    → Follows state body text after → ⊥

-- What is made of the bodies of frames, in their order, and what is written for them.
abbrev pub FollowsAll : Option NumberedPod → List (List ℕ) → List ℕ → Option NumberedPod → Type 0
FollowsAll old [] text new = (text ≡ []) × (new ≡ old)
FollowsAll old (body ∷ bodies) text new =
    (mid : Option NumberedPod) × (first : List ℕ) × (rest : List ℕ)
    × Follows old body first mid × FollowsAll mid bodies rest new × (text ≡ first ++ rest)
