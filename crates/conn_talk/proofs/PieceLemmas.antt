-- The pieces of an input, one after the other: what was read so far was answered.
use Rattle.std.proofs.Common.{◌≡◌, ℕ, List, [], ◌++◌, Ok, Err, sym, ap, subst, append_assoc, ◌∙◌}
use Rattle.std.specs.List.{AllByRecursion}
use Rattle.std.proofs.lemmas.List.{append-nil}
use Rattle.http_conn.specs.Messages.{Messages, NothingAfterEnd, StaysOpen}
use Rattle.http_conn.specs.ParserStates.{Represents, rest_of}
use Rattle.http_conn.specs.declared.parser_state.ParserState.{ParserState}
use Rattle.http_conn.proofs.EndLemmas.{ends_there, ended_rest}
use Rattle.http_conn.proofs.StepLemmas.{represents_messages}
use Rattle.pod_base.specs.declared.heard.Heard.{Heard}
use Rattle.conn_talk.specs.Talks.{Ends, IsAll, MayBeSent, Talks, TurnsIn}
use Rattle.conn_talk.specs.Turns.{Rules}
use Rattle.conn_talk.specs.declared.talk_end.TalkEnd.{TalkEnd}
use Rattle.conn_talk.proofs.HeardLemmas.{ends_behind, refused_behind}
use Rattle.conn_talk.proofs.RefusedLemmas.{are_refused}
use Rattle.conn_talk.proofs.TalksLemmas.{count_is, talks_none}

-- The text so far was parsed up to this stage, and all its events were answered with these bytes and
-- this trail. More may follow.
pub record Answering {A : Type 0} (rules : Rules A) (first : A) (stage : ParserState) (holder : A) (number : ℕ) (text written trail : List ℕ) : Type 0 where
  pub heard : List Heard
  pub represents : Represents stage text heard
  pub talks : Talks rules first holder number heard written trail

-- The connection ended in this text so: these of its events were answered, and these are left.
pub record EndedIn {A : Type 0} (rules : Rules A) (first last : A) (end : TalkEnd) (text written trail : List ℕ) : Type 0 where
  pub all : List Heard
  pub rest : ℕ
  pub messages : Messages text all rest
  pub front : List Heard
  pub more : List Heard
  pub cut : all ≡ front ++ more
  pub number : ℕ
  pub ends : Ends rules end number first last front written trail
  pub over : IsAll more (Err end)

module _ {A : Type 0} (rules : Rules A) where
  -- before the first piece
  pub answering_none : (first : A) (stage : ParserState) → Represents stage [] [] → Answering rules first stage first 0 [] [] []
  answering_none first stage represents = record { heard = []; represents = represents; talks = talks_none rules first }

  -- an end whose events were all answered, and after which the connection isn't open
  pub all_ended : (first last : A) (end : TalkEnd) (text written trail : List ℕ) (e : EndedIn rules first last end text written trail) → e.more ≡ [] → (StaysOpen 0 e.front → ⊥) → Messages text e.front 0
  all_ended first last end text written trail e none closed =
      let same : e.all ≡ e.front = e.cut ∙ ap (λ more. e.front ++ more) none ∙ append-nil e.front in
      let whole : Messages text e.front e.rest = subst (λ events. Messages text events e.rest) same e.messages in
      subst (Messages text e.front) (ended_rest text e.front e.rest whole closed) whole

  module _ (first : A) (stage : ParserState) (holder : A) (number : ℕ) (text written trail : List ℕ) (a : Answering rules first stage holder number text written trail) where
    pub answering_messages : Messages text a.heard (rest_of stage)
    answering_messages = represents_messages stage text a.heard a.represents

    module _ (longer : List ℕ) (those : List Heard) (rest : ℕ) (m : Messages longer (a.heard ++ those) rest) where
      -- what `answer_events` needs of the events of the next piece
      pub piece_ends : NothingAfterEnd number those
      piece_ends = subst (λ n. NothingAfterEnd n those) (count_is rules first holder number a.heard written trail a.talks) (ends_behind 0 a.heard those a.talks.stays (ends_there longer (a.heard ++ those) rest m))

      pub piece_statuses : AllByRecursion MayBeSent those
      piece_statuses = refused_behind a.heard those (are_refused longer (a.heard ++ those) rest m)

      module _ (after : A) (number_now : ℕ) (bytes lines : List ℕ) where
        -- all events of the piece were answered
        pub answering_more : (next : ParserState) → Represents next longer (a.heard ++ those) → TurnsIn rules holder number after number_now those bytes lines (Ok tt)
            → Answering rules first next after number_now longer (written ++ bytes) (trail ++ lines)
        answering_more next represents t =
            let whole : t.front ≡ those = sym (append-nil t.front) ∙ ap (λ b. t.front ++ b) (sym t.over) ∙ t.cut in
            record {
              heard = a.heard ++ those;
              represents = represents;
              talks = subst (λ h. Talks rules first after number_now (a.heard ++ h) (written ++ bytes) (trail ++ lines)) whole (t.turns first a.heard written trail a.talks);
            }

        -- the connection ended in the piece
        pub ended_in : (end : TalkEnd) → TurnsIn rules holder number after number_now those bytes lines (Err end) → EndedIn rules first after end longer (written ++ bytes) (trail ++ lines)
        ended_in end t = record {
          all = a.heard ++ those;
          rest = rest;
          messages = m;
          front = a.heard ++ t.front;
          more = t.rest;
          cut = ap (λ h. a.heard ++ h) (sym t.cut) ∙ sym (append_assoc a.heard t.front t.rest);
          number = number;
          ends = t.turns first a.heard written trail a.talks;
          over = t.over;
        }
