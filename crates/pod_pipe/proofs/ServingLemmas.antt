-- The pieces of an input, one after the other.
use Rattle.std.proofs.Common.{◌≡◌, inl, inr, ℕ, Bool, ◌+◌, ◌<◌, ◌≤◌, ◌^◌, ◌==◌, true, false, if◌then◌else◌, List, [], ◌++◌, length, ◌⊎◌, Option, Some, None, Ok, Err, refl, sym, ap, subst, append_assoc, length-append, ◌∙◌, arith}
use Rattle.std.proofs.lemmas.Bool.Decides.{nat_tests}
use Rattle.std.proofs.lemmas.List.{append-nil}
use Rattle.conn_talk.specs.Talks.{Ends, EndsPart, EndsWhole, TurnsIn}
use Rattle.conn_talk.specs.Turns.{Rules}
use Rattle.conn_talk.specs.declared.talk_end.TalkEnd.{TalkEnd}
use Rattle.conn_talk.specs.declared.talk_end.TalkEnd.TheVariants as talks
use Rattle.conn_talk.proofs.HeardLemmas.{not_bad}
use Rattle.conn_talk.proofs.PieceLemmas.{Answering, EndedIn, all_ended, answering_messages, answering_more, answering_none, ended_in}
use Rattle.conn_talk.proofs.TalksLemmas.{talks_part, talks_whole}
use Rattle.http_conn.specs.Messages.{Messages, AreFirstEvents, StaysOpen}
use Rattle.http_conn.specs.ParserStates.{Represents, rest_of}
use Rattle.http_conn.specs.declared.parser_state.ParserState.{ParserState}
use Rattle.http_conn.proofs.LongerTexts.{events_stay_first}
use Rattle.pod_base.specs.Counts.{CountIncreased}
use Rattle.pod_base.specs.declared.heard.Heard.{Heard}
use Rattle.pod_base.specs.declared.request.Request.{Request}
use Rattle.pod_core.specs.History.{History}
use Rattle.pod_core.specs.Session.{Item}
use Rattle.pod_io.specs.Counts.{next_count}
use Rattle.token_table.specs.Credentials.{AskedAgent}
use Rattle.pod_pipe.specs.Held.{end_of_talk}
use Rattle.pod_pipe.specs.Streams.{Reads, AtEnd, AddsReads, MeetsEnd, CountsInput}
use Rattle.pod_pipe.specs.Served.{IsServed, IsStopped}
use Rattle.pod_io.specs.Writing.{AddsOrPart, AddsPart, ExtendsBy}
use Rattle.pod_io.proofs.Extending.{extends_more, nothing_added}
use Rattle.pod_pipe.specs.Statuses.{HearsFirst, IsDone, IsHeard, IsWritten, Pipes, ComesOf, ReportsEnd, end_line}
use Rattle.pod_pipe.specs.declared.status.PipeEnd.{PipeEnd}
use Rattle.pod_pipe.specs.declared.status.PipeEnd.TheVariants.{Peer, Cut, Closed, Limit, Upgraded, Bad, ReadFault, WriteFault, NoMemory, ReadLimit}
use Rattle.pod_pipe.proofs.EndingsLemmas.{served_longer, served_stops}

-- What was read so far was answered, and the connection is open.
pub record Serving {A : Type 0} (rules : Rules A) (first : A) (stage : ParserState) (holder : A) (number : ℕ) (old_input new_input old_output new_output old_errors new_errors : Option (List ℕ)) (pieces : ℕ) : Type 0 where
  pub text : List ℕ
  pub written : List ℕ
  pub trail : List ℕ
  pub reads : Reads text old_input new_input
  pub answering : Answering rules first stage holder number text written trail
  pub writes : ExtendsBy written old_output new_output
  pub trails_too : ExtendsBy trail old_errors new_errors
  pub many : pieces ≤ length text

pub nothing_read : (rest : Option (List ℕ)) → Reads [] rest rest
nothing_read None = refl
nothing_read (Some bytes) = refl

-- what was heard by an end: behind a request that switched protocols more may have been
abbrev pub events_at : PipeEnd → List Heard → List Heard → List Heard
events_at Upgraded all front = all
events_at _ all front = front

-- what is heard in a front is heard first in the whole
pub hears_first : (text : List ℕ) (hears : List Heard) → AreFirstEvents text hears → HearsFirst text hears
hears_first text hears f = record {
  front = f;
  whole = λ all rest m.
      let first = events_stay_first text hears all rest f m in
      (first.0, sym first.1);
}

-- what is heard first in a text and more
first_heard : (text more : List ℕ) (hears those : List Heard) (rest : ℕ) → Messages text (hears ++ those) rest → HearsFirst (text ++ more) hears
first_heard text more hears those rest m = hears_first (text ++ more) hears (record { prefix = text; is_prefix = (more, refl); all = hears ++ those; rest = rest; messages = m; first = (those, sym (refl)) })

pub all_first : (text : List ℕ) (hears : List Heard) (rest : ℕ) → Messages text hears rest → HearsFirst text hears
all_first text hears rest m = hears_first text hears (record { prefix = text; is_prefix = ([], append-nil text); all = hears; rest = rest; messages = m; first = ([], sym (sym (append-nil hears))) })

module _ {A : Type 0} (rules : Rules A) where
  pub begins : (stage : ParserState) (holder : A) (input output errors : Option (List ℕ)) → Represents stage [] [] → Serving rules holder stage holder 0 input input output output errors errors 0
  begins stage holder input output errors represents = record {
    text = [];
    written = [];
    trail = [];
    reads = nothing_read input;
    answering = answering_none rules holder stage represents;
    writes = nothing_added output;
    trails_too = nothing_added errors;
    many = omega arith;
  }

  module _ (first : A) (stage : ParserState) (holder : A) (number : ℕ) (old_input new_input old_output new_output old_errors new_errors : Option (List ℕ)) (pieces : ℕ) (s : Serving rules first stage holder number old_input new_input old_output new_output old_errors new_errors pieces) where
    -- all of a piece was answered
    pub goes_on : (piece : List ℕ) (last_input : Option (List ℕ)) (next : ParserState) (those : List Heard) (rest : ℕ) (after : A) (number_now : ℕ) (text lines : List ℕ) (output errors : Option (List ℕ))
        → Reads (s.text ++ piece) old_input last_input → Messages (s.text ++ piece) (s.answering.heard ++ those) rest → Represents next (s.text ++ piece) (s.answering.heard ++ those) → ExtendsBy text new_output output → ExtendsBy lines new_errors errors
        → TurnsIn rules holder number after number_now those text lines (Ok tt) → 0 < length piece
        → Serving rules first next after number_now old_input last_input old_output output old_errors errors (pieces + 1)
    goes_on piece last_input next those rest after number_now text lines output errors reads m represents adds adds_lines t some = record {
      text = s.text ++ piece;
      written = s.written ++ text;
      trail = s.trail ++ lines;
      reads = reads;
      answering = answering_more rules first stage holder number s.text s.written s.trail s.answering (s.text ++ piece) those rest m after number_now text lines next represents t;
      writes = extends_more old_output new_output output s.written text s.writes adds;
      trails_too = extends_more old_errors new_errors errors s.trail lines s.trails_too adds_lines;
      many = omega (arith, s.many, some, length-append s.text piece);
    }

    -- the answered events of a piece end no connection without a place for a request
    pub has_place : (those : List Heard) (after : A) (number_now : ℕ) (text lines : List ℕ) (end : TalkEnd) → ((request : Request) (old new : A) → rules.passes request old new → ⊥)
        → TurnsIn rules holder number after number_now those text lines (Err end) → end ≡ talks.NoPlace → ⊥
    has_place those after number_now text lines end placed t is =
        let e : Ends rules talks.NoPlace number first after (s.answering.heard ++ t.front) (s.written ++ text) (s.trail ++ lines) =
        subst (λ x. Ends rules x number first after (s.answering.heard ++ t.front) (s.written ++ text) (s.trail ++ lines)) is (t.turns first s.answering.heard s.written s.trail s.answering.talks) in
        placed e.request e.mid after e.passed

  -- `serves` and `stops`: what the ends of the connection say of one history, where `last` is what
  -- answered at the end
  module _ (may_give : ℕ → Type 0) (asking : Request → AskedAgent) (trails : Bool) (begun : History) (leaves : List Item → Type 0) (first last : A)
      (serves : (upgraded : Bool) (events : List Heard) (written trail : List ℕ) → EndsWhole rules upgraded first last events written trail → IsServed may_give asking trails begun leaves upgraded events written trail)
      (stops : (number : ℕ) (events : List Heard) (written trail : List ℕ) → EndsPart rules number first last events written trail → IsStopped may_give asking trails begun leaves events written trail) where
    module _ (stage : ParserState) (number : ℕ) (old_input new_input old_output new_output old_errors new_errors : Option (List ℕ)) (pieces : ℕ) (s : Serving rules first stage last number old_input new_input old_output new_output old_errors new_errors pieces) where
      messages : Messages s.text s.answering.heard (rest_of stage)
      messages = answering_messages rules first stage last number s.text s.written s.trail s.answering

      so_far : IsServed may_give asking trails begun leaves false s.answering.heard s.written s.trail
      so_far = serves false s.answering.heard s.written s.trail (talks_whole rules first last number s.answering.heard s.written s.trail s.answering.talks)

      -- a read failed
      pub read_fault : (input : Option (List ℕ)) → input ≡ new_input → Pipes may_give asking trails begun leaves ReadFault old_input input old_output new_output old_errors new_errors
      read_fault input same = record {
        read = s.text;
        heard = s.answering.heard;
        written = s.written;
        trail = s.trail;
        reads = subst (Reads s.text old_input) (sym same) s.reads;
        hears = (rest_of stage, messages, s.answering.talks.stays);
        serves = so_far;
        writes = s.writes;
        trails_too = s.trails_too;
      }

      -- the limit on reads was reached
      pub bounded : 2 ^ 40 ≤ pieces → Pipes may_give asking trails begun leaves ReadLimit old_input new_input old_output new_output old_errors new_errors
      bounded all = record {
        read = s.text;
        heard = s.answering.heard;
        written = s.written;
        trail = s.trail;
        reads = s.reads;
        hears = (rest_of stage, messages, s.answering.talks.stays, omega (arith, all, s.many));
        serves = so_far;
        writes = s.writes;
        trails_too = s.trails_too;
      }

      -- the input ended
      pub at_end : (rest : ℕ) (end : PipeEnd) (input : Option (List ℕ)) → rest ≡ rest_of stage → end ≡ (if rest == 0 then Peer else Cut rest) → Reads s.text old_input input → AtEnd input
          → Pipes may_give asking trails begun leaves end old_input input old_output new_output old_errors new_errors
      at_end rest end input left is reads over =
          let told : Messages s.text s.answering.heard rest = subst (Messages s.text s.answering.heard) (sym left) messages in
          subst (λ e. Pipes may_give asking trails begun leaves e old_input input old_output new_output old_errors new_errors) (sym is)
          (elim (rest == 0) as (λ b. (rest == 0) ≡ b → Pipes may_give asking trails begun leaves (if b then Peer else Cut rest) old_input input old_output new_output old_errors new_errors) [
            | true ↦ λ e.
                let none : rest ≡ 0 = grind (arith, nat_tests) in
                record {
                  read = s.text;
                  heard = s.answering.heard;
                  written = s.written;
                  trail = s.trail;
                  reads = reads;
                  hears = (subst (Messages s.text s.answering.heard) none told, s.answering.talks.stays, over);
                  serves = so_far;
                  writes = s.writes;
                  trails_too = s.trails_too;
                }
            | false ↦ λ e.
                let some : rest ≡ 0 → ⊥ = λ z. grind (arith, nat_tests) in
                record {
                  read = s.text;
                  heard = s.answering.heard;
                  written = s.written;
                  trail = s.trail;
                  reads = reads;
                  hears = (told, omega (arith, some), s.answering.talks.stays, over);
                  serves = so_far;
                  writes = s.writes;
                  trails_too = s.trails_too;
                }
          ] refl)

      -- no memory was left to parse a piece
      pub no_memory : (piece : List ℕ) (input : Option (List ℕ)) → Reads (s.text ++ piece) old_input input → Pipes may_give asking trails begun leaves NoMemory old_input input old_output new_output old_errors new_errors
      no_memory piece input reads = record {
        read = s.text ++ piece;
        heard = s.answering.heard;
        written = s.written;
        trail = s.trail;
        reads = reads;
        hears = first_heard s.text piece s.answering.heard [] (rest_of stage) (subst (λ h. Messages s.text h (rest_of stage)) (sym (append-nil s.answering.heard)) messages);
        serves = stops number s.answering.heard s.written s.trail (talks_part rules first last number s.answering.heard s.written s.trail s.answering.talks);
        writes = s.writes;
        trails_too = s.trails_too;
      }

    -- the connection ended in a piece
    module _ (text written trail : List ℕ) (placed : (request : Request) (old new : A) → rules.passes request old new → ⊥) where
      heard_so : (end : TalkEnd) (e : EndedIn rules first last end text written trail) (input : Option (List ℕ)) → IsHeard (end_of_talk end) text (events_at (end_of_talk end) e.all e.front) input
      heard_so talks.Closed e input = (all_ended rules first last talks.Closed text written trail e e.over e.ends.1, (e.ends.1, e.ends.3), e.ends.2)
      heard_so talks.Limit e input = (all_ended rules first last talks.Limit text written trail e e.over e.ends.1, (e.ends.1, e.ends.3), e.ends.2)
      heard_so talks.Upgraded e input = (e.rest, e.messages)
      heard_so (talks.Bad status) e input = (all_ended rules first last (talks.Bad status) text written trail e e.over (λ stays. not_bad 0 e.front status stays e.ends.1), e.ends.1)
      heard_so talks.WriteFault e input = (e.all, e.rest, e.messages, (e.more, e.cut))
      heard_so talks.NoMemory e input = hears_first text e.front (record { prefix = text; is_prefix = ([], append-nil text); all = e.all; rest = e.rest; messages = e.messages; first = (e.more, sym e.cut) })
      heard_so talks.NoPlace e input = absurd (placed e.ends.request e.ends.mid last e.ends.passed)

      written_so : (end : TalkEnd) (e : EndedIn rules first last end text written trail) → IsWritten may_give asking trails begun leaves (end_of_talk end) (events_at (end_of_talk end) e.all e.front) written trail
      written_so talks.Closed e = serves false e.front written trail e.ends.0
      written_so talks.Limit e = serves false e.front written trail e.ends.0
      written_so talks.Upgraded e =
          subst (λ (h : List Heard). IsServed may_give asking trails begun leaves true h written trail) (sym e.cut)
          (served_longer may_give asking trails begun leaves e.front e.more written trail (serves true e.front written trail e.ends))
      written_so (talks.Bad status) e = serves false e.front written trail e.ends.0
      written_so talks.WriteFault e = stops e.number e.front written trail e.ends
      written_so talks.NoMemory e = stops e.number e.front written trail e.ends
      written_so talks.NoPlace e = absurd (placed e.ends.request e.ends.mid last e.ends.passed)

    pub ended : (stage : ParserState) (holder : A) (number number_now : ℕ) (old_input new_input old_output new_output old_errors new_errors : Option (List ℕ)) (pieces : ℕ) (s : Serving rules first stage holder number old_input new_input old_output new_output old_errors new_errors pieces)
        (piece : List ℕ) (input : Option (List ℕ)) (those : List Heard) (rest : ℕ) (end : TalkEnd) (text lines : List ℕ) (output errors : Option (List ℕ)) → ((request : Request) (old new : A) → rules.passes request old new → ⊥)
        → Reads (s.text ++ piece) old_input input → Messages (s.text ++ piece) (s.answering.heard ++ those) rest → ExtendsBy text new_output output → ExtendsBy lines new_errors errors
        → TurnsIn rules holder number last number_now those text lines (Err end) → Pipes may_give asking trails begun leaves (end_of_talk end) old_input input old_output output old_errors errors
    ended stage holder number number_now old_input new_input old_output new_output old_errors new_errors pieces s piece input those rest end text lines output errors placed reads m adds adds_lines t =
        let e = ended_in rules first stage holder number s.text s.written s.trail s.answering (s.text ++ piece) those rest m last number_now text lines end t in
        record {
          read = s.text ++ piece;
          heard = events_at (end_of_talk end) e.all e.front;
          written = s.written ++ text;
          trail = s.trail ++ lines;
          reads = reads;
          hears = heard_so (s.text ++ piece) (s.written ++ text) (s.trail ++ lines) placed end e input;
          serves = written_so (s.text ++ piece) (s.written ++ text) (s.trail ++ lines) placed end e;
          writes = extends_more old_output new_output output s.written text s.writes adds;
          trails_too = extends_more old_errors new_errors errors s.trail lines s.trails_too adds_lines;
        }

-- answered events end no connection by a read, and neither by the end of the input nor by the limit on
-- reads
pub never_reads : (end : TalkEnd) → end_of_talk end ≡ ReadFault → ⊥
never_reads talks.Closed is = cc
never_reads talks.Limit is = cc
never_reads talks.Upgraded is = cc
never_reads (talks.Bad status) is = cc
never_reads talks.WriteFault is = cc
never_reads talks.NoMemory is = cc
never_reads talks.NoPlace is = cc

pub is_write_fault : (end : TalkEnd) → end_of_talk end ≡ WriteFault → end ≡ talks.WriteFault
is_write_fault talks.WriteFault is = refl
is_write_fault talks.Closed is = absurd cc
is_write_fault talks.Limit is = absurd cc
is_write_fault talks.Upgraded is = absurd cc
is_write_fault (talks.Bad status) is = absurd cc
is_write_fault talks.NoMemory is = absurd cc
is_write_fault talks.NoPlace is = absurd cc

pub counts_heard : (end : TalkEnd) (old_reads new_reads old_ends new_ends : ℕ) → AddsReads old_reads new_reads → new_ends ≡ old_ends → CountsInput (end_of_talk end) old_reads new_reads old_ends new_ends
counts_heard talks.Closed old_reads new_reads old_ends new_ends le same = record { reads = le; limit = λ is. absurd cc; ends = same }
counts_heard talks.Limit old_reads new_reads old_ends new_ends le same = record { reads = le; limit = λ is. absurd cc; ends = same }
counts_heard talks.Upgraded old_reads new_reads old_ends new_ends le same = record { reads = le; limit = λ is. absurd cc; ends = same }
counts_heard (talks.Bad status) old_reads new_reads old_ends new_ends le same = record { reads = le; limit = λ is. absurd cc; ends = same }
counts_heard talks.WriteFault old_reads new_reads old_ends new_ends le same = record { reads = le; limit = λ is. absurd cc; ends = inl same }
counts_heard talks.NoMemory old_reads new_reads old_ends new_ends le same = record { reads = le; limit = λ is. absurd cc; ends = same }
counts_heard talks.NoPlace old_reads new_reads old_ends new_ends le same = record { reads = le; limit = λ is. absurd cc; ends = same }

-- the end of the input
pub counts_end : (rest : ℕ) (end : PipeEnd) (old_reads new_reads old_ends new_ends : ℕ) → end ≡ (if rest == 0 then Peer else Cut rest) → AddsReads old_reads new_reads
    → new_ends ≡ next_count old_ends → CountsInput end old_reads new_reads old_ends new_ends
counts_end rest end old_reads new_reads old_ends new_ends is le met =
    subst (λ e. CountsInput e old_reads new_reads old_ends new_ends) (sym is)
    (elim (rest == 0) as (λ b. CountsInput (if b then Peer else Cut rest) old_reads new_reads old_ends new_ends) [
      | true ↦ record { reads = le; limit = λ e. absurd cc; ends = met }
      | false ↦ record { reads = le; limit = λ e. absurd cc; ends = met }
    ])

-- the end of the input is neither fault
pub end_reads : (rest : ℕ) (end : PipeEnd) → end ≡ (if rest == 0 then Peer else Cut rest) → end ≡ ReadFault → ⊥
end_reads rest end is fault = elim (rest == 0) as (λ b. ReadFault ≡ (if b then Peer else Cut rest) → ⊥) [ true ↦ λ e. cc | false ↦ λ e. cc ] (sym fault ∙ is)

pub end_writes : (rest : ℕ) (end : PipeEnd) → end ≡ (if rest == 0 then Peer else Cut rest) → end ≡ WriteFault → ⊥
end_writes rest end is fault = elim (rest == 0) as (λ b. WriteFault ≡ (if b then Peer else Cut rest) → ⊥) [ true ↦ λ e. cc | false ↦ λ e. cc ] (sym fault ∙ is)

-- the counts at an end of status 0, where its line fails
done_ends : (end : PipeEnd) (old new : ℕ) → IsDone end → MeetsEnd end old new → (new ≡ old) ⊎ (new ≡ next_count old)
done_ends Peer old new t m = inr m
done_ends Closed old new t m = inl m
done_ends Limit old new t m = inl m
done_ends Upgraded old new t m = inl m
done_ends (Cut rest) old new t m = absurd t
done_ends (Bad status) old new t m = absurd t
done_ends ReadFault old new t m = absurd t
done_ends WriteFault old new t m = absurd t
done_ends NoMemory old new t m = absurd t
done_ends ReadLimit old new t m = absurd t

pub counts_come_to : (end told : PipeEnd) (old_reads new_reads old_ends new_ends : ℕ) → ComesOf end told → CountsInput end old_reads new_reads old_ends new_ends
    → CountsInput told old_reads new_reads old_ends new_ends
counts_come_to end told old_reads new_reads old_ends new_ends (inl same) c = subst (λ e. CountsInput e old_reads new_reads old_ends new_ends) (sym same) c
counts_come_to end told old_reads new_reads old_ends new_ends (inr (t, fault)) c =
    subst (λ e. CountsInput e old_reads new_reads old_ends new_ends) (sym fault) (record { reads = c.reads; limit = λ e. absurd cc; ends = done_ends end old_ends new_ends t c.ends })

-- ---- the last line

-- what was heard in what was read, at an end of status 0
done_reading : (end : PipeEnd) (read : List ℕ) (heard : List Heard) (left : Option (List ℕ)) → IsDone end → IsHeard end read heard left → (rest : ℕ) × Messages read heard rest
done_reading Peer read heard left t h = (0, h.0)
done_reading Closed read heard left t h = (0, h.0)
done_reading Limit read heard left t h = (0, h.0)
done_reading Upgraded read heard left t h = h
done_reading (Cut rest) read heard left t h = absurd t
done_reading (Bad status) read heard left t h = absurd t
done_reading ReadFault read heard left t h = absurd t
done_reading WriteFault read heard left t h = absurd t
done_reading NoMemory read heard left t h = absurd t
done_reading ReadLimit read heard left t h = absurd t

module _ (may_give : ℕ → Type 0) (asking : Request → AskedAgent) (trails : Bool) (begun : History) (leaves : List Item → Type 0) where
  done_stops : (end : PipeEnd) (heard : List Heard) (written trail : List ℕ) → IsDone end → IsWritten may_give asking trails begun leaves end heard written trail → IsStopped may_give asking trails begun leaves heard written trail
  done_stops Peer heard written trail t w = served_stops may_give asking trails begun leaves false heard written trail w
  done_stops Closed heard written trail t w = served_stops may_give asking trails begun leaves false heard written trail w
  done_stops Limit heard written trail t w = served_stops may_give asking trails begun leaves false heard written trail w
  done_stops Upgraded heard written trail t w = served_stops may_give asking trails begun leaves true heard written trail w
  done_stops (Cut rest) heard written trail t w = absurd t
  done_stops (Bad status) heard written trail t w = absurd t
  done_stops ReadFault heard written trail t w = absurd t
  done_stops WriteFault heard written trail t w = absurd t
  done_stops NoMemory heard written trail t w = absurd t
  done_stops ReadLimit heard written trail t w = absurd t

  -- an end has its line, or that of an end of status 0 is a write fault
  pub comes_to : (end told : PipeEnd) (old_input new_input old_output new_output old_errors new_errors : Option (List ℕ)) → ComesOf end told
      → Pipes may_give asking trails begun leaves end old_input new_input old_output new_output old_errors new_errors → Pipes may_give asking trails begun leaves told old_input new_input old_output new_output old_errors new_errors
  comes_to end told old_input new_input old_output new_output old_errors new_errors (inl same) p = subst (λ e. Pipes may_give asking trails begun leaves e old_input new_input old_output new_output old_errors new_errors) (sym same) p
  comes_to end told old_input new_input old_output new_output old_errors new_errors (inr (t, fault)) p = subst (λ e. Pipes may_give asking trails begun leaves e old_input new_input old_output new_output old_errors new_errors) (sym fault) (record {
    read = p.read;
    heard = p.heard;
    written = p.written;
    trail = p.trail;
    reads = p.reads;
    hears =
        let r = done_reading end p.read p.heard new_input t p.hears in
        (p.heard, r.0, r.1, ([], sym (append-nil p.heard)));
    serves = done_stops end p.heard p.written p.trail t p.serves;
    writes = p.writes;
    trails_too = p.trails_too;
  })

-- ---- counts since an earlier moment

rose_since : (first middle last : ℕ) → first ≤ middle → CountIncreased middle last → CountIncreased first last
rose_since first middle last le rose = λ below. omega (arith, le, rose below)

part_since : (line : List ℕ) (old new : Option (List ℕ)) (first middle last : ℕ) → first ≤ middle → AddsPart line old new middle last → AddsPart line old new first last
part_since line old new first middle last le p = (rose_since first middle last le p.0, p.1)

line_since : (line : List ℕ) (old new : Option (List ℕ)) (first middle last : ℕ) → first ≤ middle → AddsOrPart line old new middle last → AddsOrPart line old new first last
line_since line old new first middle last le (inl whole) = inl whole
line_since line old new first middle last le (inr part) = inr (part_since line old new first middle last le part)

fault_since : (old new : Option (List ℕ)) (first middle last : ℕ) → first ≤ middle → ReportsEnd WriteFault old new middle last → ReportsEnd WriteFault old new first last
fault_since old new first middle last le (inl same) = inl same
fault_since old new first middle last le (inr part) = inr (part.0, part.1, part_since (end_line part.0) old new first middle last le part.2)

pub tells_since : (end : PipeEnd) (old new : Option (List ℕ)) (first middle last : ℕ) → first ≤ middle → ReportsEnd end old new middle last → ReportsEnd end old new first last
tells_since Peer old new first middle last le t = t
tells_since Closed old new first middle last le t = t
tells_since Limit old new first middle last le t = t
tells_since Upgraded old new first middle last le t = t
tells_since (Cut rest) old new first middle last le t = line_since (end_line (Cut rest)) old new first middle last le t
tells_since (Bad status) old new first middle last le t = line_since (end_line (Bad status)) old new first middle last le t
tells_since WriteFault old new first middle last le t = fault_since old new first middle last le t
tells_since NoMemory old new first middle last le t = t
tells_since ReadFault old new first middle last le t = t
tells_since ReadLimit old new first middle last le t = t

-- a write failed in the last piece, after counts that didn't fall
pub rose_in_one : (a b c d e f : ℕ) → a ≤ b → d ≤ e → CountIncreased b c ⊎ CountIncreased e f → CountIncreased a c ⊎ CountIncreased d f
rose_in_one a b c d e f le le_2 (inl rose) = inl (λ below. omega (arith, le, rose below))
rose_in_one a b c d e f le le_2 (inr rose) = inr (λ below. omega (arith, le_2, rose below))
