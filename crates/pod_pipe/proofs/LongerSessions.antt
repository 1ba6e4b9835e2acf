-- A session over the first events of a text is one over all of them.
use Rattle.std.proofs.Common.{◌≡◌, ℕ, ◌+◌, Bool, true, false, if◌then◌else◌, List, [], ◌∷◌, ◌++◌, Option, Some, None, IfSome, refl, sym, ap, subst, ◌∙◌}
use Rattle.std.proofs.lemmas.List.{append-nil}
use mathlib.Core.List.{IsPrefix}
use Rattle.http_out.specs.Text.{interim_text}
use Rattle.http_conn.specs.Messages.{Messages, NothingAfterEnd}
use Rattle.http_conn.proofs.EndLemmas.{ends_there}
use Rattle.pod_base.proofs.Prefixes.{prefix_of_append, prefix_trans, prefix_after}
use Rattle.pod_base.specs.declared.heard.Heard.{Heard}
use Rattle.pod_base.specs.declared.heard.Heard.TheVariants as heard
use Rattle.pod_base.specs.declared.request.Request.{Request}
use Rattle.pod_core.specs.History.{History, end_of}
use Rattle.pod_core.specs.Output.{item_text, output, output_of}
use Rattle.pod_core.specs.Session.{IsRefused, IsSession, Item, Session, has_bad, requests_of, upgrades}
use Rattle.history_laws.proofs.AlikeSessions.{still_isolated}
use Rattle.token_table.specs.Credentials.{AskedAgent}
use Rattle.pod_pipe.specs.Served.{Continues, IsStopped, WritesSession}
use Rattle.pod_pipe.specs.Statuses.{HearsFirst, IsHeard, IsWritten, Pipes, written_session}
use Rattle.conn_talk.specs.Trails.{trail_of}
use Rattle.pod_pipe.specs.declared.status.PipeEnd.{PipeEnd}
use Rattle.pod_pipe.specs.declared.status.PipeEnd.TheVariants.{Peer, Cut, Closed, Limit, Upgraded, Bad, ReadFault, WriteFault, NoMemory, ReadLimit}
use Rattle.pod_pipe.proofs.EndingsLemmas.{served_session, served_stops}
use Rattle.conn_talk.proofs.HeardLemmas.{requests_append}
use Rattle.pod_pipe.proofs.ServingLemmas.{hears_first, all_first}

-- no event follows a malformed message
nothing_more : (count : ℕ) (events more : List Heard) → has_bad events ≡ true → NothingAfterEnd count (events ++ more) → more ≡ []
nothing_more count [] more bad ends = absurd cc
nothing_more count (heard.Interim ∷ events) more bad ends = nothing_more count events more bad ends
nothing_more count (heard.Request r ∷ events) more bad ends = nothing_more (count + 1) events more bad ends.1
nothing_more count (heard.Bad status ∷ []) more bad ends = ends
nothing_more count (heard.Bad status ∷ (one ∷ events)) more bad ends = absurd cc

-- the output over more events begins with that over the first ones
output_longer : (events more : List Heard) (items : List Item) → IsPrefix (output_of events items None) (output_of (events ++ more) items None)
output_longer [] more items = (output_of more items None, refl)
output_longer (heard.Interim ∷ events) more items =
    prefix_after interim_text (output_of events items None) (output_of (events ++ more) items None) (output_longer events more items)
output_longer (heard.Request r ∷ events) more [] = ([], refl)
output_longer (heard.Request r ∷ events) more (item ∷ items) =
    let short = output_of events items None in
    let long = output_of (events ++ more) items None in
    prefix_after (item_text item) (if upgrades item.outcome then [] else short) (if upgrades item.outcome then [] else long)
    (elim (upgrades item.outcome) as (λ b. IsPrefix (if b then [] else short) (if b then [] else long)) [
      | true ↦ ([], refl)
      | false ↦ output_longer events more items
    ])
output_longer (heard.Bad status ∷ events) more items = ([], refl)

-- what was heard are the first events of what was read
first_of_end : (end : PipeEnd) (read : List ℕ) (events : List Heard) (left : Option (List ℕ)) → IsHeard end read events left → HearsFirst read events
first_of_end Peer read events left h = all_first read events 0 h.0
first_of_end (Cut rest) read events left h = all_first read events rest h.0
first_of_end Closed read events left h = all_first read events 0 h.0
first_of_end Limit read events left h = all_first read events 0 h.0
first_of_end Upgraded read events left h = all_first read events h.0 h.1
first_of_end (Bad status) read events left h = all_first read events 0 h.0
first_of_end ReadFault read events left h = all_first read events h.0 h.1
first_of_end ReadLimit read events left h = all_first read events h.0 h.1
first_of_end WriteFault read events left h =
    hears_first read events (record { prefix = read; is_prefix = ([], append-nil read); all = h.0; rest = h.1; messages = h.2; first = (h.3.0, sym h.3.1) })
first_of_end NoMemory read events left h = h

module _ (may_give : ℕ → Type 0) (asking : Request → AskedAgent) (trails : Bool) (begun : History) (leaves : List Item → Type 0) where
  module _ (events more : List Heard) (written trail : List ℕ) (ends : NothingAfterEnd 0 (events ++ more)) where
    open_session : (session : Session) → session.refusal ≡ None → Continues may_give asking begun events session → leaves session.items → IsPrefix written (output events session) → IsPrefix trail (trail_of trails session.items) → IsStopped may_give asking trails begun leaves (events ++ more) written trail
    open_session session none s left begins_so lines =
        let longer_session : IsSession may_give asking (events ++ more) (end_of begun) session (end_of session.history) = record {
          requests = prefix_trans _ (requests_of events) (requests_of (events ++ more)) s.is_session.requests
              (subst (IsPrefix (requests_of events)) (sym (requests_append events more)) (prefix_of_append (requests_of events) (requests_of more)));
          numbers = s.is_session.numbers;
          asked = s.is_session.asked;
          answers = s.is_session.answers;
          places = s.is_session.places;
          last = s.is_session.last;
          refused = subst (λ (o : Option ℕ). IfSome o (IsRefused may_give (events ++ more) session.items)) (sym none) tt;
        } in
        record {
          session = session;
          continues = record {
            conn = s.conn;
            history = s.history;
            is_history = s.is_history;
            is_session = longer_session;
            isolated = still_isolated may_give asking begun session events (events ++ more) longer_session s.isolated;
          };
          left = left;
          bytes = prefix_trans written (output events session) (output (events ++ more) session) begins_so
              (subst (λ (o : Option ℕ). IsPrefix (output_of events session.items o) (output_of (events ++ more) session.items o)) (sym none) (output_longer events more session.items));
          lines = lines;
        }

    abbrev StopsWith : Session → Type 0
    StopsWith session = (stops : IsStopped may_give asking trails begun leaves (events ++ more) written trail) × (stops.session ≡ session)

    by_refusal : (session : Session) (refusal : Option ℕ) → session.refusal ≡ refusal → Continues may_give asking begun events session → leaves session.items → IsPrefix written (output events session) → IsPrefix trail (trail_of trails session.items) → StopsWith session
    unfolding open_session
    by_refusal session None e s left begins_so lines = (open_session session e s left begins_so lines, refl)
    by_refusal session (Some moment) e s left begins_so lines =
        let refused : IfSome (Some moment) (IsRefused may_give events session.items) = subst (λ (o : Option ℕ). IfSome o (IsRefused may_give events session.items)) e s.is_session.refused in
        let none : more ≡ [] = nothing_more 0 events more refused.bad ends in
        let same : events ++ more ≡ events = ap (λ rest. events ++ rest) none ∙ append-nil events in (
          record {
            session = session;
            continues = subst (λ all. Continues may_give asking begun all session) (sym same) s;
            left = left;
            bytes = subst (λ all. IsPrefix written (output all session)) (sym same) begins_so;
            lines = lines;
          },
          refl,
        )

    stops_longer : (s : IsStopped may_give asking trails begun leaves events written trail) → StopsWith s.session
    stops_longer s = by_refusal s.session s.session.refusal refl s.continues s.left s.bytes s.lines

  abbrev StopsAs : (end : PipeEnd) (events : List Heard) (written trail : List ℕ) → IsWritten may_give asking trails begun leaves end events written trail → Type 0
  StopsAs end events written trail w = (stops : IsStopped may_give asking trails begun leaves events written trail) × (stops.session ≡ written_session may_give asking trails begun leaves end events written trail w)

  stops_of_end : (end : PipeEnd) (events : List Heard) (written trail : List ℕ) (w : IsWritten may_give asking trails begun leaves end events written trail) → StopsAs end events written trail w
  stops_of_end Peer events written trail w = (served_stops may_give asking trails begun leaves false events written trail w, served_session may_give asking trails begun leaves false events written trail w)
  stops_of_end (Cut rest) events written trail w = (served_stops may_give asking trails begun leaves false events written trail w, served_session may_give asking trails begun leaves false events written trail w)
  stops_of_end Closed events written trail w = (served_stops may_give asking trails begun leaves false events written trail w, served_session may_give asking trails begun leaves false events written trail w)
  stops_of_end Limit events written trail w = (served_stops may_give asking trails begun leaves false events written trail w, served_session may_give asking trails begun leaves false events written trail w)
  stops_of_end Upgraded events written trail w = (served_stops may_give asking trails begun leaves true events written trail w, served_session may_give asking trails begun leaves true events written trail w)
  stops_of_end (Bad status) events written trail w = (served_stops may_give asking trails begun leaves false events written trail w, served_session may_give asking trails begun leaves false events written trail w)
  stops_of_end ReadFault events written trail w = (served_stops may_give asking trails begun leaves false events written trail w, served_session may_give asking trails begun leaves false events written trail w)
  stops_of_end ReadLimit events written trail w = (served_stops may_give asking trails begun leaves false events written trail w, served_session may_give asking trails begun leaves false events written trail w)
  stops_of_end WriteFault events written trail w = (w, refl)
  stops_of_end NoMemory events written trail w = (w, refl)

  module _ (end : PipeEnd) (old_input new_input old_output new_output old_errors new_errors : Option (List ℕ)) (p : Pipes may_give asking trails begun leaves end old_input new_input old_output new_output old_errors new_errors) where
    -- whatever the end, the bytes written begin those of that session over the bytes read
    abbrev StopsOver : List Heard → Type 0
    StopsOver all = (stops : IsStopped may_give asking trails begun leaves all p.written p.trail) × (stops.session ≡ written_session may_give asking trails begun leaves end p.heard p.written p.trail p.serves)

    pub stops_over : (all : List Heard) (rest : ℕ) → Messages p.read all rest → StopsOver all
    stops_over all rest m =
        let more = (first_of_end end p.read p.heard new_input p.hears).whole all rest m in
        let stops = stops_of_end end p.heard p.written p.trail p.serves in
        let longer = stops_longer p.heard more.0 p.written p.trail (subst (NothingAfterEnd 0) more.1 (ends_there p.read all rest m)) stops.0 in
        subst StopsOver (sym more.1) (longer.0, longer.1 ∙ stops.1)

    pub writes_session : WritesSession may_give asking trails begun leaves old_input new_input old_output new_output
    writes_session = record {
      read = p.read;
      written = p.written;
      trail = p.trail;
      reads = p.reads;
      writes = p.writes;
      session = λ all rest m. (stops_over all rest m).0;
    }
