-- The same with less said of what is left of the holder, and where nothing was served.
use Rattle.std.proofs.Common.{◌≡◌, ℕ, Bool, true, false, List, [], Option, None, refl, sym, subst, ◌∙◌, length-append, arith}
use Rattle.http_conn.specs.Messages.{Messages, unfinished, in_head}
use Rattle.pod_base.specs.declared.heard.Heard.{Heard}
use Rattle.pod_base.specs.declared.request.Request.{Request}
use Rattle.pod_core.specs.History.{History, IsHistory}
use Rattle.pod_core.specs.Session.{Item}
use Rattle.token_table.specs.Credentials.{AskedAgent}
use Rattle.pod_pipe.specs.Served.{IsServed, IsStopped, WritesSession}
use Rattle.pod_pipe.specs.Statuses.{IsWritten, Pipes, PipesAndTells, written_session}
use Rattle.pod_pipe.specs.declared.status.PipeEnd.{PipeEnd}
use Rattle.pod_pipe.specs.declared.status.PipeEnd.TheVariants.{Peer, Cut, Closed, Limit, Upgraded, Bad, ReadFault, WriteFault, NoMemory, ReadLimit}
use Rattle.history_laws.proofs.AlikeSessions.{nothing_isolated}
use Rattle.history_laws.proofs.PodsAtEnd.{same_history}
use Rattle.pod_pipe.proofs.EndingsLemmas.{AreSessionItems, continues, session_of}
use Rattle.pod_pipe.proofs.ServingLemmas.{all_first, nothing_read}
use Rattle.pod_pipe.proofs.LongerSessions.{stops_over, writes_session}
use Rattle.pod_io.proofs.Extending.{nothing_added}

module _ (may_give : ℕ → Type 0) (asking : Request → AskedAgent) (trails : Bool) (begun : History) (leaves less : List Item → Type 0) (weaker : (items : List Item) → leaves items → less items) where
  served : (upgraded : Bool) (events : List Heard) (written trail : List ℕ) → IsServed may_give asking trails begun leaves upgraded events written trail → IsServed may_give asking trails begun less upgraded events written trail
  served upgraded events written trail s = record { session = s.session; continues = s.continues; left = weaker s.session.items s.left; whole = s.whole; last = s.last; bytes = s.bytes; lines = s.lines }

  stopped : (events : List Heard) (written trail : List ℕ) → IsStopped may_give asking trails begun leaves events written trail → IsStopped may_give asking trails begun less events written trail
  stopped events written trail s = record { session = s.session; continues = s.continues; left = weaker s.session.items s.left; bytes = s.bytes; lines = s.lines }

  was_written : (end : PipeEnd) (events : List Heard) (written trail : List ℕ) → IsWritten may_give asking trails begun leaves end events written trail → IsWritten may_give asking trails begun less end events written trail
  was_written Peer events written trail w = served false events written trail w
  was_written (Cut rest) events written trail w = served false events written trail w
  was_written Closed events written trail w = served false events written trail w
  was_written Limit events written trail w = served false events written trail w
  was_written Upgraded events written trail w = served true events written trail w
  was_written (Bad status) events written trail w = served false events written trail w
  was_written ReadFault events written trail w = served false events written trail w
  was_written ReadLimit events written trail w = served false events written trail w
  was_written WriteFault events written trail w = stopped events written trail w
  was_written NoMemory events written trail w = stopped events written trail w

  -- by the same session
  same_session : (end : PipeEnd) (events : List Heard) (written trail : List ℕ) (w : IsWritten may_give asking trails begun leaves end events written trail)
      → written_session may_give asking trails begun leaves end events written trail w ≡ written_session may_give asking trails begun less end events written trail (was_written end events written trail w)
  unfolding was_written served stopped
  same_session Peer events written trail w = refl
  same_session (Cut rest) events written trail w = refl
  same_session Closed events written trail w = refl
  same_session Limit events written trail w = refl
  same_session Upgraded events written trail w = refl
  same_session (Bad status) events written trail w = refl
  same_session ReadFault events written trail w = refl
  same_session ReadLimit events written trail w = refl
  same_session WriteFault events written trail w = refl
  same_session NoMemory events written trail w = refl

  pub pipes_weaker : (end : PipeEnd) (old_input new_input old_output new_output old_errors new_errors : Option (List ℕ)) (before after : ℕ)
      → PipesAndTells may_give asking trails begun leaves end old_input new_input old_output new_output old_errors new_errors before after
      → PipesAndTells may_give asking trails begun less end old_input new_input old_output new_output old_errors new_errors before after
  unfolding stopped
  pipes_weaker end old_input new_input old_output new_output old_errors new_errors before after p = record {
    trailed = p.trailed;
    pipes = record {
      read = p.pipes.read;
      heard = p.pipes.heard;
      written = p.pipes.written;
      trail = p.pipes.trail;
      reads = p.pipes.reads;
      hears = p.pipes.hears;
      serves = was_written end p.pipes.heard p.pipes.written p.pipes.trail p.pipes.serves;
      writes = p.pipes.writes;
      trails_too = p.pipes.trails_too;
    };
    tells = p.tells;
    over_all = λ all rest m.
        let stops = p.over_all all rest m in
        (stopped all p.pipes.written p.pipes.trail stops.0, stops.1 ∙ same_session end p.pipes.heard p.pipes.written p.pipes.trail p.pipes.serves);
  }

  pub session_weaker : (old_input new_input old_output new_output : Option (List ℕ))
      → WritesSession may_give asking trails begun leaves old_input new_input old_output new_output → WritesSession may_give asking trails begun less old_input new_input old_output new_output
  session_weaker old_input new_input old_output new_output w = record {
    read = w.read;
    written = w.written;
    trail = w.trail;
    reads = w.reads;
    writes = w.writes;
    session = λ all rest m. stopped all w.written w.trail (w.session all rest m);
  }

-- an empty text has no events
nothing_heard : Messages [] [] 0
nothing_heard = unfinished [] [] [] refl (record { few = omega arith; stays = tt }) (in_head refl)

-- nothing was read, and nothing written
module _ (may_give : ℕ → Type 0) (asking : Request → AskedAgent) (trails : Bool) (begun : History) (legal : IsHistory begun) (leaves : List Item → Type 0) (left : leaves []) (input output errors : Option (List ℕ)) where
  no_items : AreSessionItems may_give asking begun []
  no_items = record {
    numbers = refl;
    asked = tt;
    answers = tt;
    places = omega (arith, length-append begun.entries []);
    is_history = subst IsHistory (sym (same_history begun)) legal;
    isolated = nothing_isolated may_give 1 begun;
  }

  nothing_stopped : IsStopped may_give asking trails begun leaves [] [] []
  nothing_stopped = record {
    session = session_of may_give asking trails begun leaves [] None;
    continues = continues may_give asking trails begun leaves [] no_items [] None ([], refl) tt tt;
    left = left;
    bytes = ([], refl);
    lines = ([], refl);
  }

  nothing_piped : Pipes may_give asking trails begun leaves NoMemory input input output output errors errors
  nothing_piped = record {
    read = [];
    heard = [];
    written = [];
    trail = [];
    reads = nothing_read input;
    hears = all_first [] [] 0 nothing_heard;
    serves = nothing_stopped;
    writes = nothing_added output;
    trails_too = nothing_added errors;
  }

  pub unserved : (faults : ℕ) → PipesAndTells may_give asking trails begun leaves NoMemory input input output output errors errors faults faults
  unserved faults = record {
    trailed = errors;
    pipes = nothing_piped;
    tells = refl;
    over_all = stops_over may_give asking trails begun leaves NoMemory input input output output errors errors nothing_piped;
  }

  pub unserved_session : WritesSession may_give asking trails begun leaves input input output output
  unserved_session = writes_session may_give asking trails begun leaves NoMemory input input output output errors errors nothing_piped
