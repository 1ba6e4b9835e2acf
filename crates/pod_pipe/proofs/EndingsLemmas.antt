-- A session, where the connection ends.
use Rattle.std.proofs.Common.{◌≡◌, inl, inr, ℕ, Bool, true, false, List, [], ◌++◌, length, map, Option, Some, None, IfSome, refl, sym, ap, subst, length-append, ◌∙◌, ◌≤◌, arith}
use Rattle.std.specs.List.{AllByRecursion, flat_map, range_with_len}
use Rattle.std.proofs.lemmas.List.{append-nil, length-map}
use mathlib.Core.List.{IsPrefix}
use Rattle.conn_talk.specs.Talks.{AreItems, EndsPart, EndsWhole}
use Rattle.conn_talk.specs.Trails.{trail_of}
use Rattle.conn_talk.proofs.HeardLemmas.{requests_append, output_stops}
use Rattle.conn_talk.proofs.ListLemmas.{whole_front}
use Rattle.pod_base.proofs.Prefixes.{prefix_of_append, prefix_trans}
use Rattle.pod_base.specs.declared.request.Request.{Request}
use Rattle.pod_base.specs.declared.heard.Heard.{Heard}
use Rattle.pod_command.specs.declared.entry.Entry.{Entry}
use Rattle.pod_core.specs.History.{History, IsHistory, end_of}
use Rattle.pod_core.specs.Output.{output}
use Rattle.pod_core.specs.Session.{IsItem, IsSession, Item, NeverFalls, Session, UpgradesLast, IsRefused, ends_upgraded, places_of, requests_of}
use Rattle.token_table.specs.Credentials.{AskedAgent}
use Rattle.history_laws.proofs.AlikeSessions.{session_isolated, still_isolated}
use Rattle.history_laws.specs.Isolated.{AreIsolated, AreItemsFrom, IsolatesItems, grown}
use Rattle.pod_pipe.specs.Held.{holder_rules}
use Rattle.pod_pipe.specs.Holders.{Faults}
use Rattle.pod_pipe.specs.Served.{Continues, IsServed, IsStopped, Leaves}
use Rattle.pod_pipe.proofs.ChainLemmas.{Chained, chain_is_session}

-- The items of a session of connection 1 from the end of a history on.
pub record AreSessionItems (may_give : ℕ → Type 0) (asking : Request → AskedAgent) (begun : History) (items : List Item) : Type 0 where
  pub numbers : map (λ (item : Item). item.number) items ≡ range_with_len 1 (length items)
  pub asked : AllByRecursion (λ (item : Item). item.asked ≡ asking item.request) items
  pub answers : AllByRecursion (IsItem may_give 1 (grown begun items)) items
  pub places : NeverFalls (end_of begun) (flat_map places_of items) (end_of (grown begun items))
  pub is_history : IsHistory (grown begun items)
  pub isolated : AreIsolated may_give 1 begun items

module _ (may_give : ℕ → Type 0) (asking : Request → AskedAgent) (trails : Bool) (begun : History) (leaves : List Item → Type 0) where
  abbrev pub session_of : List Item → Option ℕ → Session
  session_of items refusal = record { conn = 1; items = items; refusal = refusal; history = grown begun items }

  -- a session of these events
  pub continues : (items : List Item) → AreSessionItems may_give asking begun items → (events : List Heard) (refusal : Option ℕ) → IsPrefix (map (λ (item : Item). item.request) items) (requests_of events) → UpgradesLast items
      → IfSome refusal (IsRefused may_give events items) → Continues may_give asking begun events (session_of items refusal)
  continues items p events refusal requests last r =
      let s : IsSession may_give asking events (end_of begun) (session_of items refusal) (end_of (grown begun items)) = record {
        requests = requests;
        numbers = p.numbers;
        asked = p.asked;
        answers = p.answers;
        places = p.places;
        last = last;
        refused = r;
      } in
      record {
        conn = refl;
        history = refl;
        is_history = p.is_history;
        is_session = s;
        isolated = session_isolated may_give asking begun (session_of items refusal) events refl s p.isolated;
      }

  -- a whole session is one that stopped
  pub served_stops : (upgraded : Bool) (hears : List Heard) (written lines : List ℕ) → IsServed may_give asking trails begun leaves upgraded hears written lines → IsStopped may_give asking trails begun leaves hears written lines
  served_stops upgraded hears written lines s = record {
    session = s.session;
    continues = s.continues;
    left = s.left;
    bytes = ([], append-nil _ ∙ s.bytes);
    lines = ([], append-nil _ ∙ s.lines);
  }

  pub served_session : (upgraded : Bool) (hears : List Heard) (written lines : List ℕ) (s : IsServed may_give asking trails begun leaves upgraded hears written lines) → (served_stops upgraded hears written lines s).session ≡ s.session
  unfolding served_stops
  served_session upgraded hears written lines s = refl

  -- the session of a switch of protocols is one of whatever was heard behind it
  module _ (hears more : List Heard) (written lines : List ℕ) (s : IsServed may_give asking trails begun leaves true hears written lines) where
    refusal_is : (refusal : Option ℕ) → IfSome refusal (IsRefused may_give hears s.session.items) → refusal ≡ None
    refusal_is None h = refl
    refusal_is (Some moment) h = let never : true ≡ false = sym s.last ∙ h.open_still in absurd cc

    no_refusal : s.session.refusal ≡ None
    no_refusal = refusal_is s.session.refusal s.continues.is_session.refused

    first_requests : IsPrefix (requests_of hears) (requests_of (hears ++ more))
    first_requests = subst (IsPrefix (requests_of hears)) (sym (requests_append hears more)) (prefix_of_append (requests_of hears) (requests_of more))

    few_items : length s.session.items ≤ length (requests_of hears)
    few_items =
        let begins_so = s.continues.is_session.requests in
        omega (arith, length-map s.session.items (λ (i : Item). i.request), length-append (map (λ (i : Item). i.request) s.session.items) begins_so.0, ap length begins_so.1)

    session_longer : IsSession may_give asking (hears ++ more) (end_of begun) s.session (end_of s.session.history)
    session_longer = record {
      requests = prefix_trans _ (requests_of hears) (requests_of (hears ++ more)) s.continues.is_session.requests first_requests;
      numbers = s.continues.is_session.numbers;
      asked = s.continues.is_session.asked;
      answers = s.continues.is_session.answers;
      places = s.continues.is_session.places;
      last = s.continues.is_session.last;
      refused = subst (λ (o : Option ℕ). IfSome o (IsRefused may_give (hears ++ more) s.session.items)) (sym no_refusal) tt;
    }

    pub served_longer : IsServed may_give asking trails begun leaves true (hears ++ more) written lines
    served_longer = record {
      session = s.session;
      continues = record {
        conn = s.continues.conn;
        history = s.continues.history;
        is_history = s.continues.is_history;
        is_session = session_longer;
        isolated = still_isolated may_give asking begun s.session hears (hears ++ more) session_longer s.continues.isolated;
      };
      left = s.left;
      whole = inl s.last;
      last = s.last;
      bytes = s.bytes ∙ sym (output_stops hears more s.session.items s.session.refusal s.last few_items);
      lines = s.lines;
    }

-- the ends of a connection that a holder answered, over one history that it represented
module _ {A H : Type 0} (stands : H → History → Option Entry → Type 0) (faults : H → Faults) (takes : ℕ → ℕ → H → History → Option Entry → Item → H → Option Entry → Type 0) (legal : (holder : H) (history : History) (doubt : Option Entry) → stands holder history doubt → IsHistory history)
    (holder_of : A → H) (may_give : ℕ → Type 0) (asking : Request → AskedAgent) (trails : Bool) (law : IsolatesItems may_give) (begun : History) (doubt : Option Entry) (first last : A) (held : stands (holder_of first) begun doubt) where
  abbrev pub holder_leaves : List Item → Type 0
  holder_leaves = Leaves stands takes may_give faults begun doubt (holder_of first) (holder_of last)

  chained : (items : List Item) → AreItems (holder_rules stands faults takes holder_of may_give asking trails) first last items → Chained stands faults takes holder_of may_give asking trails begun doubt first last items
  chained items a = chain_is_session stands faults takes holder_of may_give asking trails items first last begun doubt held a.chain

  session_items : (items : List Item) → AreItems (holder_rules stands faults takes holder_of may_give asking trails) first last items → AreSessionItems may_give asking begun items
  session_items items a =
      let c = chained items a in
      let from : AreItemsFrom may_give 1 begun items = record { is_history = legal (holder_of last) (grown begun items) c.left.after c.left.represents; answers = c.so_far.answers; places = c.so_far.places } in
      record {
        numbers = a.numbers;
        asked = a.asked;
        answers = from.answers;
        places = from.places;
        is_history = from.is_history;
        isolated = law 1 begun items from;
      }

  -- all events were answered
  pub served_of : (upgraded : Bool) (events : List Heard) (written trail : List ℕ) → EndsWhole (holder_rules stands faults takes holder_of may_give asking trails) upgraded first last events written trail → IsServed may_give asking trails begun holder_leaves upgraded events written trail
  served_of upgraded events written trail e = record {
    session = session_of may_give asking trails begun holder_leaves e.items e.refusal;
    continues = continues may_give asking trails begun holder_leaves e.items (session_items e.items e.are_items) events e.refusal (whole_front _ _ e.requests) e.last e.refused;
    left = (chained e.items e.are_items).left;
    whole = inr (sym (length-map e.items (λ (i : Item). i.request)) ∙ ap length e.requests, e.refuses);
    last = e.upgraded_is;
    bytes = e.output;
    lines = e.lines;
  }

  -- the connection was cut off
  pub stopped_of : (number : ℕ) (events : List Heard) (written trail : List ℕ) → EndsPart (holder_rules stands faults takes holder_of may_give asking trails) number first last events written trail → IsStopped may_give asking trails begun holder_leaves events written trail
  stopped_of number events written trail e = record {
    session = session_of may_give asking trails begun holder_leaves e.items e.refusal;
    continues = continues may_give asking trails begun holder_leaves e.items (session_items e.items e.are_items) events e.refusal e.requests e.last e.refused;
    left = (chained e.items e.are_items).left;
    bytes = e.output;
    lines = e.lines;
  }
