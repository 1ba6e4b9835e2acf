-- Connections of one world, one step after the other: each change at the place of its entry, and all
-- else at the place at which it was answered.
use Rattle.std.proofs.Common.{◌≡◌, ◌≢◌, ◌⊎◌, inl, inr, ℕ, ◌+◌, ◌<◌, ◌≤◌, ◌==◌, ◌&&◌, Bool, true, false, if◌then◌else◌, List, [], ◌∷◌, ◌++◌, length, map, Option, Some, None, is_some, refl, sym, ap, subst, append_assoc, length-append, ◌∙◌, arith}
use Rattle.std.specs.List.{AllByRecursion}
use Rattle.std.specs.Option.{option_to_list}
use Rattle.std.proofs.lemmas.Bool.Decides.{eqb_tells}
use Rattle.std.proofs.lemmas.List.{append-nil}
use mathlib.Core.List.{IsPrefix}
use Rattle.http_conn.specs.Messages.{Messages}
use Rattle.pod_base.proofs.Prefixes.{prefix_length, prefix_trans}
use Rattle.pod_base.specs.declared.heard.Heard.{Heard}
use Rattle.pod_base.specs.declared.heard.Heard.TheVariants as heard
use Rattle.pod_base.specs.declared.request.Request.{Request}
use Rattle.pod_command.specs.declared.entry.Entry.{Entry}
use Rattle.pod_core.specs.History.{History, end_of, longer}
use Rattle.pod_core.specs.KeeperSteps.{KeeperView, free}
use Rattle.pod_core.specs.Session.{Item, Outcome, answered, disk_fault, no_memory}
use Rattle.pod_core.specs.World.{Connection, Event, IsSettled, World, WorldRun, WritesInterims, arrive, first_interims, interims_text, look, put_connection, with_connection}
use Rattle.conn_talk.specs.Walks.{clock_stamp}
use Rattle.conn_talk.proofs.AtEndLemmas.{longer_again}
use Rattle.pod_live.specs.WorldEvents.{IsAtRest, change_events, doubt_after}
use Rattle.pod_reply.specs.Replies.{Reply}
use Rattle.pod_serve.specs.WorldRuns.{Answers, Arrives, Changes, HasConnection, Looks, Refuses, world_at}
use Rattle.reply_laws.specs.Granted.{is_change}
use Rattle.serve_laws.specs.EachOnce.{adds_on, times_added}
use Rattle.serve_laws.specs.Replied.{IsReplied}
use Rattle.serve_laws.proofs.Counting.{counts_equal, counts_none, one_if}
use Rattle.token_table.specs.Credentials.{AskedAgent}
use Rattle.world_laws.proofs.WorldLists.{cancel_left, interims_first, later_events, none_after}

-- ---- steps

pub data Step : Type 0 where
  reads : (piece : List ℕ) → Step
  answers : (item : Item) → Step
  refuses : (moment : ℕ) → Step

abbrev pub steps_items : List Step → List Item
steps_items [] = []
steps_items (reads piece ∷ steps) = steps_items steps
steps_items (answers item ∷ steps) = item ∷ steps_items steps
steps_items (refuses moment ∷ steps) = steps_items steps

abbrev pub place_on : Outcome → ℕ
place_on (answered place reply) = place
place_on no_memory = 0
place_on disk_fault = 0

abbrev pub adds_of : Outcome → ℕ
adds_of (answered place reply) = length (option_to_list reply.entry)
adds_of no_memory = 0
adds_of disk_fault = 0

-- it was answered, and a read has no entry
pub record IsFine (item : Item) : Type 0 where
  pub replied : IsReplied item.outcome
  pub no_entry : is_change item.request.method ≡ false → adds_of item.outcome ≡ 0

-- places from this one on, each after the entries before it
abbrev pub Climbs : ℕ → List Item → Type 0
Climbs place [] = Unit {0}
Climbs place (item ∷ items) = (place ≤ place_on item.outcome) × Climbs (place_on item.outcome + adds_of item.outcome) items

pub climbs_from : (few many : ℕ) (items : List Item) → few ≤ many → Climbs many items → Climbs few items
climbs_from few many [] le c = tt
climbs_from few many (item ∷ items) le c = (omega (arith, le, c.0), c.1)

-- ---- how often an entry is at a place

no_entry_counts : (o : Option Entry) (b : Bool) → length (option_to_list o) ≡ 0 → one_if (is_some o && b) ≡ 0
no_entry_counts None b e = refl
no_entry_counts (Some entry) b e = absurd (omega (arith, e))

none_counts : (place : ℕ) (o : Outcome) → adds_of o ≡ 0 → one_if (adds_on place o) ≡ 0
none_counts place (answered other reply) e = no_entry_counts reply.entry (other == place) e
none_counts place no_memory e = refl
none_counts place disk_fault e = refl

entry_counts : (o : Option Entry) (b : Bool) → one_if b ≡ 0 → one_if (is_some o && b) ≡ 0
entry_counts None b e = refl
entry_counts (Some entry) b e = e

other_counts : (place : ℕ) (o : Outcome) → IsReplied o → place_on o ≢ place → one_if (adds_on place o) ≡ 0
other_counts place (answered other reply) r ne = entry_counts reply.entry (other == place) (counts_none other place ne)
other_counts place no_memory r ne = refl
other_counts place disk_fault r ne = refl

one_entry_counts : (o : Option Entry) (b : Bool) → length (option_to_list o) ≡ 1 → one_if b ≡ 1 → one_if (is_some o && b) ≡ 1
one_entry_counts None b e f = absurd (omega (arith, e))
one_entry_counts (Some entry) b e f = f

here_counts : (place : ℕ) (o : Outcome) → IsReplied o → place_on o ≡ place → adds_of o ≡ 1 → one_if (adds_on place o) ≡ 1
here_counts place (answered other reply) r same one = one_entry_counts reply.entry (other == place) one (counts_equal other place same)
here_counts place no_memory r same one = absurd r
here_counts place disk_fault r same one = absurd r

-- no entry is before the place from which they climb
none_before : (place from : ℕ) (items : List Item) → Climbs from items → AllByRecursion IsFine items → place < from → times_added place items ≡ 0
none_before place from [] c f less = refl
none_before place from (item ∷ items) c f less =
    omega (
      arith,
      other_counts place item.outcome f.0.replied (λ e. omega (arith, e, less, c.0)),
      none_before place (place_on item.outcome + adds_of item.outcome) items c.1 f.1 (omega (arith, less, c.0)),
    )

-- ---- prefixes of one list

tail_prefix : (x y : Entry) (xs ys : List Entry) → IsPrefix (x ∷ xs) (y ∷ ys) → (x ≡ y) × IsPrefix xs ys
tail_prefix x y xs ys p = (cc p.1, (p.0, cc p.1))

pub same_prefix : (xs ys all : List Entry) → IsPrefix xs all → IsPrefix ys all → length xs ≡ length ys → xs ≡ ys
same_prefix [] [] all p q e = refl
same_prefix [] (y ∷ ys) all p q e = absurd (omega (arith, e))
same_prefix (x ∷ xs) [] all p q e = absurd (omega (arith, e))
same_prefix (x ∷ xs) (y ∷ ys) [] p q e = absurd (cc p.1)
same_prefix (x ∷ xs) (y ∷ ys) (z ∷ all) p q e =
    let a = tail_prefix x z xs all p in
    let b = tail_prefix y z ys all q in
    (λ i. (a.0 ∙ sym b.0) i ∷ same_prefix xs ys all a.1 b.1 (omega (arith, e)) i)

-- ---- connections by number

module _ (connections : ℕ → Option Connection) (conn : ℕ) (to : Connection) where
  put_same : put_connection connections conn to conn ≡ Some to
  put_same = elim (eqb_tells conn conn) [
    | inl w ↦ ap (λ b. if b then Some to else connections conn) w.0
    | inr w ↦ absurd (w.1 refl)
  ]

  put_other : (n : ℕ) → n ≢ conn → put_connection connections conn to n ≡ connections n
  put_other n ne = elim (eqb_tells n conn) [
    | inl w ↦ absurd (ne w.1)
    | inr w ↦ ap (λ b. if b then Some to else connections n) w.0
  ]

-- ---- settled connections stay so

settled_none : (later : List Heard) → first_interims (later_events later) ≡ []
settled_none [] = refl
settled_none (heard.Interim ∷ later) = settled_none later
settled_none (heard.Request r ∷ later) = refl
settled_none (heard.Bad status ∷ later) = refl

settled_again : (old new : Option Connection) → IsSettled old new → IsSettled new new
settled_again None None s = tt
settled_again None (Some new) s = absurd s
settled_again (Some old) None s = absurd s
settled_again (Some old) (Some new) (inl s) = inl (ap (λ (c : Connection). c.switched) s.1 ∙ s.0, refl)
settled_again (Some old) (Some new) (inr w) =
    let now : Connection = record old { output = old.output ++ interims_text w.later; done = old.done ++ first_interims w.later } in
    let all : (old.done ++ first_interims w.later) ++ later_events w.later ≡ old.done ++ w.later =
    append_assoc old.done (first_interims w.later) (later_events w.later) ∙ ap (λ h. old.done ++ h) (sym (interims_first w.later)) in
    let writes : WritesInterims now now = record {
      later = later_events w.later;
      rest = w.rest;
      events = subst (λ h. Messages old.input h w.rest) (sym all) w.events;
      not_switched = w.not_switched;
      new_is = λ i. record now {
        output = (sym (append-nil now.output) ∙ ap (λ t. now.output ++ t) (sym (none_after w.later))) i;
        done = (sym (append-nil now.done) ∙ ap (λ t. now.done ++ t) (sym (settled_none w.later))) i;
      };
    } in
    inr (subst (λ (c : Connection). WritesInterims c c) (sym w.new_is) writes)

module _ (may_give : ℕ → Type 0) (asking : Request → AskedAgent) where
  run_settled : (events : List Event) (old new : World) → WorldRun may_give asking old events new → ((n : ℕ) → IsSettled (old.connections n) (old.connections n)) → (n : ℕ) → IsSettled (new.connections n) (new.connections n)
  run_settled [] old new is settled n = subst (λ (w : World). IsSettled (w.connections n) (w.connections n)) (sym is) (settled n)
  run_settled (event ∷ events) old new run settled n =
      run_settled events run.0 new run.2 (λ m. settled_again (run.1.done.connections m) (run.0.connections m) (run.1.settled m)) n

  pub run_more : (events more : List Event) (old mid new : World) → WorldRun may_give asking old events mid → WorldRun may_give asking mid more new → WorldRun may_give asking old (events ++ more) new
  run_more [] more old mid new is run = subst (λ (w : World). WorldRun may_give asking w more new) is run
  run_more (event ∷ events) more old mid new first run = (first.0, first.1, run_more events more first.0 mid new first.2 run)

module _ (kept : History → Type 0) (may_give : ℕ → Type 0) (asking : Request → AskedAgent) where
  -- these steps of a connection, one after the other
  abbrev pub Goes : ℕ → List Entry → Connection → List Step → Connection → Type 0
  Goes conn shown from [] to = to ≡ from
  Goes conn shown from (reads piece ∷ steps) to = (mid : Connection) × Arrives kept may_give asking conn shown from piece mid × Goes conn shown mid steps to
  Goes conn shown from (answers item ∷ steps) to = (mid : Connection) × Answers kept may_give asking conn shown from item item.outcome mid × Goes conn shown mid steps to
  Goes conn shown from (refuses moment ∷ steps) to = (mid : Connection) × Refuses kept may_give asking conn shown from (Some moment) mid × Goes conn shown mid steps to

  -- a connection, the steps that are left for it, and where they lead
  pub record Track : Type 0 where
    pub conn : ℕ
    pub shown : List Entry
    pub from : Connection
    pub steps : List Step
    pub last : Connection
    pub goes : Goes conn shown from steps last

  -- `history` is one that was kept, and `list` the entries that were made since
  module _ (history : History) (held : kept history) (list : List Entry) (base : ℕ) (based : end_of history ≡ base) (start : World)
      (seen_shown : (events : List Event) (world : World) → WorldRun may_give asking start events world → (n : ℕ) (c : Connection) → world.connections n ≡ Some c → c.seen ≤ world.published) where
    -- The world is at rest after these entries, and its connections are settled.
    pub record At (entries : List Entry) (world : World) : Type 0 where
      pub events : List Event
      pub run : WorldRun may_give asking start events world
      pub runs : world.stopped ≡ false
      pub keeper : world.keeper ≡ record { history = longer history entries; doubt = None; phase = free }
      pub published : world.published ≡ end_of (longer history entries)
      pub settled : (n : ℕ) → IsSettled (world.connections n) (world.connections n)

    end_is : (entries : List Entry) → end_of (longer history entries) ≡ base + length entries
    end_is entries = omega (arith, based, length-append history.entries entries)

    record Moved (conn : ℕ) (to : Connection) (entries : List Entry) (world : World) : Type 0 where
      now : World
      at : At entries now
      there : now.connections conn ≡ Some to
      others : (n : ℕ) → n ≢ conn → now.connections n ≡ world.connections n

    module _ (entries : List Entry) (world : World) (at : At entries world) (conn : ℕ) where
      has_so : (from : Connection) → world.connections conn ≡ Some from → HasConnection world conn from
      has_so from there = record { runs = at.runs; is_there = there; settled = at.settled }

      -- only the connection changes
      moves_to : (to : Connection) (events : List Event) → WorldRun may_give asking world events (with_connection world conn to) → Moved conn to entries world
      moves_to to events run = record {
        now = with_connection world conn to;
        at = record {
          events = at.events ++ events;
          run = run_more may_give asking at.events events start world (with_connection world conn to) at.run run;
          runs = at.runs;
          keeper = at.keeper;
          published = at.published;
          settled = run_settled may_give asking events world (with_connection world conn to) run at.settled;
        };
        there = put_same world.connections conn to;
        others = put_other world.connections conn to;
      }

      at_rest : IsAtRest (longer history entries) None world
      at_rest = record { keeper = at.keeper; published = at.published }

      -- without an entry
      same_world : (to : Connection) → world_at world (longer (longer history entries) []) None conn to ≡ with_connection world conn to
      same_world to =
          let same : longer (longer history entries) [] ≡ longer history entries = λ i. record history { entries = append-nil (history.entries ++ entries) i } in
          (λ i. world_at world (same i) None conn to) ∙ (λ i. record world { keeper = sym at.keeper i; published = sym at.published i; connections = put_connection world.connections conn to })

    -- ---- one connection, as far as it gets at a place

    abbrev Stuck : ℕ → List Step → Type 0
    Stuck place [] = Unit {0}
    Stuck place (answers item ∷ steps) = (place < place_on item.outcome) ⊎ ((place_on item.outcome ≡ place) × (adds_of item.outcome ≡ 1))
    Stuck place (reads piece ∷ steps) = ⊥
    Stuck place (refuses moment ∷ steps) = ⊥

    record Drained (conn : ℕ) (shown : List Entry) (entries : List Entry) (world : World) (steps_before : List Step) (last : Connection) : Type 0 where
      now : World
      at : At entries now
      from : Connection
      steps : List Step
      goes : Goes conn shown from steps last
      there : now.connections conn ≡ Some from
      others : (n : ℕ) → n ≢ conn → now.connections n ≡ world.connections n
      climbs : Climbs (base + length entries) (steps_items steps)
      fine : AllByRecursion IsFine (steps_items steps)
      times : (place : ℕ) → times_added place (steps_items steps) ≡ times_added place (steps_items steps_before)
      stuck : Stuck (base + length entries) steps

    module _ (conn : ℕ) (shown : List Entry) (within : IsPrefix shown list) (last : Connection) (entries : List Entry) (before : IsPrefix entries list) where
      stays_here : (steps : List Step) (from : Connection) (world : World) → At entries world → world.connections conn ≡ Some from → Goes conn shown from steps last → Climbs (base + length entries) (steps_items steps) → AllByRecursion IsFine (steps_items steps) → Stuck (base + length entries) steps
          → Drained conn shown entries world steps last
      stays_here steps from world at there goes c f stuck = record { now = world; at = at; from = from; steps = steps; goes = goes; there = there; others = λ n ne. refl; climbs = c; fine = f; times = λ place. refl; stuck = stuck }

      -- after a step that adds no entry
      moved_on : (more steps : List Step) (mid : Connection) (world : World) (m : Moved conn mid entries world) → ((place : ℕ) → times_added place (steps_items more) ≡ times_added place (steps_items steps)) → Drained conn shown entries m.now more last → Drained conn shown entries world steps last
      moved_on more steps mid world m same d = record {
        now = d.now;
        at = d.at;
        from = d.from;
        steps = d.steps;
        goes = d.goes;
        there = d.there;
        others = λ n ne. d.others n ne ∙ m.others n ne;
        climbs = d.climbs;
        fine = d.fine;
        times = λ place. d.times place ∙ same place;
        stuck = d.stuck;
      }

      module _ (item : Item) (steps : List Step) (from mid : Connection) (world : World) (at : At entries world) (there : world.connections conn ≡ Some from) (rest : Goes conn shown mid steps last)
          (c : Climbs (base + length entries) (item ∷ steps_items steps)) (f : AllByRecursion IsFine (item ∷ steps_items steps))
          (more : (world_now : World) → At entries world_now → world_now.connections conn ≡ Some mid → Climbs (base + length entries) (steps_items steps) → AllByRecursion IsFine (steps_items steps) → Drained conn shown entries world_now steps last) where
        answered_here : (m : Moved conn mid entries world) → place_on item.outcome ≡ base + length entries → adds_of item.outcome ≡ 0 → Drained conn shown entries world (answers item ∷ steps) last
        answered_here m here none =
            moved_on steps (answers item ∷ steps) mid world m (λ place. omega (arith, none_counts place item.outcome none))
            (more m.now m.at m.there (climbs_from (base + length entries) (place_on item.outcome + adds_of item.outcome) (steps_items steps) (omega (arith, here, none)) c.1) f.1)

        looks_here : (place : ℕ) (l : Looks kept may_give asking conn shown from item place mid) → place ≡ base + length entries → Moved conn mid entries world
        looks_here place l here =
            let at_l : place ≡ base + length l.entries = l.at history held ∙ end_is l.entries in
            let same : l.entries ≡ entries = same_prefix l.entries entries list (prefix_trans l.entries shown list l.seen within) before (omega (arith, at_l, here)) in
            let l_published : world.published ≡ end_of (longer history l.entries) = at.published ∙ ap (λ (es : List Entry). end_of (longer history es)) (sym same) in
            let l_history : world.keeper.history ≡ longer (longer history l.entries) [] =
            ap (λ (k : KeeperView). k.history) at.keeper ∙ (ap (λ (es : List Entry). longer history es) (sym same) ∙ (λ i. record history { entries = sym (append-nil (history.entries ++ l.entries)) i })) in
            moves_to entries world at conn mid (look conn place item.moment ∷ []) (l.look history held world (has_so entries world at conn from there) (record { more = []; history_is = l_history; published = l_published }))

        changes_here : (place : ℕ) (reply : Reply) (ch : Changes kept may_give asking conn shown from item place reply mid) → place ≡ base + length entries → reply.entry ≡ None → Moved conn mid entries world
        changes_here place reply ch here none =
            let at_ch : place ≡ base + length ch.entries = ch.at history held ∙ end_is ch.entries in
            let ch_within : IsPrefix ch.entries list = prefix_trans ch.entries shown list (prefix_trans ch.entries (ch.entries ++ option_to_list reply.entry) shown (option_to_list reply.entry, refl) ch.seen) within in
            let same : ch.entries ≡ entries = same_prefix ch.entries entries list ch_within before (omega (arith, at_ch, here)) in
            let rests : IsAtRest (longer history ch.entries) None world = subst (λ (es : List Entry). IsAtRest (longer history es) None world) (sym same) (at_rest entries world at conn) in
            let to : world_at world (longer (longer history ch.entries) (option_to_list reply.entry)) (doubt_after None reply.entry) conn mid ≡ with_connection world conn mid =
            (λ i. world_at world (longer (longer history (same i)) (option_to_list (none i))) (doubt_after None (none i)) conn mid) ∙ same_world entries world at conn mid in
            moves_to entries world at conn mid (change_events (clock_stamp conn ch.clock item) None reply.entry)
            (subst (WorldRun may_give asking world (change_events (clock_stamp conn ch.clock item) None reply.entry)) to (ch.change history held None world (has_so entries world at conn from there) rests))

        by_change : (place : ℕ) (reply : Reply) → item.outcome ≡ answered place reply → (ch : Changes kept may_give asking conn shown from item place reply mid) → place ≡ base + length entries → (o : Option Entry) → reply.entry ≡ o → Goes conn shown from (answers item ∷ steps) last → Drained conn shown entries world (answers item ∷ steps) last
        by_change place reply is ch here None none goes =
            answered_here (changes_here place reply ch here none) (ap place_on is ∙ here) (ap adds_of is ∙ ap (λ (o : Option Entry). length (option_to_list o)) none)
        by_change place reply is ch here (Some entry) some goes =
            stays_here (answers item ∷ steps) from world at there goes c f (inr (ap place_on is ∙ here, ap adds_of is ∙ ap (λ (o : Option Entry). length (option_to_list o)) some))

        by_outcome : (o : Outcome) → item.outcome ≡ o → Answers kept may_give asking conn shown from item o mid → Goes conn shown from (answers item ∷ steps) last → Drained conn shown entries world (answers item ∷ steps) last
        by_outcome no_memory is a goes = absurd (subst IsReplied is f.0.replied)
        by_outcome disk_fault is a goes = absurd (subst IsReplied is f.0.replied)
        by_outcome (answered place reply) is a goes = elim (eqb_tells place (base + length entries)) [
          | inl w ↦ elim a [
            | inl l ↦ answered_here (looks_here place l w.1) (ap place_on is ∙ w.1) (f.0.no_entry l.reads)
            | inr ch ↦ by_change place reply is ch w.1 reply.entry refl goes
          ]
          | inr w ↦
              let ne : place ≢ base + length entries = w.1 in
              let far : base + length entries < place_on item.outcome = omega (arith, c.0, ap place_on is, λ (e : place ≡ base + length entries). ne e) in
              stays_here (answers item ∷ steps) from world at there goes c f (inl far)
        ]

      drain : (steps : List Step) (from : Connection) (world : World) → At entries world → world.connections conn ≡ Some from → Goes conn shown from steps last → Climbs (base + length entries) (steps_items steps) → AllByRecursion IsFine (steps_items steps) → Drained conn shown entries world steps last
      drain [] from world at there goes c f = stays_here [] from world at there goes c f tt
      drain (reads piece ∷ steps) from world at there goes c f =
          let m = moves_to entries world at conn goes.0 (arrive conn piece ∷ []) (goes.1 world (has_so entries world at conn from there)) in
          moved_on steps (reads piece ∷ steps) goes.0 world m (λ place. refl) (drain steps goes.0 m.now m.at m.there goes.2 c f)
      drain (refuses moment ∷ steps) from world at there goes c f =
          let m = moves_to entries world at conn goes.0 (look conn from.seen moment ∷ []) (goes.1 world (has_so entries world at conn from there) (seen_shown at.events world at.run conn from there)) in
          moved_on steps (refuses moment ∷ steps) goes.0 world m (λ place. refl) (drain steps goes.0 m.now m.at m.there goes.2 c f)
      drain (answers item ∷ steps) from world at there goes c f =
          by_outcome item steps from goes.0 world at there goes.2 c f (λ now at_now there_now c_now f_now. drain steps goes.0 now at_now there_now goes.2 c_now f_now) item.outcome refl goes.1 goes

    -- ---- all connections

    pub record IsOk (place : ℕ) (world : World) (t : Track) : Type 0 where
      pub there : world.connections t.conn ≡ Some t.from
      pub within : IsPrefix t.shown list
      pub climbs : Climbs place (steps_items t.steps)
      pub fine : AllByRecursion IsFine (steps_items t.steps)

    abbrev NotIn : ℕ → List Track → Type 0
    NotIn n tracks = AllByRecursion (λ (t : Track). n ≢ t.conn) tracks

    abbrev pub Apart : List Track → Type 0
    Apart [] = Unit {0}
    Apart (t ∷ ts) = NotIn t.conn ts × Apart ts

    -- the same connections, which come to the same
    abbrev SameEnds : List Track → List Track → Type 0
    SameEnds [] [] = Unit {0}
    SameEnds [] (u ∷ us) = ⊥
    SameEnds (t ∷ ts) [] = ⊥
    SameEnds (t ∷ ts) (u ∷ us) = (u.conn ≡ t.conn) × (u.last ≡ t.last) × SameEnds ts us

    same_self : (ts : List Track) → SameEnds ts ts
    same_self [] = tt
    same_self (t ∷ ts) = (refl, refl, same_self ts)

    same_trans : (ts us vs : List Track) → SameEnds ts us → SameEnds us vs → SameEnds ts vs
    same_trans [] [] [] s r = tt
    same_trans [] [] (v ∷ vs) s r = absurd r
    same_trans [] (u ∷ us) vs s r = absurd s
    same_trans (t ∷ ts) [] vs s r = absurd s
    same_trans (t ∷ ts) (u ∷ us) [] s r = absurd r
    same_trans (t ∷ ts) (u ∷ us) (v ∷ vs) s r = (r.0 ∙ s.0, r.1 ∙ s.1, same_trans ts us vs s.2 r.2)

    not_in_same : (n : ℕ) (ts us : List Track) → SameEnds ts us → NotIn n ts → NotIn n us
    not_in_same n [] [] s a = tt
    not_in_same n [] (u ∷ us) s a = absurd s
    not_in_same n (t ∷ ts) [] s a = absurd s
    not_in_same n (t ∷ ts) (u ∷ us) s a = (λ e. a.0 (e ∙ s.0), not_in_same n ts us s.2 a.1)

    apart_same : (ts us : List Track) → SameEnds ts us → Apart ts → Apart us
    apart_same [] [] s a = tt
    apart_same [] (u ∷ us) s a = absurd s
    apart_same (t ∷ ts) [] s a = absurd s
    apart_same (t ∷ ts) (u ∷ us) s a = (subst (λ n. NotIn n us) (sym s.0) (not_in_same t.conn ts us s.2 a.0), apart_same ts us s.2 a.1)

    abbrev pub total : ℕ → List Track → ℕ
    total place [] = 0
    total place (t ∷ ts) = times_added place (steps_items t.steps) + total place ts

    -- what others do changes nothing of these
    ok_still : (place : ℕ) (old new : World) (conn : ℕ) → ((n : ℕ) → n ≢ conn → new.connections n ≡ old.connections n) → (ts : List Track) → NotIn conn ts → AllByRecursion (IsOk place old) ts → AllByRecursion (IsOk place new) ts
    ok_still place old new conn others [] a ok = tt
    ok_still place old new conn others (t ∷ ts) a ok = (
      record { there = others t.conn (λ e. a.0 (sym e)) ∙ ok.0.there; within = ok.0.within; climbs = ok.0.climbs; fine = ok.0.fine },
      ok_still place old new conn others ts a.1 ok.1,
    )

    abbrev IsStuck : ℕ → Track → Type 0
    IsStuck place t = Stuck place t.steps

    record AllDrained (entries : List Entry) (world : World) (ts : List Track) : Type 0 where
      now : World
      at : At entries now
      us : List Track
      same : SameEnds ts us
      ok : AllByRecursion (IsOk (base + length entries) now) us
      stuck : AllByRecursion (IsStuck (base + length entries)) us
      others : (n : ℕ) → NotIn n ts → now.connections n ≡ world.connections n
      totals : (place : ℕ) → total place us ≡ total place ts

    drain_all : (entries : List Entry) → IsPrefix entries list → (ts : List Track) (world : World) → At entries world → AllByRecursion (IsOk (base + length entries) world) ts → Apart ts → AllDrained entries world ts
    drain_all entries before [] world at ok apart = record { now = world; at = at; us = []; same = tt; ok = tt; stuck = tt; others = λ n a. refl; totals = λ place. refl }
    drain_all entries before (t ∷ ts) world at ok apart =
        let d = drain t.conn t.shown ok.0.within t.last entries before t.steps t.from world at ok.0.there t.goes ok.0.climbs ok.0.fine in
        let r = drain_all entries before ts d.now d.at (ok_still (base + length entries) world d.now t.conn d.others ts apart.0 ok.1) apart.1 in
        let u : Track = record { conn = t.conn; shown = t.shown; from = d.from; steps = d.steps; last = t.last; goes = d.goes } in
        record {
          now = r.now;
          at = r.at;
          us = u ∷ r.us;
          same = (refl, refl, r.same);
          ok = (record { there = r.others t.conn apart.0 ∙ d.there; within = ok.0.within; climbs = d.climbs; fine = d.fine }, r.ok);
          stuck = (d.stuck, r.stuck);
          others = λ n a. r.others n a.1 ∙ d.others n a.0;
          totals = λ place. omega (arith, d.times place, r.totals place);
        }

    -- ---- the entry at a place

    -- a connection that adds no entry there is past it
    past : (place : ℕ) (steps : List Step) → Climbs place (steps_items steps) → AllByRecursion IsFine (steps_items steps) → Stuck place steps → times_added place (steps_items steps) ≡ 0 → Climbs (place + 1) (steps_items steps)
    past place [] c f s none = tt
    past place (reads piece ∷ steps) c f s none = absurd s
    past place (refuses moment ∷ steps) c f s none = absurd s
    past place (answers item ∷ steps) c f (inl far) none = (omega (arith, far), c.1)
    past place (answers item ∷ steps) c f (inr here) none = absurd (omega (arith, none, here_counts place item.outcome f.0.replied here.0 here.1))

    all_past : (place : ℕ) (world : World) (ts : List Track) → AllByRecursion (IsOk place world) ts → AllByRecursion (IsStuck place) ts → total place ts ≡ 0 → AllByRecursion (IsOk (place + 1) world) ts
    all_past place world [] ok stuck none = tt
    all_past place world (t ∷ ts) ok stuck none = (
      record { there = ok.0.there; within = ok.0.within; climbs = past place t.steps ok.0.climbs ok.0.fine stuck.0 (omega (arith, none)); fine = ok.0.fine },
      all_past place world ts ok.1 stuck.1 (omega (arith, none)),
    )

    record Entered (entries : List Entry) (entry : Entry) (world : World) (ts : List Track) : Type 0 where
      now : World
      at : At (entries ++ entry ∷ []) now
      us : List Track
      same : SameEnds ts us
      ok : AllByRecursion (IsOk (base + length entries + 1) now) us
      others : (n : ℕ) → NotIn n ts → now.connections n ≡ world.connections n
      totals : (place : ℕ) → base + length entries < place → total place us ≡ total place ts

    module _ (entries : List Entry) (entry : Entry) (more : List Entry) (cut : entries ++ entry ∷ more ≡ list) where
      abbrev place_now : ℕ
      place_now = base + length entries

      before_it : IsPrefix entries list
      before_it = (entry ∷ more, cut)

      -- the entry of a change at this place is this one
      same_entry : (e : Entry) → IsPrefix (entries ++ e ∷ []) list → e ≡ entry
      same_entry e p =
          let all : (entries ++ e ∷ []) ++ p.0 ≡ (entries ++ entry ∷ []) ++ more = p.1 ∙ (sym cut ∙ sym (append_assoc entries (entry ∷ []) more)) in
          cc (cancel_left entries (e ∷ p.0) (entry ∷ more) (sym (append_assoc entries (e ∷ []) p.0) ∙ (all ∙ append_assoc entries (entry ∷ []) more)))

      module _ (t : Track) (world : World) (at : At entries world) (ok : IsOk place_now world t) where
        -- what a change that added it leads to
        record OneEntered : Type 0 where
          now : World
          at_now : At (entries ++ entry ∷ []) now
          u : Track
          conn_is : u.conn ≡ t.conn
          last_is : u.last ≡ t.last
          ok_now : IsOk (place_now + 1) now u
          others : (n : ℕ) → n ≢ t.conn → now.connections n ≡ world.connections n
          times : (place : ℕ) → place_now < place → times_added place (steps_items u.steps) ≡ times_added place (steps_items t.steps)

        module _ (item : Item) (steps : List Step) (is_steps : t.steps ≡ answers item ∷ steps) (mid : Connection) (rest : Goes t.conn t.shown mid steps t.last) (c : Climbs place_now (item ∷ steps_items steps)) (f : AllByRecursion IsFine (item ∷ steps_items steps))
            (here : place_on item.outcome ≡ place_now) (one : adds_of item.outcome ≡ 1) where
          enters : (place : ℕ) (reply : Reply) → item.outcome ≡ answered place reply → Changes kept may_give asking t.conn t.shown t.from item place reply mid → (o : Option Entry) → reply.entry ≡ o → OneEntered
          enters place reply is ch None none = absurd (omega (arith, one, ap adds_of is, ap (λ (o : Option Entry). length (option_to_list o)) none))
          enters place reply is ch (Some e) some =
              let at_place : place ≡ place_now = sym (ap place_on is) ∙ here in
              let at_ch : place ≡ base + length ch.entries = ch.at history held ∙ end_is ch.entries in
              let all_within : IsPrefix (ch.entries ++ option_to_list reply.entry) list = prefix_trans (ch.entries ++ option_to_list reply.entry) t.shown list ch.seen ok.within in
              let ch_within : IsPrefix ch.entries list = prefix_trans ch.entries (ch.entries ++ option_to_list reply.entry) list (option_to_list reply.entry, refl) all_within in
              let same : ch.entries ≡ entries = same_prefix ch.entries entries list ch_within before_it (omega (arith, at_ch, at_place)) in
              let e_is : e ≡ entry = same_entry e (subst (λ (xs : List Entry). IsPrefix xs list) (λ i. same i ++ option_to_list (some i)) all_within) in
              let to_entry : reply.entry ≡ Some entry = some ∙ ap (λ (x : Entry). Some x) e_is in
              let rests : IsAtRest (longer history ch.entries) None world = subst (λ (es : List Entry). IsAtRest (longer history es) None world) (sym same) (at_rest entries world at t.conn) in
              let has = has_so entries world at t.conn t.from ok.there in
              let evs = change_events (clock_stamp t.conn ch.clock item) None reply.entry in
              let now : World = world_at world (longer history (entries ++ entry ∷ [])) None t.conn mid in
              let again : longer (longer history entries) (entry ∷ []) ≡ longer history (entries ++ entry ∷ []) = longer_again history entries (entry ∷ []) in
              let to : world_at world (longer (longer history ch.entries) (option_to_list reply.entry)) (doubt_after None reply.entry) t.conn mid ≡ now =
              (λ i. world_at world (longer (longer history (same i)) (option_to_list (to_entry i))) (doubt_after None (to_entry i)) t.conn mid) ∙ (λ i. world_at world (again i) None t.conn mid) in
              let run : WorldRun may_give asking world evs now = subst (WorldRun may_give asking world evs) to (ch.change history held None world has rests) in
              record {
                now = now;
                at_now = record {
                  events = at.events ++ evs;
                  run = run_more may_give asking at.events evs start world now at.run run;
                  runs = at.runs;
                  keeper = refl;
                  published = refl;
                  settled = run_settled may_give asking evs world now run at.settled;
                };
                u = record { conn = t.conn; shown = t.shown; from = mid; steps = steps; last = t.last; goes = rest };
                conn_is = refl;
                last_is = refl;
                ok_now = record {
                  there = put_same world.connections t.conn mid;
                  within = ok.within;
                  climbs = climbs_from (place_now + 1) (place_on item.outcome + adds_of item.outcome) (steps_items steps) (omega (arith, here, one)) c.1;
                  fine = f.1;
                };
                others = put_other world.connections t.conn mid;
                times = λ other less. omega (arith, other_counts other item.outcome f.0.replied (λ e_other. omega (arith, e_other, here, less)), ap (λ ss. times_added other (steps_items ss)) is_steps);
              }

          by_answer : (o : Outcome) → item.outcome ≡ o → Answers kept may_give asking t.conn t.shown t.from item o mid → OneEntered
          by_answer no_memory is a = absurd (subst IsReplied is f.0.replied)
          by_answer disk_fault is a = absurd (subst IsReplied is f.0.replied)
          by_answer (answered place reply) is (inl l) = absurd (omega (arith, one, f.0.no_entry l.reads))
          by_answer (answered place reply) is (inr ch) = enters place reply is ch reply.entry refl

        by_steps : (steps : List Step) → t.steps ≡ steps → Goes t.conn t.shown t.from steps t.last → Climbs place_now (steps_items steps) → AllByRecursion IsFine (steps_items steps) → Stuck place_now steps → (times_added place_now (steps_items steps) ≡ 0 → ⊥) → OneEntered
        by_steps [] is goes c f s some = absurd (some refl)
        by_steps (reads piece ∷ steps) is goes c f s some = absurd s
        by_steps (refuses moment ∷ steps) is goes c f s some = absurd s
        by_steps (answers item ∷ steps) is goes c f (inl far) some = absurd (some (none_before place_now (place_now + 1) (item ∷ steps_items steps) (omega (arith, far), c.1) f (omega arith)))
        by_steps (answers item ∷ steps) is goes c f (inr here) some = by_answer item steps is goes.0 goes.2 c f here.0 here.1 item.outcome refl goes.1

      enter : (ts : List Track) (world : World) → At entries world → AllByRecursion (IsOk place_now world) ts → AllByRecursion (IsStuck place_now) ts → Apart ts → total place_now ts ≡ 1 → Entered entries entry world ts
      enter [] world at ok stuck apart one = absurd (omega (arith, one))
      enter (t ∷ ts) world at ok stuck apart one = elim (eqb_tells (times_added place_now (steps_items t.steps)) 0) [
        | inl w ↦
            let r = enter ts world at ok.1 stuck.1 apart.1 (omega (arith, one, w.1)) in
            record {
              now = r.now;
              at = r.at;
              us = t ∷ r.us;
              same = (refl, refl, r.same);
              ok = (record { there = r.others t.conn apart.0 ∙ ok.0.there; within = ok.0.within; climbs = past place_now t.steps ok.0.climbs ok.0.fine stuck.0 w.1; fine = ok.0.fine }, r.ok);
              others = λ n a. r.others n a.1;
              totals = λ place less. omega (arith, r.totals place less);
            }
        | inr w ↦
            let some : times_added place_now (steps_items t.steps) ≡ 0 → ⊥ = w.1 in
            let o = by_steps t world at ok.0 t.steps refl t.goes ok.0.climbs ok.0.fine stuck.0 some in
            let rest = all_past place_now world ts ok.1 stuck.1 (omega (arith, one, some)) in
            record {
              now = o.now;
              at = o.at_now;
              us = o.u ∷ ts;
              same = (o.conn_is, o.last_is, same_self ts);
              ok = (o.ok_now, ok_still (place_now + 1) world o.now t.conn o.others ts apart.0 rest);
              others = λ n a. o.others n a.0;
              totals = λ place less. omega (arith, o.times place less);
            }
      ]

    -- ---- the whole list

    abbrev pub IsDone : World → List Track → Type 0
    IsDone world ts = AllByRecursion (λ (t : Track). world.connections t.conn ≡ Some t.last) ts

    done_same : (world : World) (ts us : List Track) → SameEnds ts us → IsDone world us → IsDone world ts
    done_same world [] us s d = tt
    done_same world (t ∷ ts) [] s d = absurd s
    done_same world (t ∷ ts) (u ∷ us) s d = (ap world.connections (sym s.0) ∙ (d.0 ∙ ap (λ (c : Connection). Some c) s.1), done_same world ts us s.2 d.1)

    -- at the end of the list nothing is left
    nothing_left : (world : World) (t : Track) → IsOk (base + length list) world t → (steps : List Step) → Goes t.conn t.shown t.from steps t.last → AllByRecursion IsFine (steps_items steps) → Stuck (base + length list) steps → world.connections t.conn ≡ Some t.last
    nothing_left world t ok [] goes f s = ok.there ∙ ap (λ (c : Connection). Some c) (sym goes)
    nothing_left world t ok (reads piece ∷ steps) goes f s = absurd s
    nothing_left world t ok (refuses moment ∷ steps) goes f s = absurd s
    nothing_left world t ok (answers item ∷ steps) goes f s = absurd (by_outcome_left item.outcome refl goes.1)
      where
        within_list : (place count : ℕ) → (s : (base + length list < place_on item.outcome) ⊎ ((place_on item.outcome ≡ base + length list) × (adds_of item.outcome ≡ 1))) → place_on item.outcome ≡ place → place + adds_of item.outcome ≤ base + length list → ⊥
        within_list place count (inl far) at le = omega (arith, far, at, le)
        within_list place count (inr here) at le = omega (arith, here.0, here.1, at, le)

        by_outcome_left : (o : Outcome) → item.outcome ≡ o → Answers kept may_give asking t.conn t.shown t.from item o goes.0 → ⊥
        by_outcome_left no_memory is a = subst IsReplied is f.0.replied
        by_outcome_left disk_fault is a = subst IsReplied is f.0.replied
        by_outcome_left (answered place reply) is (inl l) =
            let long = prefix_length l.entries list (prefix_trans l.entries t.shown list l.seen ok.within) in
            within_list place 0 s (ap place_on is) (omega (arith, l.at history held, end_is l.entries, long, f.0.no_entry l.reads))
        by_outcome_left (answered place reply) is (inr ch) =
            let long = prefix_length (ch.entries ++ option_to_list reply.entry) list (prefix_trans (ch.entries ++ option_to_list reply.entry) t.shown list ch.seen ok.within) in
            within_list place 0 s (ap place_on is) (omega (arith, ch.at history held, end_is ch.entries, long, length-append ch.entries (option_to_list reply.entry), ap adds_of is))

    all_left : (world : World) (ts : List Track) → AllByRecursion (IsOk (base + length list) world) ts → AllByRecursion (IsStuck (base + length list)) ts → IsDone world ts
    all_left world [] ok stuck = tt
    all_left world (t ∷ ts) ok stuck = (nothing_left world t ok.0 t.steps t.goes ok.0.fine stuck.0, all_left world ts ok.1 stuck.1)

    pub record Scheduled (ts : List Track) : Type 0 where
      pub now : World
      pub at : At list now
      pub done : IsDone now ts

    schedule : (back entries : List Entry) → entries ++ back ≡ list → (ts : List Track) (world : World) → At entries world → AllByRecursion (IsOk (base + length entries) world) ts → Apart ts
        → ((place : ℕ) → base + length entries ≤ place → place < base + length list → total place ts ≡ 1) → Scheduled ts
    schedule [] entries cut ts world at ok apart once =
        let d = drain_all entries ([], cut) ts world at ok apart in
        let same : entries ≡ list = sym (append-nil entries) ∙ cut in
        record {
          now = d.now;
          at = subst (λ (es : List Entry). At es d.now) same d.at;
          done = done_same d.now ts d.us d.same (all_left d.now d.us (subst (λ (es : List Entry). AllByRecursion (IsOk (base + length es) d.now) d.us) same d.ok) (subst (λ (es : List Entry). AllByRecursion (IsStuck (base + length es)) d.us) same d.stuck));
        }
    schedule (entry ∷ back) entries cut ts world at ok apart once =
        let long : length list ≡ length entries + (1 + length back) = omega (arith, ap length (sym cut), length-append entries (entry ∷ back)) in
        let d = drain_all entries (entry ∷ back, cut) ts world at ok apart in
        let apart_d = apart_same ts d.us d.same apart in
        let p = enter entries entry back cut d.us d.now d.at d.ok d.stuck apart_d (d.totals (base + length entries) ∙ once (base + length entries) (omega arith) (omega (arith, long))) in
        let count : length (entries ++ entry ∷ []) ≡ length entries + 1 = length-append entries (entry ∷ []) in
        let r = schedule back (entries ++ entry ∷ []) (append_assoc entries (entry ∷ []) back ∙ cut) p.us p.now p.at
        (subst (λ n. AllByRecursion (IsOk n p.now) p.us) (omega (arith, count)) p.ok) (apart_same d.us p.us p.same apart_d)
        (λ place from to. p.totals place (omega (arith, from, count)) ∙ (d.totals place ∙ once place (omega (arith, from, count)) to)) in
        record {
          now = r.now;
          at = r.at;
          done = done_same r.now ts d.us d.same (done_same r.now d.us p.us p.same r.done);
        }

    pub all_scheduled : (ts : List Track) → At [] start → AllByRecursion (IsOk base start) ts → Apart ts → ((place : ℕ) → base ≤ place → place < base + length list → total place ts ≡ 1) → Scheduled ts
    all_scheduled ts at ok apart once = schedule list [] refl ts start at (subst (λ n. AllByRecursion (IsOk n start) ts) (omega arith) ok) apart (λ place from to. once place (omega (arith, from)) to)
