-- A connection that was served, as the steps that are left for it in a world.
use Rattle.std.proofs.Common.{◌≡◌, ◌≢◌, ℕ, ◌+◌, ◌≤◌, false, List, [], ◌∷◌, ◌++◌, length, Option, Some, None, refl, sym, ap, subst, length-append, ◌∙◌, arith}
use Rattle.std.specs.List.{AllByRecursion}
use Rattle.std.specs.Option.{option_to_list}
use Rattle.std.proofs.lemmas.List.{append-nil}
use Rattle.conn_talk.specs.Walks.{Turn, Walk}
use Rattle.pod_base.proofs.Prefixes.{prefix_length}
use Rattle.pod_base.specs.declared.heard.Heard.{Heard}
use Rattle.pod_base.specs.declared.request.Request.{Request}
use Rattle.pod_command.specs.declared.entry.Entry.{Entry}
use Rattle.pod_core.specs.History.{History, end_of, longer, pod_at}
use Rattle.pod_core.specs.Session.{Item, Outcome, answered, disk_fault, no_memory, stamp_of}
use Rattle.pod_core.specs.World.{Connection}
use Rattle.pod_serve.specs.WorldRuns.{AnswersEach, IsRun, ReadTurn, Refuses, Runs, fresh_connection, items_in}
use Rattle.reply_laws.specs.Granted.{is_change}
use Rattle.reply_laws.specs.Laws.{ReadsHaveNone}
use Rattle.serve_laws.specs.Replied.{IsReplied}
use Rattle.serve_laws.proofs.Schedule.{Climbs, Goes, IsFine, Step, Track, adds_of, answers, climbs_from, place_on, reads, refuses, steps_items}
use Rattle.token_table.specs.Credentials.{AskedAgent}

-- ---- steps

abbrev pub item_steps : List Item → List Step
item_steps [] = []
item_steps (item ∷ items) = answers item ∷ item_steps items

abbrev pub turn_steps : List ReadTurn → List Step
turn_steps [] = []
turn_steps (turn ∷ turns) = reads turn.piece ∷ (item_steps turn.items ++ turn_steps turns)

abbrev pub last_steps : Option ℕ → List Step
last_steps None = []
last_steps (Some moment) = refuses moment ∷ []

both_items : (xs ys : List Step) → steps_items (xs ++ ys) ≡ steps_items xs ++ steps_items ys
both_items [] ys = refl
both_items (reads piece ∷ xs) ys = both_items xs ys
both_items (refuses moment ∷ xs) ys = both_items xs ys
both_items (answers item ∷ xs) ys = ap (λ l. item ∷ l) (both_items xs ys)

their_items : (items : List Item) → steps_items (item_steps items) ≡ items
their_items [] = refl
their_items (item ∷ items) = ap (λ l. item ∷ l) (their_items items)

turn_items : (turns : List ReadTurn) → steps_items (turn_steps turns) ≡ items_in turns
turn_items [] = refl
turn_items (turn ∷ turns) = both_items (item_steps turn.items) (turn_steps turns) ∙ (ap (λ l. l ++ steps_items (turn_steps turns)) (their_items turn.items) ∙ ap (λ l. turn.items ++ l) (turn_items turns))

no_items : (refusal : Option ℕ) → steps_items (last_steps refusal) ≡ []
no_items None = refl
no_items (Some moment) = refl

module _ (kept : History → Type 0) (may_give : ℕ → Type 0) (asking : Request → AskedAgent) (conn : ℕ) (shown : List Entry) where
  pub goes_both : (xs ys : List Step) (from mid to : Connection) → Goes kept may_give asking conn shown from xs mid → Goes kept may_give asking conn shown mid ys to → Goes kept may_give asking conn shown from (xs ++ ys) to
  goes_both [] ys from mid to g h = subst (λ (c : Connection). Goes kept may_give asking conn shown c ys to) g h
  goes_both (reads piece ∷ xs) ys from mid to g h = (g.0, g.1, goes_both xs ys g.0 mid to g.2 h)
  goes_both (answers item ∷ xs) ys from mid to g h = (g.0, g.1, goes_both xs ys g.0 mid to g.2 h)
  goes_both (refuses moment ∷ xs) ys from mid to g h = (g.0, g.1, goes_both xs ys g.0 mid to g.2 h)

  goes_items : (items : List Item) (from to : Connection) → AnswersEach kept may_give asking conn shown from items to → Goes kept may_give asking conn shown from (item_steps items) to
  goes_items [] from to a = a
  goes_items (item ∷ items) from to a = (a.0, a.1, goes_items items a.0 to a.2)

  pub goes_turns : (turns : List ReadTurn) (from to : Connection) → Runs kept may_give asking conn shown from turns to → Goes kept may_give asking conn shown from (turn_steps turns) to
  goes_turns [] from to r = r
  goes_turns (turn ∷ turns) from to r =
      (r.0, r.2, goes_both (item_steps turn.items) (turn_steps turns) r.0 r.1 to (goes_items turn.items r.0 r.1 r.3) (goes_turns turns r.1 to r.4))

  pub goes_last : (refusal : Option ℕ) (from to : Connection) → Refuses kept may_give asking conn shown from refusal to → Goes kept may_give asking conn shown from (last_steps refusal) to
  goes_last None from to r = r
  goes_last (Some moment) from to r = (to, r, refl)

  module _ (place : ℕ) (pieces : List (List ℕ)) (items : List Item) (refusal : Option ℕ) (read : List ℕ) (events : List Heard) (run : IsRun kept may_give asking conn shown place pieces items refusal read events) where
    abbrev pub track_of : Track kept may_give asking
    track_of = record {
      conn = conn;
      shown = shown;
      from = fresh_connection place;
      steps = turn_steps run.turns ++ last_steps refusal;
      last = run.last;
      goes = goes_both (turn_steps run.turns) (last_steps refusal) (fresh_connection place) run.mid run.last (goes_turns run.turns (fresh_connection place) run.mid run.runs) (goes_last refusal run.mid run.last run.refuses);
    }

    pub track_items : steps_items (turn_steps run.turns ++ last_steps refusal) ≡ items
    track_items =
        both_items (turn_steps run.turns) (last_steps refusal)
        ∙ (ap (λ l. steps_items (turn_steps run.turns) ++ l) (no_items refusal)
        ∙ (append-nil (steps_items (turn_steps run.turns)) ∙ (turn_items run.turns ∙ run.items_are)))

-- ---- the items of a walk

module _ (kept : History → Type 0) (first conn : ℕ) (may_give : ℕ → Type 0) (history : History) (held : kept history) (no_entries : ReadsHaveNone) where
  -- what a turn says of an item that was answered
  turn_fine : (clock : ℕ) (before after : List Entry) (item : Item) (o : Outcome) → Turn kept first conn clock before item o after → is_change item.request.method ≡ false → adds_of o ≡ 0
  turn_fine clock before after item (answered place reply) d steady =
      let here = longer history d.entries in
      ap (λ (e : Option Entry). length (option_to_list e)) (no_entries (pod_at here (end_of here)) item.request item.asked (end_of here) (stamp_of conn item) reply (d.replies history held).reply_is steady)
  turn_fine clock before after item no_memory d steady = refl
  turn_fine clock before after item disk_fault d steady = refl

  pub walk_fine : (items : List Item) (before after : List Entry) → Walk kept first conn may_give before items after → AllByRecursion (λ (item : Item). IsReplied item.outcome) items → AllByRecursion IsFine items
  walk_fine [] before after w r = tt
  walk_fine (item ∷ items) before after w r = (record { replied = r.0; no_entry = turn_fine w.1.0 before w.0 item item.outcome w.1.2 }, walk_fine items w.0 after w.2 r.1)

  turn_climbs : (clock : ℕ) (before after : List Entry) (item : Item) (o : Outcome) → IsReplied o → Turn kept first conn clock before item o after → (first + length before ≤ place_on o) × (place_on o + adds_of o ≤ first + length after)
  turn_climbs clock before after item (answered place reply) r d = (
    omega (arith, d.place_is, prefix_length before d.entries d.seen_before),
    omega (arith, d.place_is, prefix_length (d.entries ++ option_to_list reply.entry) after d.seen_after, length-append d.entries (option_to_list reply.entry)),
  )
  turn_climbs clock before after item no_memory r d = absurd r
  turn_climbs clock before after item disk_fault r d = absurd r

  pub walk_climbs : (items : List Item) (before after : List Entry) → Walk kept first conn may_give before items after → AllByRecursion (λ (item : Item). IsReplied item.outcome) items → Climbs (first + length before) items
  walk_climbs [] before after w r = tt
  walk_climbs (item ∷ items) before after w r =
      let t = turn_climbs w.1.0 before w.0 item item.outcome r.0 w.1.2 in
      (t.0, climbs_from (place_on item.outcome + adds_of item.outcome) (first + length w.0) items t.1 (walk_climbs items w.0 after w.2 r.1))
