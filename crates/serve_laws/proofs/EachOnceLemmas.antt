-- The entries of a walk, of a desk and of all desks, each at a place of its own.
use Rattle.std.proofs.Common.{◌≡◌, ◌≢◌, ◌⊎◌, inl, inr, ℕ, zero, suc, ◌+◌, ◌*◌, ◌-◌, ◌<◌, ◌≤◌, ◌==◌, ◌&&◌, List, [], ◌∷◌, ◌++◌, length, sum_by, Option, Some, None, IfSome, is_some, slice_get, refl, sym, ap, subst, length-append, ◌∙◌, arith}
use Rattle.std.specs.List.{AllByRecursion}
use Rattle.std.specs.Option.{option_to_list}
use Rattle.std.proofs.Math.Nat.{mul-le-mul_right}
use Rattle.std.proofs.lemmas.Bool.Decides.{eqb_tells, leb_tells}
use Rattle.std.proofs.lemmas.List.Recursion.{is_sum_by}
use Rattle.std.proofs.lemmas.Option.{slice_get_within}
use mathlib.Core.List.{IsPrefix}
use Rattle.conn_talk.specs.Agents.{asking_of}
use Rattle.conn_talk.specs.Walks.{Turn, Walk}
use Rattle.conn_talk.specs.declared.agents.Agents.TheVariants.{Table}
use Rattle.conn_talk.proofs.WalkLemmas.{walk_later}
use Rattle.pod_base.proofs.Prefixes.{prefix_length, prefix_self, prefix_trans}
use Rattle.pod_base.specs.declared.request.Request.{Request}
use Rattle.pod_command.specs.declared.entry.Entry.{Entry}
use Rattle.pod_core.proofs.Histories.{slice_get-append, slice_get_last}
use Rattle.pod_core.specs.History.{History, end_of, longer, pod_at}
use Rattle.pod_core.specs.Session.{Item, Outcome, answered, disk_fault, no_memory, entries_of, entries_on, stamp_of}
use Rattle.pod_live.specs.Stores.{KeptSome}
use Rattle.pod_live.specs.Visits.{Visit}
use Rattle.pod_serve.specs.Connections.{ConnServed, FollowsRequests}
use Rattle.pod_serve.specs.Desks.{Conns, ServedLink}
use Rattle.pod_serve.specs.PoddRuns.{AreServed, DeskRun}
use Rattle.pod_serve.specs.RunHosts.{Host}
use Rattle.pod_serve.specs.Served.{Items, LinkView, changes_in}
use Rattle.pod_serve.specs.declared.connection_end.ConnEnd.{ConnEnd}
use Rattle.pod_serve.specs.declared.connection_end.ConnEnd.TheVariants as ends
use Rattle.reply_laws.specs.Laws.{EntriesHaveBases}
use Rattle.serve_laws.specs.EachOnce.{IsEachOnce, EachChangeOnce, StandsOn, adds_on, conn_items, desk_items, times_added}
use Rattle.serve_laws.proofs.Counting.{counts_equal, counts_none, once_each, one_if, one_within, sum_below, sum_both, sum_none}
use Rattle.socket_wire.specs.Counted.{WireCounts}
use Rattle.token_table.specs.Credentials.{AskedAgent}

-- ---- lists

pub times_append : (place : ℕ) (xs ys : List Item) → times_added place (xs ++ ys) ≡ times_added place xs + times_added place ys
times_append place [] ys = omega arith
times_append place (x ∷ xs) ys = omega (arith, times_append place xs ys)

changes_append : (xs ys : List Item) → changes_in (xs ++ ys) ≡ changes_in xs + changes_in ys
changes_append [] ys = omega arith
changes_append (x ∷ xs) ys = omega (arith, changes_append xs ys)

pub all_append : {X : Type 0} (P : X → Type 0) (xs ys : List X) → AllByRecursion P xs → AllByRecursion P ys → AllByRecursion P (xs ++ ys)
all_append P [] ys h k = k
all_append P (x ∷ xs) ys h k = (h.0, all_append P xs ys h.1 k)

all_weaker : {X : Type 0} (P Q : X → Type 0) → ((x : X) → P x → Q x) → (xs : List X) → AllByRecursion P xs → AllByRecursion Q xs
all_weaker P Q f [] h = tt
all_weaker P Q f (x ∷ xs) h = (f x h.0, all_weaker P Q f xs h.1)

got : {X : Type 0} (xs : List X) (k : ℕ) → k < length xs → (x : X) × (slice_get xs k ≡ Some x)
got [] k less = absurd (omega (arith, less))
got (x ∷ xs) zero less = (x, refl)
got (x ∷ xs) (suc k) less = got xs k (omega (arith, less))

-- ---- what is counted

-- an outcome's entry, where it has one, has its place among n places from `base` on
abbrev IsPlaced : ℕ → ℕ → Outcome → Type 0
IsPlaced base n (answered place reply) = IfSome reply.entry (λ (entry : Entry). (base ≤ place) × (place < base + n))
IsPlaced base n no_memory = Unit {0}
IsPlaced base n disk_fault = Unit {0}

entry_counted : (base n place : ℕ) (o : Option Entry) → IfSome o (λ (entry : Entry). (base ≤ place) × (place < base + n)) → sum_below (λ k. one_if (is_some o && (place == base + k))) n ≡ length (option_to_list o)
entry_counted base n place None h = sum_none n
entry_counted base n place (Some e) h = one_within base place n h.0 h.1

outcome_counted : (base n : ℕ) (o : Outcome) → IsPlaced base n o → sum_below (λ k. one_if (adds_on (base + k) o)) n ≡ length (entries_on o)
outcome_counted base n (answered place reply) h = entry_counted base n place reply.entry h
outcome_counted base n no_memory h = sum_none n
outcome_counted base n disk_fault h = sum_none n

items_counted : (base n : ℕ) (items : List Item) → AllByRecursion (λ (item : Item). IsPlaced base n item.outcome) items → sum_below (λ k. times_added (base + k) items) n ≡ changes_in items
items_counted base n [] h = sum_none n
items_counted base n (item ∷ items) h =
    sum_both (λ k. one_if (adds_on (base + k) item.outcome)) (λ k. times_added (base + k) items) n
    ∙ (ap (λ m. m + sum_below (λ k. times_added (base + k) items) n) (outcome_counted base n item.outcome h.0)
    ∙ ap (λ m. length (entries_of item) + m) (items_counted base n items h.1))

placed_of : (first : ℕ) (list : List Entry) (o : Outcome) → StandsOn first list o → IsPlaced first (length list) o
placed_of first list (answered place reply) h = by_entry reply.entry h
  where
    by_entry : (o : Option Entry) → IfSome o (λ (entry : Entry). (first ≤ place) × (slice_get list (place - first) ≡ Some entry)) → IfSome o (λ (entry : Entry). (first ≤ place) × (place < first + length list))
    by_entry None k = tt
    by_entry (Some e) k = (k.0, omega (arith, k.0, slice_get_within list (place - first) e k.1))
placed_of first list no_memory h = tt
placed_of first list disk_fault h = tt

-- ---- one connection

entry_stands : (first place : ℕ) (entries list : List Entry) (o : Option Entry) → place ≡ first + length entries → IsPrefix (entries ++ option_to_list o) list
    → IfSome o (λ (entry : Entry). (first ≤ place) × (slice_get list (place - first) ≡ Some entry))
entry_stands first place entries list None at p = tt
entry_stands first place entries list (Some e) at p =
    let count : place - first ≡ length entries = omega (arith, at) in
    let within : length entries < length (entries ++ e ∷ []) = omega (arith, length-append entries (e ∷ [])) in
    let there : slice_get ((entries ++ e ∷ []) ++ p.0) (length entries) ≡ Some e = slice_get-append (entries ++ e ∷ []) p.0 (length entries) within ∙ slice_get_last entries e in
    (omega (arith, at), subst (λ n. slice_get list n ≡ Some e) (sym count) (subst (λ (xs : List Entry). slice_get xs (length entries) ≡ Some e) p.1 there))

-- an entry at another place isn't counted
elsewhere : (o : Option Entry) (place other : ℕ) → other ≢ place → one_if (is_some o && (other == place)) ≡ 0
elsewhere None place other ne = refl
elsewhere (Some e) place other ne = counts_none other place ne

module _ (kept : History → Type 0) (first conn : ℕ) (may_give : ℕ → Type 0) where
  turn_stands : (clock : ℕ) (before after list : List Entry) (item : Item) (o : Outcome) → Turn kept first conn clock before item o after → IsPrefix after list → StandsOn first list o
  turn_stands clock before after list item (answered place reply) t p = entry_stands first place t.entries list reply.entry t.place_is (prefix_trans (t.entries ++ option_to_list reply.entry) after list t.seen_after p)
  turn_stands clock before after list item no_memory t p = tt
  turn_stands clock before after list item disk_fault t p = tt

  walk_stands : (items : List Item) (before after list : List Entry) → Walk kept first conn may_give before items after → IsPrefix after list → AllByRecursion (λ (item : Item). StandsOn first list item.outcome) items
  walk_stands [] before after list w p = tt
  walk_stands (item ∷ items) before after list w p = (
    turn_stands w.1.0 before w.0 list item item.outcome w.1.2 (prefix_trans w.0 after list (walk_later kept first conn may_give items w.0 after w.2) p),
    walk_stands items w.0 after list w.2 p,
  )

  -- no entry is at a place that had been seen before
  turn_none_before : (clock : ℕ) (before after : List Entry) (item : Item) (o : Outcome) → Turn kept first conn clock before item o after → (place : ℕ) → place < first + length before → one_if (adds_on place o) ≡ 0
  turn_none_before clock before after item (answered other reply) t place less =
      elsewhere reply.entry place other (λ e. omega (arith, e, less, t.place_is, prefix_length before t.entries t.seen_before))
  turn_none_before clock before after item no_memory t place less = refl
  turn_none_before clock before after item disk_fault t place less = refl

  turn_longer : (clock : ℕ) (before after : List Entry) (item : Item) (o : Outcome) → Turn kept first conn clock before item o after → length before ≤ length after
  turn_longer clock before after item (answered other reply) t =
      omega (arith, prefix_length before t.entries t.seen_before, length-append t.entries (option_to_list reply.entry), prefix_length (t.entries ++ option_to_list reply.entry) after t.seen_after)
  turn_longer clock before after item no_memory t = prefix_length before after t
  turn_longer clock before after item disk_fault t = prefix_length before after t.seen_after

  walk_none_before : (items : List Item) (before after : List Entry) → Walk kept first conn may_give before items after → (place : ℕ) → place < first + length before → times_added place items ≡ 0
  walk_none_before [] before after w place less = refl
  walk_none_before (item ∷ items) before after w place less =
      omega (
        arith,
        turn_none_before w.1.0 before w.0 item item.outcome w.1.2 place less,
        walk_none_before items w.0 after w.2 place (omega (arith, less, turn_longer w.1.0 before w.0 item item.outcome w.1.2)),
      )

  -- one item adds no entry at a place, or it has then been seen
  entry_then_seen : (entries after : List Entry) (o : Option Entry) (place other : ℕ) → other ≡ first + length entries → IsPrefix (entries ++ option_to_list o) after
      → (one_if (is_some o && (other == place)) ≡ 0) ⊎ ((one_if (is_some o && (other == place)) ≡ 1) × (place < first + length after))
  entry_then_seen entries after None place other at p = inl refl
  entry_then_seen entries after (Some e) place other at p = elim (eqb_tells other place) [
    | inl w ↦ inr (counts_equal other place w.1, omega (arith, at, w.1, length-append entries (e ∷ []), prefix_length (entries ++ e ∷ []) after p))
    | inr w ↦ inl (counts_none other place w.1)
  ]

  turn_then_seen : (clock : ℕ) (before after : List Entry) (item : Item) (o : Outcome) → Turn kept first conn clock before item o after → (place : ℕ)
      → (one_if (adds_on place o) ≡ 0) ⊎ ((one_if (adds_on place o) ≡ 1) × (place < first + length after))
  turn_then_seen clock before after item (answered other reply) t place = entry_then_seen t.entries after reply.entry place other t.place_is t.seen_after
  turn_then_seen clock before after item no_memory t place = inl refl
  turn_then_seen clock before after item disk_fault t place = inl refl

  walk_at_most_one : (items : List Item) (before after : List Entry) → Walk kept first conn may_give before items after → (place : ℕ) → times_added place items ≤ 1
  walk_at_most_one [] before after w place = omega arith
  walk_at_most_one (item ∷ items) before after w place = elim (turn_then_seen w.1.0 before w.0 item item.outcome w.1.2 place) [
    | inl none ↦ omega (arith, none, walk_at_most_one items w.0 after w.2 place)
    | inr seen ↦ omega (arith, seen.0, walk_none_before items w.0 after w.2 place seen.1)
  ]

  -- ---- the entry at a place has the number of the connection that added it
  module _ (bases : EntriesHaveBases) (history : History) (held : kept history) (list : List Entry) (place : ℕ) (there : Entry) (is : slice_get list (place - first) ≡ Some there) where
    turn_of_conn : (clock : ℕ) (before after : List Entry) (item : Item) (o : Outcome) → Turn kept first conn clock before item o after → IsPrefix after list → there.conn ≢ conn → one_if (adds_on place o) ≡ 0
    turn_of_conn clock before after item (answered other reply) t p ne =
        by_entry reply.entry refl (entry_stands first other t.entries list reply.entry t.place_is (prefix_trans (t.entries ++ option_to_list reply.entry) after list t.seen_after p))
      where
        by_entry : (o : Option Entry) → reply.entry ≡ o → IfSome o (λ (entry : Entry). (first ≤ other) × (slice_get list (other - first) ≡ Some entry)) → one_if (is_some o && (other == place)) ≡ 0
        by_entry None has s = refl
        by_entry (Some e) has s = elim (eqb_tells other place) [
          | inl w ↦
              let here : slice_get list (place - first) ≡ Some e = subst (λ n. slice_get list (n - first) ≡ Some e) w.1 s.1 in
              let same : Some there ≡ Some e = sym is ∙ here in
              let one : there ≡ e = cc same in
              let all = longer history t.entries in
              let granted = bases (pod_at all (end_of all)) item.request item.asked (end_of all) (stamp_of conn item) reply e (t.replies history held).reply_is has in
              absurd (ne (ap (λ (x : Entry). x.conn) one ∙ granted.conn))
          | inr w ↦ counts_none other place w.1
        ]
    turn_of_conn clock before after item no_memory t p ne = refl
    turn_of_conn clock before after item disk_fault t p ne = refl

    walk_of_conn : (items : List Item) (before after : List Entry) → Walk kept first conn may_give before items after → IsPrefix after list → there.conn ≢ conn → times_added place items ≡ 0
    walk_of_conn [] before after w p ne = refl
    walk_of_conn (item ∷ items) before after w p ne =
        omega (arith, turn_of_conn w.1.0 before w.0 item item.outcome w.1.2 (prefix_trans w.0 after list (walk_later kept first conn may_give items w.0 after w.2) p) ne, walk_of_conn items w.0 after w.2 p ne)

-- ---- the connections of one desk

module _ (kept : History → Type 0) (first : ℕ) (may_give : ℕ → Type 0) (asking : Request → AskedAgent) {C : Type 0} (view : C → LinkView) (step : ℕ) where
  abbrev pub AreConns : ℕ → Visit → List (ServedLink C) → Visit → Type 0
  AreConns number before links after = Conns kept first may_give asking view step number before links after

  abbrev its_items : (number : ℕ) (before : Visit) (links : List (ServedLink C)) (after : Visit) → AreConns number before links after → List Item
  its_items number before links after c = conn_items kept first may_give asking view step number before links after c

  pub conns_later : (number : ℕ) (before : Visit) (links : List (ServedLink C)) (after : Visit) → AreConns number before links after → IsPrefix before.seen after.seen
  conns_later number before [] after c = subst (λ (v : Visit). IsPrefix before.seen v.seen) (sym c) (prefix_self before.seen)
  conns_later number before (one ∷ others) after c =
      prefix_trans before.seen c.0.seen after.seen (walk_later kept first number may_give c.1.items.list before.seen c.0.seen c.1.walk) (conns_later (number + step) c.0 others after c.2)

  conns_stand : (list : List Entry) (number : ℕ) (before : Visit) (links : List (ServedLink C)) (after : Visit) (c : AreConns number before links after) → IsPrefix after.seen list
      → AllByRecursion (λ (item : Item). StandsOn first list item.outcome) (its_items number before links after c)
  conns_stand list number before [] after c p = tt
  conns_stand list number before (one ∷ others) after c p =
      all_append (λ (item : Item). StandsOn first list item.outcome) c.1.items.list (its_items (number + step) c.0 others after c.2)
      (walk_stands kept first number may_give c.1.items.list before.seen c.0.seen list c.1.walk (prefix_trans c.0.seen after.seen list (conns_later (number + step) c.0 others after c.2) p))
      (conns_stand list (number + step) c.0 others after c.2 p)

  -- what follows the requests of a connection makes no change
  no_changes : (items : List Item) (end : ConnEnd) (before after : Visit) (old new : LinkView) (wires counted : WireCounts) → FollowsRequests kept items end before after old new wires counted → after.changes ≡ before.changes
  no_changes items (ends.Noticed end) before after old new wires counted f = elim f [
    | inl w ↦ ap (λ (v : Visit). v.changes) w.1
    | inr w ↦ w.0.changes
  ]
  no_changes items ends.PeerEnded before after old new wires counted f = ap (λ (v : Visit). v.changes) f.0
  no_changes items (ends.CutShort rest) before after old new wires counted f = ap (λ (v : Visit). v.changes) f.0
  no_changes items (ends.BadMessage status) before after old new wires counted f = ap (λ (v : Visit). v.changes) f.0
  no_changes items ends.Quiet before after old new wires counted f = ap (λ (v : Visit). v.changes) f.0
  no_changes items ends.LinkFault before after old new wires counted f = ap (λ (v : Visit). v.changes) f.0
  no_changes items ends.LimitReached before after old new wires counted f = ap (λ (v : Visit). v.changes) f.0
  no_changes items ends.Closed before after old new wires counted f = ap (λ (v : Visit). v.changes) f.0
  no_changes items ends.NoPlace before after old new wires counted f = ap (λ (v : Visit). v.changes) f.0
  no_changes items ends.NoMemory before after old new wires counted f = ap (λ (v : Visit). v.changes) f.0

  conn_changes : (number : ℕ) (end : ConnEnd) (before after : Visit) (old new : LinkView) (wires counted : WireCounts) (s : ConnServed kept first may_give asking number end before after old new wires counted) → after.changes ≡ before.changes + changes_in s.items.list
  conn_changes number end before after old new wires counted s =
      no_changes s.items.list end s.mid after s.turned new wires counted s.follows ∙ (s.requests.changes ∙ ap (λ (i : Items). before.changes + changes_in i.list) (sym s.items_are))

  conns_changes : (number : ℕ) (before : Visit) (links : List (ServedLink C)) (after : Visit) (c : AreConns number before links after) → after.changes ≡ before.changes + changes_in (its_items number before links after c)
  conns_changes number before [] after c = let same : after.changes ≡ before.changes = ap (λ (v : Visit). v.changes) c in omega (arith, same)
  conns_changes number before (one ∷ others) after c =
      omega (arith, conns_changes (number + step) c.0 others after c.2, conn_changes number one.end before c.0 (view one.given) (view one.back) one.wires one.counted c.1, changes_append c.1.items.list (its_items (number + step) c.0 others after c.2))

  module _ (bases : EntriesHaveBases) (history : History) (held : kept history) (list : List Entry) (place : ℕ) (there : Entry) (is : slice_get list (place - first) ≡ Some there) where
    one_conn : (number : ℕ) (before : Visit) (one : ServedLink C) (others : List (ServedLink C)) (after : Visit) (c : AreConns number before (one ∷ others) after) → IsPrefix after.seen list → there.conn ≢ number → times_added place c.1.items.list ≡ 0
    one_conn number before one others after c p ne =
        walk_of_conn kept first number may_give bases history held list place there is c.1.items.list before.seen c.0.seen c.1.walk (prefix_trans c.0.seen after.seen list (conns_later (number + step) c.0 others after c.2) p) ne

    -- the entry is of a connection of this desk, or none of the desk added it
    conns_number : (number : ℕ) (before : Visit) (links : List (ServedLink C)) (after : Visit) (c : AreConns number before links after) → IsPrefix after.seen list
        → ((j : ℕ) × (there.conn ≡ number + j * step)) ⊎ (times_added place (its_items number before links after c) ≡ 0)
    conns_number number before [] after c p = inr refl
    conns_number number before (one ∷ others) after c p = elim (eqb_tells there.conn number) [
      | inl w ↦ inl (0, omega (arith, w.1))
      | inr w ↦ elim (conns_number (number + step) c.0 others after c.2 p) [
        | inl more ↦ inl (suc more.0, omega (arith, more.1))
        | inr none ↦ inr (omega (arith, times_append place c.1.items.list (its_items (number + step) c.0 others after c.2), one_conn number before one others after c p w.1, none))
      ]
    ]

    -- connections with greater numbers didn't
    conns_past : (number : ℕ) (before : Visit) (links : List (ServedLink C)) (after : Visit) (c : AreConns number before links after) → IsPrefix after.seen list → there.conn < number
        → times_added place (its_items number before links after c) ≡ 0
    conns_past number before [] after c p less = refl
    conns_past number before (one ∷ others) after c p less =
        omega (
          arith,
          times_append place c.1.items.list (its_items (number + step) c.0 others after c.2),
          one_conn number before one others after c p (λ e. omega (arith, e, less)),
          conns_past (number + step) c.0 others after c.2 p (omega (arith, less)),
        )

    conns_at_most_one : 0 < step → (number : ℕ) (before : Visit) (links : List (ServedLink C)) (after : Visit) (c : AreConns number before links after) → IsPrefix after.seen list
        → times_added place (its_items number before links after c) ≤ 1
    conns_at_most_one some number before [] after c p = omega arith
    conns_at_most_one some number before (one ∷ others) after c p =
        let both = times_append place c.1.items.list (its_items (number + step) c.0 others after c.2) in
        elim (eqb_tells there.conn number) [
          | inl w ↦ omega (arith, both, walk_at_most_one kept first number may_give c.1.items.list before.seen c.0.seen c.1.walk place, conns_past (number + step) c.0 others after c.2 p (omega (arith, some, w.1)))
          | inr w ↦ omega (arith, both, one_conn number before one others after c p w.1, conns_at_most_one some (number + step) c.0 others after c.2 p)
        ]

-- ---- all desks

abbrev total : {X : Type 0} → (X → ℕ) → List X → ℕ
total f [] = 0
total f (x ∷ xs) = f x + total f xs

-- numbers of different desks differ
pub apart : (s t step i j : ℕ) → s < t → t < s + step → s + i * step ≡ t + j * step → ⊥
apart s t step i j after within same = elim (leb_tells i j) [
  | inl w ↦ omega (arith, same, after, mul-le-mul_right step w.1)
  | inr w ↦ let more : j + 1 ≤ i = omega (arith, w.1) in omega (arith, same, within, mul-le-mul_right step more)
]

module _ {D G C : Type 0} (host : Host D G C) (kept : History → Type 0) (first : ℕ) (asking : Request → AskedAgent) (list : List Entry) (step : ℕ) where
  abbrev AreDesks : ℕ → List (DeskRun G) → Type 0
  AreDesks number desks = AreServed host kept first asking list step number desks

  abbrev all_items : (number : ℕ) (desks : List (DeskRun G)) → AreDesks number desks → List Item
  all_items number desks s = desk_items host kept first asking list step number desks s

  abbrev head_items : (number : ℕ) (desk : DeskRun G) (others : List (DeskRun G)) → AreDesks number (desk ∷ others) → List Item
  head_items number desk others s = conn_items kept first host.may_give asking host.link_view step number desk.before s.1.links desk.after s.1.conns

  desks_stand : (number : ℕ) (desks : List (DeskRun G)) (s : AreDesks number desks) → AllByRecursion (λ (item : Item). StandsOn first list item.outcome) (all_items number desks s)
  desks_stand number [] s = tt
  desks_stand number (desk ∷ others) s =
      all_append (λ (item : Item). StandsOn first list item.outcome) (head_items number desk others s) (all_items (number + 1) others s.3)
      (conns_stand kept first host.may_give asking host.link_view step list number desk.before s.1.links desk.after s.1.conns s.2) (desks_stand (number + 1) others s.3)

  desks_changes : (number : ℕ) (desks : List (DeskRun G)) (s : AreDesks number desks) → total (λ (desk : DeskRun G). desk.after.changes) desks ≡ changes_in (all_items number desks s)
  desks_changes number [] s = refl
  desks_changes number (desk ∷ others) s =
      omega (
        arith,
        conns_changes kept first host.may_give asking host.link_view step number desk.before s.1.links desk.after s.1.conns,
        s.0.changes,
        desks_changes (number + 1) others s.3,
        changes_append (head_items number desk others s) (all_items (number + 1) others s.3),
      )

  module _ (bases : EntriesHaveBases) (history : History) (held : kept history) (place : ℕ) (there : Entry) (is : slice_get list (place - first) ≡ Some there) where
    -- an entry of an earlier desk is none of these
    desks_past : (s j number : ℕ) (desks : List (DeskRun G)) (d : AreDesks number desks) → there.conn ≡ s + j * step → s < number → number + length desks ≤ s + step → times_added place (all_items number desks d) ≡ 0
    desks_past s j number [] d at after within = refl
    desks_past s j number (desk ∷ others) d at after within =
        let both = times_append place (head_items number desk others d) (all_items (number + 1) others d.3) in
        let rest = desks_past s j (number + 1) others d.3 at (omega (arith, after)) (omega (arith, within)) in
        elim (conns_number kept first host.may_give asking host.link_view step bases history held list place there is number desk.before d.1.links desk.after d.1.conns d.2) [
          | inl one ↦ absurd (apart s number step j one.0 after (omega (arith, within)) (sym at ∙ one.1))
          | inr none ↦ omega (arith, both, none, rest)
        ]

    desks_at_most_one : 0 < step → (number : ℕ) (desks : List (DeskRun G)) (d : AreDesks number desks) → length desks ≤ step → times_added place (all_items number desks d) ≤ 1
    desks_at_most_one some number [] d few = omega arith
    desks_at_most_one some number (desk ∷ others) d few =
        let both = times_append place (head_items number desk others d) (all_items (number + 1) others d.3) in
        elim (conns_number kept first host.may_give asking host.link_view step bases history held list place there is number desk.before d.1.links desk.after d.1.conns d.2) [
          | inl one ↦ omega (
            arith,
            both,
            conns_at_most_one kept first host.may_give asking host.link_view step bases history held list place there is some number desk.before d.1.links desk.after d.1.conns d.2,
            desks_past number one.0 (number + 1) others d.3 one.1 (omega arith) (omega (arith, few)),
          )
          | inr none ↦ omega (arith, both, none, desks_at_most_one some (number + 1) others d.3 (omega (arith, few)))
        ]

  at_most_one : EntriesHaveBases → (history : History) → kept history → (desks : List (DeskRun G)) (d : AreDesks 1 desks) → length desks ≡ step → (k : ℕ) → k < length list → times_added (first + k) (all_items 1 desks d) ≤ 1
  at_most_one bases history held [] d all k less = omega arith
  at_most_one bases history held (desk ∷ others) d all k less =
      let entry = got list k less in
      let at : first + k - first ≡ k = omega arith in
      let is : slice_get list (first + k - first) ≡ Some entry.0 = subst (λ n. slice_get list n ≡ Some entry.0) (sym at) entry.1 in
      desks_at_most_one bases history held (first + k) entry.0 is (omega (arith, all)) 1 (desk ∷ others) d (omega (arith, all))

  pub each_once : EntriesHaveBases → (history : History) → kept history → (desks : List (DeskRun G)) (d : AreDesks 1 desks) → length desks ≡ step → length list ≡ sum_by (λ (desk : DeskRun G). desk.after.changes) desks
      → IsEachOnce first list (all_items 1 desks d)
  each_once bases history held desks d all grown =
      let items = all_items 1 desks d in
      let stands = desks_stand 1 desks d in
      let total_is : total (λ (desk : DeskRun G). desk.after.changes) desks ≡ sum_by (λ (desk : DeskRun G). desk.after.changes) desks =
      is_sum_by (total (λ (desk : DeskRun G). desk.after.changes)) (λ (desk : DeskRun G). desk.after.changes) refl (λ _ _. refl) desks in
      let counted : sum_below (λ k. times_added (first + k) items) (length list) ≡ changes_in items =
      items_counted first (length list) items (all_weaker (λ (item : Item). StandsOn first list item.outcome) (λ (item : Item). IsPlaced first (length list) item.outcome) (λ item s. placed_of first list item.outcome s) items stands) in
      let full : length list ≤ sum_below (λ k. times_added (first + k) items) (length list) = omega (arith, counted, grown, total_is, desks_changes 1 desks d) in
      let at_most : (k : ℕ) → k < length list → times_added (first + k) items ≤ 1 = λ k less. at_most_one bases history held desks d all k less in
      record {
        stands = stands;
        once = λ place from to.
            let back : first + (place - first) ≡ place = omega (arith, from) in
            subst (λ n. times_added n items ≡ 1) back (once_each (λ k. times_added (first + k) items) (length list) at_most full (place - first) (omega (arith, from, to)));
      }

pub each_change_once : {D G C : Type 0} (host : Host D G C) → EntriesHaveBases → EachChangeOnce host
each_change_once host bases keeper left agents gates old new status run history held =
    each_once host (KeptSome host.image keeper) keeper.next (asking_of (Table agents)) run.list (length run.desks) bases history held run.desks run.served refl run.grown
