-- Gates that are given back, desks that were served, and what the statuses of a run say.
use Rattle.std.proofs.Common.{◌≡◌, ◌≢◌, ◌⊎◌, inl, inr, ℕ, ◌+◌, ◌<◌, max, suc, List, [], ◌∷◌, ◌++◌, length, take, drop, map, reverse, sum_by, slice_index_or, All, Contains, Option, IfSome, IsSome, ◌↔◌, Some, None, refl, sym, ap, subst, append_assoc, ◌∙◌, arith}
use Rattle.std.specs.Option.{option_map, option_to_list}
use Rattle.std.proofs.lemmas.List.{append-nil, drop_all, reverse-append, take_all}
use Rattle.std.proofs.lemmas.List.Elements.{All-nil}
use Rattle.std.proofs.lemmas.List.Recursion.{is_sum_by}
use mathlib.Core.List.{IsPrefix}
use Rattle.conn_talk.specs.Agents.{asking_of}
use Rattle.conn_talk.specs.declared.agents.Agents.TheVariants.{Table}
use Rattle.journal_log.specs.declared.fault.OpenFault.{OpenFault}
use Rattle.journal_log.specs.declared.fault.OpenFault.TheVariants as opens
use Rattle.pod_base.proofs.Prefixes.{prefix_trans}
use Rattle.pod_base.specs.Counts.{CountIncreased}
use Rattle.pod_base.specs.EachTo.{EachTo}
use Rattle.pod_base.specs.declared.request.Request.{Request}
use Rattle.pod_command.specs.declared.entry.Entry.{Entry}
use Rattle.pod_core.specs.History.{History}
use Rattle.pod_disk.specs.declared.place.Disks.{Disks}
use Rattle.pod_io.specs.declared.listen.ListenFault.{ListenFault}
use Rattle.pod_io.specs.declared.listen.ListenFault.TheVariants as listens
use Rattle.pod_keeper.specs.KeeperState.{KeeperState}
use Rattle.pod_live.specs.Stores.{Covers, KeptSome}
use Rattle.pod_live.specs.Takes.{TookChanges}
use Rattle.pod_live.specs.Visits.{IsNewVisit, Meets, Visit}
use Rattle.pod_records.specs.OpenedStores.{HasPodCause}
use Rattle.published_view.specs.LookerState.{CountIncreasedByOne}
use Rattle.published_view.specs.declared.fault.ViewFault.{ViewFault}
use Rattle.published_view.specs.declared.fault.ViewFault.TheVariants as views
use Rattle.journal_log.specs.Refusals.{open_status}
use Rattle.pod_pipe.specs.CountedFaults.{DiskCountIncreased}
use Rattle.pod_pipe.specs.DiskRuns.{DiskRun}
use Rattle.pod_pipe.specs.Tables.{HasTableCause, TokenSource, table_status}
use Rattle.pod_pipe.specs.declared.token_file.TableFault.{TableFault}
use Rattle.pod_pipe.specs.declared.token_file.TableFault.TheVariants as tables
use Rattle.token_table.specs.Credentials.{AskedAgent}
use Rattle.token_table.specs.declared.table_line.TokenEntry.{TokenEntry}
use Rattle.pod_serve.specs.Desks.{EachDeskServed, IsDeskEnd}
use Rattle.pod_serve.specs.PoddRuns.{AreServed, DeskRun, GivesBack, IsGateFault, IsServing, RunsListener, RunsPodd, RunsTokens}
use Rattle.pod_serve.specs.PoddRuns.{desk_status, listen_status, served_status, view_status}
use Rattle.pod_serve.specs.PoddSteps.{AreClosed, AreServedAs, NamedStore, RunsOpened, told_status, told_statuses}
use Rattle.pod_serve.specs.RunHosts.{ErrorSink, Host, ListenRun, ListenView, listen_run}
use Rattle.pod_serve.specs.declared.desk.DeskEnd.{DeskEnd}
use Rattle.pod_serve.specs.declared.desk.DeskEnd.TheVariants.{GateEnded, GateFailed, NoMemory}

-- ---- gates that are given back

pub map_more : {X Y : Type 0} (f : X → Y) (xs : List X) (x : X) → map f (xs ++ x ∷ []) ≡ map f xs ++ f x ∷ []
map_more f [] x = refl
map_more f (y ∷ xs) x = ap (λ ys. f y ∷ ys) (map_more f xs x)

pub reverse_more : {X : Type 0} (xs : List X) (x : X) → reverse (xs ++ x ∷ []) ≡ x ∷ reverse xs
reverse_more xs x = reverse-append xs (x ∷ [])

-- one more went back
pub back_then : {X : Type 0} (x : X) (rest : List X) (old new : Option (List X)) → new ≡ option_map (λ back. back ++ x ∷ []) old
    → option_map (λ back. back ++ rest) new ≡ option_map (λ back. back ++ (x ∷ rest)) old
back_then x rest None new is = ap (option_map (λ back. back ++ rest)) is
back_then x rest (Some back) new is = ap (option_map (λ b. b ++ rest)) is ∙ ap (λ b. Some b) (append_assoc back (x ∷ []) rest)

pub back_none : {X : Type 0} (o : Option (List X)) → option_map (λ back. back ++ []) o ≡ o
back_none None = refl
back_none (Some back) = ap (λ b. Some b) (append-nil back)

-- of the gates that are to go back one more did, and the rest are left
pub back_more : {X : Type 0} (all : Option (List X)) (left rest : List X) (x : X) (old new : Option (List X)) → left ≡ rest ++ x ∷ []
    → option_map (λ back. back ++ reverse left) old ≡ all → new ≡ option_map (λ back. back ++ x ∷ []) old → option_map (λ back. back ++ reverse rest) new ≡ all
back_more all left rest x old new is sofar more =
    back_then x (reverse rest) old new more
    ∙ (ap (λ (xs : List _). option_map (λ back. back ++ xs) old) (sym (reverse_more rest x) ∙ ap reverse (sym is)) ∙ sofar)

-- none is left
pub back_all : {X : Type 0} (all : Option (List X)) (left : List X) (old : Option (List X)) → left ≡ [] → option_map (λ back. back ++ reverse left) old ≡ all → old ≡ all
back_all all left old is sofar = sym (back_none old) ∙ (ap (λ (xs : List _). option_map (λ back. back ++ reverse xs) old) (sym is) ∙ sofar)

-- the same of desks, whose gates go back
pub desks_back_more : {S G : Type 0} (left rest : List S) (one : S) (gate : S → G) (all old new : Option (List G)) → left ≡ rest ++ one ∷ []
    → option_map (λ back. back ++ reverse (map gate left)) old ≡ all → new ≡ option_map (λ back. back ++ gate one ∷ []) old → option_map (λ back. back ++ reverse (map gate rest)) new ≡ all
desks_back_more left rest one gate all old new is sofar more = back_more all (map gate left) (map gate rest) (gate one) old new (ap (map gate) is ∙ map_more gate rest one) sofar more

pub desks_back_all : {S G : Type 0} (left : List S) (gate : S → G) (all old : Option (List G)) → left ≡ [] → option_map (λ back. back ++ reverse (map gate left)) old ≡ all → old ≡ all
desks_back_all left gate all old is sofar = back_all all (map gate left) old (ap (map gate) is) sofar

-- where none was left to be taken, there are none
pub emptied : {X : Type 0} (old new : List X) (taken : Option X) → old ≡ new ++ option_to_list taken → (IsSome taken ↔ (0 < length old)) → taken ≡ None → old ≡ []
emptied [] new taken items some is = refl
emptied (x ∷ old) new None items some is = absurd (cc (some.1 (omega arith)))
emptied (x ∷ old) new (Some y) items some is = absurd (cc is)

-- ---- desks with gates

-- one more desk has its gate
pub seated_more : {S G : Type 0} (desks : List S) (desk : S) (gate : S → G) (left rest all : List G) → left ≡ rest ++ gate desk ∷ []
    → map gate desks ++ reverse left ≡ all → map gate (desks ++ desk ∷ []) ++ reverse rest ≡ all
seated_more desks desk gate left rest all is sofar =
    ap (λ (xs : List _). xs ++ reverse rest) (map_more gate desks desk)
    ∙ (append_assoc (map gate desks) (gate desk ∷ []) (reverse rest)
    ∙ (ap (λ (xs : List _). map gate desks ++ xs) (sym (reverse_more rest (gate desk)) ∙ ap reverse (sym is)) ∙ sofar))

pub seated_all : {S G : Type 0} (desks : List S) (gate : S → G) (left all : List G) → left ≡ [] → map gate desks ++ reverse left ≡ all → map gate desks ≡ all
seated_all desks gate left all is sofar = sym (append-nil (map gate desks)) ∙ (ap (λ (xs : List _). map gate desks ++ reverse xs) (sym is) ∙ sofar)

-- ---- desks that were served

abbrev total : {X : Type 0} → (X → ℕ) → List X → ℕ
total f [] = 0
total f (x ∷ xs) = f x + total f xs

total_is : {X : Type 0} (f : X → ℕ) (xs : List X) → total f xs ≡ sum_by f xs
total_is f xs = is_sum_by (total f) f refl (λ _ _. refl) xs

sum_first : {X : Type 0} (xs : List X) (x : X) (f : X → ℕ) → sum_by f (x ∷ xs) ≡ f x + sum_by f xs
sum_first xs x f = sym (total_is f (x ∷ xs)) ∙ ap (λ n. f x + n) (total_is f xs)

module _ {D G C S : Type 0} (host : Host D G C) (kept : History → Type 0) (first : ℕ) (asking : Request → AskedAgent) (session : S → Visit) (gate : S → G) (told : S → Option DeskEnd) (list : List Entry) (step : ℕ) where
  -- a desk after it was served, and after the store was closed
  abbrev Met : S → S → Type 0
  Met one other = IsPrefix (session one).seen list × (gate other ≡ gate one) × (told other ≡ told one)

  abbrev EachServed : ℕ → List S → List S → Type 0
  EachServed = EachDeskServed kept first host.may_give asking host.link_view host.gate_view session gate told step

  pub record Runs (number : ℕ) (old mid new : List S) : Type 0 where
    pub desks : List (DeskRun G)
    pub count : length desks ≡ length old
    pub gates_are : map (λ desk. desk.opened) desks ≡ map gate old
    pub backs_are : map (λ desk. desk.back) desks ≡ map gate new
    pub served : AreServed host kept first asking list step number desks
    pub changes : sum_by (λ desk. desk.after.changes) desks ≡ sum_by (λ one. (session one).changes) mid
    pub faulted : sum_by (λ desk. desk.after.faults) desks ≡ sum_by (λ one. (session one).faults) mid
    pub status : told_statuses (map told new) ≡ served_status (map (λ desk. desk.end) desks)

  pub runs_of : (number : ℕ) (old mid new : List S) → EachServed number old mid → EachTo Met mid new
      → ((i : ℕ) (d : S) → i < length old → IsNewVisit [] (session (slice_index_or old i d))) → Runs number old mid new
  runs_of number [] [] [] served met fresh = record {
    desks = [];
    count = refl;
    gates_are = refl;
    backs_are = refl;
    served = tt;
    changes = refl;
    faulted = refl;
    status = refl;
  }
  runs_of number [] [] (n ∷ ns) served met fresh = absurd met
  runs_of number [] (m ∷ ms) new served met fresh = absurd served
  runs_of number (o ∷ os) [] new served met fresh = absurd served
  runs_of number (o ∷ os) (m ∷ ms) [] served met fresh = absurd met
  runs_of number (o ∷ os) (m ∷ ms) (n ∷ ns) served met fresh =
      let here = served.0 in
      let others = runs_of (number + 1) os ms ns served.1 met.1 (λ i d less. fresh (suc i) d (omega (arith, less))) in
      let one : DeskRun G = record { opened = gate o; back = gate m; end = here.0; before = session o; after = session m } in
      let same_told : told n ≡ Some here.0 = met.0.2 ∙ here.1 in
      record {
        desks = one ∷ others.desks;
        count = omega (arith, others.count);
        gates_are = ap (λ gs. gate o ∷ gs) others.gates_are;
        backs_are = ap (λ gs. gate m ∷ gs) others.backs_are ∙ ap (λ x. x ∷ map gate ns) (sym met.0.1);
        served = (fresh 0 o (omega arith), here.2, met.0.0, others.served);
        changes = sum_first others.desks one (λ desk. desk.after.changes) ∙ (ap (λ k. (session m).changes + k) others.changes ∙ sym (sum_first ms m (λ s. (session s).changes)));
        faulted = sum_first others.desks one (λ desk. desk.after.faults) ∙ (ap (λ k. (session m).faults + k) others.faulted ∙ sym (sum_first ms m (λ s. (session s).faults)));
        status = ap (λ t. max (told_status t) (told_statuses (map told ns))) same_told ∙ ap (λ k. max (desk_status here.0) k) others.status;
      }

-- ---- statuses

-- the statuses of desks
abbrev IsServedStatus : ℕ → Type 0
IsServedStatus n = (n ≡ 0) ⊎ ((n ≡ 7) ⊎ (n ≡ 11))

desk_statuses : (end : DeskEnd) → IsServedStatus (desk_status end)
desk_statuses GateEnded = inl refl
desk_statuses NoMemory = inr (inl refl)
desk_statuses GateFailed = inr (inr refl)

greatest : (m n : ℕ) → IsServedStatus m → IsServedStatus n → IsServedStatus (max m n)
greatest m n (inl a) (inl b) = subst (λ x. IsServedStatus (max x n)) (sym a) (subst (λ y. IsServedStatus (max 0 y)) (sym b) (inl refl))
greatest m n (inl a) (inr (inl b)) = subst (λ x. IsServedStatus (max x n)) (sym a) (subst (λ y. IsServedStatus (max 0 y)) (sym b) (inr (inl refl)))
greatest m n (inl a) (inr (inr b)) = subst (λ x. IsServedStatus (max x n)) (sym a) (subst (λ y. IsServedStatus (max 0 y)) (sym b) (inr (inr refl)))
greatest m n (inr (inl a)) (inl b) = subst (λ x. IsServedStatus (max x n)) (sym a) (subst (λ y. IsServedStatus (max 7 y)) (sym b) (inr (inl refl)))
greatest m n (inr (inl a)) (inr (inl b)) = subst (λ x. IsServedStatus (max x n)) (sym a) (subst (λ y. IsServedStatus (max 7 y)) (sym b) (inr (inl refl)))
greatest m n (inr (inl a)) (inr (inr b)) = subst (λ x. IsServedStatus (max x n)) (sym a) (subst (λ y. IsServedStatus (max 7 y)) (sym b) (inr (inr refl)))
greatest m n (inr (inr a)) (inl b) = subst (λ x. IsServedStatus (max x n)) (sym a) (subst (λ y. IsServedStatus (max 11 y)) (sym b) (inr (inr refl)))
greatest m n (inr (inr a)) (inr (inl b)) = subst (λ x. IsServedStatus (max x n)) (sym a) (subst (λ y. IsServedStatus (max 11 y)) (sym b) (inr (inr refl)))
greatest m n (inr (inr a)) (inr (inr b)) = subst (λ x. IsServedStatus (max x n)) (sym a) (subst (λ y. IsServedStatus (max 11 y)) (sym b) (inr (inr refl)))

served_statuses : (ends : List DeskEnd) → IsServedStatus (served_status ends)
served_statuses [] = inl refl
served_statuses (end ∷ others) = greatest (desk_status end) (served_status others) (desk_statuses end) (served_statuses others)

-- What each status comes of.
module _ (Read Disk View Listen : Type 0) where
  pub record Causes (status : ℕ) : Type 0 where
    pub words : status ≢ 2
    pub read : status ≡ 3 → Read
    pub output : status ≢ 4
    pub disk : status ≡ 6 → Disk
    pub view : status ≡ 8 → View
    pub listen : status ≡ 11 → Listen

  open_causes : (fault : OpenFault) → (fault ≡ opens.DiskFault → Disk) → Causes (open_status fault)
  open_causes opens.Empty why = record { words = λ e. omega (arith, e); read = λ e. absurd (omega (arith, e)); output = λ e. omega (arith, e); disk = λ e. absurd (omega (arith, e)); view = λ e. absurd (omega (arith, e)); listen = λ e. absurd (omega (arith, e)) }
  open_causes (opens.Damaged side at) why = record { words = λ e. omega (arith, e); read = λ e. absurd (omega (arith, e)); output = λ e. omega (arith, e); disk = λ e. absurd (omega (arith, e)); view = λ e. absurd (omega (arith, e)); listen = λ e. absurd (omega (arith, e)) }
  open_causes opens.DiskFault why = record { words = λ e. omega (arith, e); read = λ e. absurd (omega (arith, e)); output = λ e. omega (arith, e); disk = λ e. why refl; view = λ e. absurd (omega (arith, e)); listen = λ e. absurd (omega (arith, e)) }
  open_causes opens.NoMemory why = record { words = λ e. omega (arith, e); read = λ e. absurd (omega (arith, e)); output = λ e. omega (arith, e); disk = λ e. absurd (omega (arith, e)); view = λ e. absurd (omega (arith, e)); listen = λ e. absurd (omega (arith, e)) }

  table_causes : (fault : TableFault) → (fault ≡ tables.ReadFault → Read) → Causes (table_status fault)
  table_causes (tables.Line line) why = record { words = λ e. omega (arith, e); read = λ e. absurd (omega (arith, e)); output = λ e. omega (arith, e); disk = λ e. absurd (omega (arith, e)); view = λ e. absurd (omega (arith, e)); listen = λ e. absurd (omega (arith, e)) }
  table_causes tables.ReadFault why = record { words = λ e. omega (arith, e); read = λ e. why refl; output = λ e. omega (arith, e); disk = λ e. absurd (omega (arith, e)); view = λ e. absurd (omega (arith, e)); listen = λ e. absurd (omega (arith, e)) }
  table_causes tables.NoMemory why = record { words = λ e. omega (arith, e); read = λ e. absurd (omega (arith, e)); output = λ e. omega (arith, e); disk = λ e. absurd (omega (arith, e)); view = λ e. absurd (omega (arith, e)); listen = λ e. absurd (omega (arith, e)) }
  table_causes tables.ReadLimit why = record { words = λ e. omega (arith, e); read = λ e. absurd (omega (arith, e)); output = λ e. omega (arith, e); disk = λ e. absurd (omega (arith, e)); view = λ e. absurd (omega (arith, e)); listen = λ e. absurd (omega (arith, e)) }

  listen_causes : (fault : ListenFault) → (fault ≡ listens.Failed → Listen) → Causes (listen_status fault)
  listen_causes listens.Failed why = record { words = λ e. omega (arith, e); read = λ e. absurd (omega (arith, e)); output = λ e. omega (arith, e); disk = λ e. absurd (omega (arith, e)); view = λ e. absurd (omega (arith, e)); listen = λ e. why refl }
  listen_causes listens.NoMemory why = record { words = λ e. omega (arith, e); read = λ e. absurd (omega (arith, e)); output = λ e. omega (arith, e); disk = λ e. absurd (omega (arith, e)); view = λ e. absurd (omega (arith, e)); listen = λ e. absurd (omega (arith, e)) }

  view_causes : (fault : ViewFault) → (fault ≡ views.NoPlace → View) → Causes (view_status fault)
  view_causes views.NoPlace why = record { words = λ e. omega (arith, e); read = λ e. absurd (omega (arith, e)); output = λ e. omega (arith, e); disk = λ e. absurd (omega (arith, e)); view = λ e. why refl; listen = λ e. absurd (omega (arith, e)) }
  view_causes views.NoMemory why = record { words = λ e. omega (arith, e); read = λ e. absurd (omega (arith, e)); output = λ e. omega (arith, e); disk = λ e. absurd (omega (arith, e)); view = λ e. absurd (omega (arith, e)); listen = λ e. absurd (omega (arith, e)) }

  served_causes : (n : ℕ) → IsServedStatus n → (n ≡ 11 → Listen) → Causes n
  served_causes n (inl a) why = record { words = λ e. omega (arith, e, a); read = λ e. absurd (omega (arith, e, a)); output = λ e. omega (arith, e, a); disk = λ e. absurd (omega (arith, e, a)); view = λ e. absurd (omega (arith, e, a)); listen = why }
  served_causes n (inr (inl a)) why = record { words = λ e. omega (arith, e, a); read = λ e. absurd (omega (arith, e, a)); output = λ e. omega (arith, e, a); disk = λ e. absurd (omega (arith, e, a)); view = λ e. absurd (omega (arith, e, a)); listen = why }
  served_causes n (inr (inr a)) why = record { words = λ e. omega (arith, e, a); read = λ e. absurd (omega (arith, e, a)); output = λ e. omega (arith, e, a); disk = λ e. absurd (omega (arith, e, a)); view = λ e. absurd (omega (arith, e, a)); listen = why }

-- a desk failed, or one of the others did
failed_first : (end : DeskEnd) (others : ℕ) → IsServedStatus others → max (desk_status end) others ≡ 11 → (end ≡ GateFailed) ⊎ (others ≡ 11)
failed_first GateFailed others kind is = inl refl
failed_first GateEnded others (inl a) is = absurd (omega (arith, sym (ap (λ n. max 0 n) a) ∙ is))
failed_first GateEnded others (inr (inl a)) is = absurd (omega (arith, sym (ap (λ n. max 0 n) a) ∙ is))
failed_first GateEnded others (inr (inr a)) is = inr a
failed_first NoMemory others (inl a) is = absurd (omega (arith, sym (ap (λ n. max 7 n) a) ∙ is))
failed_first NoMemory others (inr (inl a)) is = absurd (omega (arith, sym (ap (λ n. max 7 n) a) ∙ is))
failed_first NoMemory others (inr (inr a)) is = inr a

module _ {D G C : Type 0} (host : Host D G C) where
  record Failed (gates : List G) : Type 0 where
    pub gate : G
    pub back : G
    pub among : Contains gates gate
    pub counted : CountIncreased (host.gate_view gate).faults (host.gate_view back).faults

  module _ (kept : History → Type 0) (first : ℕ) (asking : Request → AskedAgent) (list : List Entry) (step : ℕ) where
    failed_desk : (number : ℕ) (desks : List (DeskRun G)) → AreServed host kept first asking list step number desks → served_status (map (λ desk. desk.end) desks) ≡ 11 → Failed (map (λ desk. desk.opened) desks)
    failed_desk number [] served is = absurd (omega (arith, is))
    failed_desk number (desk ∷ others) served is = this (failed_desk (number + 1) others served.3) (failed_first desk.end (served_status (map (λ d. d.end) others)) (served_statuses (map (λ d. d.end) others)) is)
      where
        this : (served_status (map (λ d. d.end) others) ≡ 11 → Failed (map (λ d. d.opened) others)) → (desk.end ≡ GateFailed) ⊎ (served_status (map (λ d. d.end) others) ≡ 11) → Failed (desk.opened ∷ map (λ d. d.opened) others)
        this among_others (inl failed) = record {
          gate = desk.opened;
          back = desk.back;
          among = (0, omega arith, refl);
          counted = (subst (λ e. IsDeskEnd e served.1.links (host.gate_view desk.opened) (host.gate_view desk.back)) failed served.1.ended).2;
        }
        this among_others (inr later) =
            let one = among_others later in
            record {
              gate = one.gate;
              back = one.back;
              among = (suc one.among.0, omega (arith, one.among.1), one.among.2);
              counted = one.counted;
            }

  module _ (listen : ListenRun G) (status : ℕ) where
    abbrev ListenFaults : Type 0
    ListenFaults = CountIncreased listen.old.faults listen.new.faults ⊎ IsGateFault listen.may_open (λ gate. (host.gate_view gate).faults)

    abbrev Refused : Type 0
    Refused = CountIncreasedByOne listen.old_places listen.new_places

    module _ (keeper left : KeeperState D) where
      abbrev Why : Type 0 → Type 0 → ℕ → Type 0
      Why Read Disk = Causes Read Disk Refused ListenFaults

      serving_causes : (Read Disk : Type 0) (agents : List TokenEntry) (workers : ℕ) → IsServing host keeper left listen agents workers status → Why Read Disk status
      serving_causes Read Disk agents workers s =
          let ends = map (λ desk. desk.end) s.served.desks in
          let gate_failed = λ (is : served_status ends ≡ 11).
          let one = failed_desk (KeptSome host.image keeper) keeper.next (asking_of (Table agents)) s.served.list (length s.served.desks) 1 s.served.desks s.served.served is in
          let fault : IsGateFault listen.may_open (λ gate. (host.gate_view gate).faults) = record {
            gates = s.gates;
            opened = s.opened;
            gate = one.gate;
            back = one.back;
            among = subst (λ gates. Contains gates one.gate) s.served.gates_are one.among;
            counted = one.counted;
          } in
          fault in
          subst (Why Read Disk) (sym s.served.status_is) (served_causes Read Disk Refused ListenFaults (served_status ends) (served_statuses ends) (λ is. inr (gate_failed is)))

      listener_causes : (Read Disk : Type 0) (agents : List TokenEntry) (workers : ℕ) → RunsListener host keeper left listen agents workers status → Why Read Disk status
      listener_causes Read Disk agents workers (inl l) = subst (Why Read Disk) (sym l.status_is) (listen_causes Read Disk Refused ListenFaults l.fault (λ is. inl (l.failed is)))
      listener_causes Read Disk agents workers (inr (inl v)) = subst (Why Read Disk) (sym v.status_is) (view_causes Read Disk Refused ListenFaults v.fault v.refused)
      listener_causes Read Disk agents workers (inr (inr s)) = serving_causes Read Disk agents workers s

      tokens_causes : (Disk : Type 0) (workers : ℕ) (tokens : TokenSource) (errors : ErrorSink) → RunsTokens host keeper left listen workers tokens errors status → Why (CountIncreased tokens.old_faults tokens.new_faults) Disk status
      tokens_causes Disk workers tokens errors (inl t) = subst (Why (CountIncreased tokens.old_faults tokens.new_faults) Disk) (sym t.tells.0)
          (table_causes (CountIncreased tokens.old_faults tokens.new_faults) Disk Refused ListenFaults t.fault (λ is. (subst (λ f. HasTableCause f tokens) is t.cause).0))
      tokens_causes Disk workers tokens errors (inr t) = listener_causes (CountIncreased tokens.old_faults tokens.new_faults) Disk t.1.agents workers t.1.runs

    pub run_causes : (run : DiskRun D) (workers : ℕ) (tokens : TokenSource) (errors : ErrorSink) → RunsPodd host run listen workers tokens errors status
        → Causes (CountIncreased tokens.old_faults tokens.new_faults) (DiskCountIncreased run.faults run.old run.new) Refused ListenFaults status
    run_causes run workers tokens errors (inl u) =
        let Disk = DiskCountIncreased run.faults run.old run.new in
        subst (Causes (CountIncreased tokens.old_faults tokens.new_faults) Disk Refused ListenFaults) (sym u.status_is)
        (open_causes (CountIncreased tokens.old_faults tokens.new_faults) Disk Refused ListenFaults u.fault
        (λ is. subst (HasPodCause (run.content run.old.first) (run.content run.old.second) (run.faults run.old.first) (run.faults run.new.first) (run.faults run.old.second) (run.faults run.new.second)) is u.cause))
    run_causes run workers tokens errors (inr r) = tokens_causes r.keeper r.left (DiskCountIncreased run.faults run.old run.new) workers tokens errors r.runs

-- ---- a store that was served and then closed

-- both times all sessions saw one list
pub met_both : {S P G T : Type 0} (us bs cs : List S) (session : S → Visit) (rest : S → P) (gate : P → G) (told : P → T) (one two : List Entry)
    → EachTo (λ old new. Meets one (session old) (session new) × (gate (rest new) ≡ gate (rest old)) × (told (rest new) ≡ told (rest old))) us bs
    → EachTo (λ old new. Meets two (session old) (session new) × (rest new ≡ rest old)) bs cs
    → EachTo (λ old new. IsPrefix (session old).seen two × (gate (rest new) ≡ gate (rest old)) × (told (rest new) ≡ told (rest old))) us cs
met_both [] [] [] session rest gate told one two h k = tt
met_both [] [] (c ∷ cs) session rest gate told one two h k = absurd k
met_both [] (b ∷ bs) cs session rest gate told one two h k = absurd h
met_both (a ∷ us) [] cs session rest gate told one two h k = absurd h
met_both (a ∷ us) (b ∷ bs) [] session rest gate told one two h k = absurd k
met_both (a ∷ us) (b ∷ bs) (c ∷ cs) session rest gate told one two h k = (
  (subst (λ (list : List Entry). IsPrefix (session a).seen list) k.0.0.1 (prefix_trans (session a).seen (session b).seen (session c).seen h.0.0.0 k.0.0.0), ap gate k.0.1 ∙ h.0.1, ap told k.0.1 ∙ h.0.2),
  met_both us bs cs session rest gate told one two h.1 k.1,
)

module _ {S G T : Type 0} (session : S → Visit) (gate : S → G) (told : S → T) (list : List Entry) where
  abbrev AllMet : List S → List S → Type 0
  AllMet = EachTo (λ old new. Meets list (session old) (session new) × (gate new ≡ gate old) × (told new ≡ told old))

  pub same_changes : (us bs : List S) → AllMet us bs → sum_by (λ one. (session one).changes) bs ≡ sum_by (λ one. (session one).changes) us
  same_changes [] [] h = refl
  same_changes [] (b ∷ bs) h = absurd h
  same_changes (a ∷ us) [] h = absurd h
  same_changes (a ∷ us) (b ∷ bs) h = omega (arith, sum_first bs b (λ one. (session one).changes), sum_first us a (λ one. (session one).changes), h.0.0.2, same_changes us bs h.1)

  pub same_faults : (us bs : List S) → AllMet us bs → sum_by (λ one. (session one).faults) bs ≡ sum_by (λ one. (session one).faults) us
  same_faults [] [] h = refl
  same_faults [] (b ∷ bs) h = absurd h
  same_faults (a ∷ us) [] h = absurd h
  same_faults (a ∷ us) (b ∷ bs) h = omega (arith, sum_first bs b (λ one. (session one).faults), sum_first us a (λ one. (session one).faults), h.0.0.3, same_faults us bs h.1)

-- a list whose items were lent and written
pub refilled : {X : Type 0} (n : ℕ) (new items : List X) → length new ≡ length items → n ≡ length items → take n (new ++ drop (length new) items) ≡ new
refilled n new items e f =
    ap (λ ys. take n (new ++ ys)) (drop_all (length new) items (omega (arith, e))) ∙ ap (take n) (append-nil new) ∙ take_all n new (omega (arith, e, f))

-- the desks of a store that was served and closed are those of a run
pub served_as : {D G C S : Type 0} (old new later lent : List S) (session : S → Visit) (gate : S → G) (told : S → Option DeskEnd) (host : Host D G C) (store : NamedStore D) (asking : Request → AskedAgent) (left : KeeperState D) (gates : List G) (before after : ListenView G) (status : ℕ)
    → AreClosed host store asking left session gate told old new → ((i : ℕ) (d : S) → i < length old → IsNewVisit [] (session (slice_index_or old i d))) → map gate old ≡ gates → later ≡ new → lent ≡ later → GivesBack (map gate later) before after → status ≡ told_statuses (map told lent)
    → AreServedAs host store asking left gates before after status
served_as old new later lent session gate told host store asking left gates before after status closed fresh gates_are same same_lent back status_is =
    let runs = runs_of host store.kept store.first asking session gate told closed.list (length old) 1 old closed.mid new closed.desks closed.met fresh in
    record {
      desks = runs.desks;
      list = closed.list;
      gates_are = runs.gates_are ∙ gates_are;
      served = subst (λ n. AreServed host store.kept store.first asking closed.list n 1 runs.desks) (sym runs.count) runs.served;
      longer_kept = closed.longer_kept;
      grown = closed.grown ∙ sym runs.changes;
      covered = subst (λ n. Covers store.counted n (host.faults left.first) (host.faults left.second)) (sym runs.faulted) closed.covered;
      still_safe = closed.still_safe;
      took = subst (λ n. TookChanges host.image host.moment host.left_since store.began closed.list n left) (sym runs.faulted) closed.took;
      back = subst (λ backs. GivesBack backs before after) (ap (map gate) same ∙ sym runs.backs_are) back;
      status_is = status_is ∙ (ap (λ ds. told_statuses (map told ds)) (same_lent ∙ same) ∙ runs.status);
    }

-- the gates were opened, and then served or not
pub listened : {D G C : Type 0} (host : Host D G C) (keeper left : KeeperState D) (agents : List TokenEntry) (workers : ℕ) (gates : List G) (may_open may_open_more : List G → Type 0) (old mid new : ListenView G) (old_places new_places status : ℕ) → may_open gates → length gates ≡ workers
    → mid.back ≡ old.back → RunsOpened host keeper left agents gates (listen_run may_open_more mid new old_places new_places) status → RunsListener host keeper left (listen_run may_open old new old_places new_places) agents workers status
listened host keeper left agents workers gates may_open may_open_more old mid new old_places new_places status opened count same (inl u) =
    inr (inl (record {
      kept = u.kept;
      gates = gates;
      unserved = record { opened = opened; back = u.back ∙ ap (option_map (λ back. back ++ reverse gates)) same };
      fault = u.fault;
      refused = u.refused;
      status_is = u.status_is;
    }))
listened host keeper left agents workers gates may_open may_open_more old mid new old_places new_places status opened count same (inr s) =
    inr (inr (record {
      gates = gates;
      opened = opened;
      count = count;
      served = record {
        desks = s.desks;
        list = s.list;
        gates_are = s.gates_are;
        served = s.served;
        kept = s.longer_kept;
        grown = s.grown;
        counted = s.covered;
        safe = s.still_safe;
        back = s.back ∙ ap (option_map (λ back. back ++ reverse (map (λ desk. desk.back) s.desks))) same;
        status_is = s.status_is;
      };
      took = record { taken = s.took.taken; entries = s.took.entries; faulted = s.took.faulted; so = s.took.so keeper refl };
    }))

-- no desk has a gate yet
pub begun : {S G : Type 0} (desks : List S) (gate : S → G) (gates : List G) → desks ≡ [] → map gate desks ++ reverse gates ≡ reverse gates
begun desks gate gates is = ap (λ ds. map gate ds ++ reverse gates) is

pub none_new : {S : Type 0} (desks : List S) (P : S → Type 0) → desks ≡ [] → All P desks
none_new desks P is = subst (All P) (sym is) (All-nil P)

-- the disks that were taken out of a place are those that it had
pub disk_cause : {D : Type 0} (old : Option (Disks D)) (disks new : Disks D) (faults : D → ℕ) → Some disks ≡ old → DiskCountIncreased faults disks new → IfSome old (λ a. IfSome (Some new) (λ b. DiskCountIncreased faults a b))
disk_cause old disks new faults same cause = subst (λ o. IfSome o (λ a. IfSome (Some new) (λ b. DiskCountIncreased faults a b))) same cause
