-- The connections of a desk, one more.
use Rattle.std.proofs.Common.{◌≡◌, ◌≢◌, ◌⊎◌, inl, inr, ℕ, suc, Bool, true, false, ◌+◌, ◌<◌, ◌≤◌, if◌then◌else◌, slice_index_or, List, [], ◌∷◌, ◌++◌, length, length-append, map, Option, Some, None, refl, sym, ap, subst, append_assoc, ◌∙◌, arith}
use Rattle.std.specs.List.{AllByRecursion}
use Rattle.std.specs.Option.{option_map}
use Rattle.std.proofs.lemmas.List.{append-nil}
use Rattle.pod_base.specs.EachTo.{EachTo}
use Rattle.pod_base.specs.declared.request.Request.{Request}
use Rattle.pod_command.specs.declared.entry.Entry.{Entry}
use Rattle.pod_core.specs.History.{History}
use Rattle.pod_io.specs.Counts.{next_count}
use Rattle.pod_live.specs.Visits.{Meets, Visit}
use Rattle.token_table.specs.Credentials.{AskedAgent}
use Rattle.pod_serve.specs.Desks.{Conns, DeskServed, EachDeskServed, GateView, IsDeskServed, IsDeskEnd, IsGateLeft, NoneOutOfMemory, ServedLink, SomeOutOfMemory}
use Rattle.pod_serve.specs.Connections.{ConnServed}
use Rattle.pod_serve.specs.Served.{LinkView}
use Rattle.pod_serve.specs.Turns.{IsOneServed, NextServed}
use Rattle.pod_serve.specs.declared.connection_end.ConnEnd.{ConnEnd}
use Rattle.pod_serve.specs.declared.connection_end.ConnEnd.TheVariants as ends
use Rattle.pod_serve.specs.declared.desk.DeskEnd.{DeskEnd}
use Rattle.pod_serve.specs.declared.desk.DeskEnd.TheVariants.{GateEnded, GateFailed, NoMemory}
use Rattle.pod_serve.specs.declared.desk.Next.TheVariants.{Over}

abbrev pub number_after : {X : Type 0} → ℕ → ℕ → List X → ℕ
number_after number step [] = number
number_after number step (x ∷ xs) = number_after (number + step) step xs

number_more : {X : Type 0} (number step : ℕ) (xs : List X) (x : X) → number_after number step (xs ++ x ∷ []) ≡ number_after number step xs + step
number_more number step [] x = refl
number_more number step (y ∷ xs) x = number_more (number + step) step xs x

map_more : {X Y : Type 0} (f : X → Y) (xs : List X) (x : X) → map f (xs ++ x ∷ []) ≡ map f xs ++ f x ∷ []
map_more f [] x = refl
map_more f (y ∷ xs) x = ap (λ ys. f y ∷ ys) (map_more f xs x)

all_more : {X : Type 0} (P : X → Type 0) (xs : List X) (x : X) → AllByRecursion P xs → P x → AllByRecursion P (xs ++ x ∷ [])
all_more P [] x h p = (p, tt)
all_more P (y ∷ xs) x h p = (h.0, all_more P xs x h.1 p)

given_more : {X : Type 0} (xs : List X) (x : X) (old mid new : Option (List X)) → old ≡ option_map (λ rest. xs ++ rest) mid → mid ≡ option_map (λ rest. x ∷ rest) new → old ≡ option_map (λ rest. (xs ++ x ∷ []) ++ rest) new
given_more xs x old mid None h k = h ∙ ap (option_map (λ rest. xs ++ rest)) k
given_more xs x old mid (Some rest) h k = h ∙ (ap (option_map (λ r. xs ++ r)) k ∙ ap (λ r. Some r) (sym (append_assoc xs (x ∷ []) rest)))

back_more : {X : Type 0} (xs : List X) (x : X) (old mid new : Option (List X)) → mid ≡ option_map (λ back. back ++ xs) old → new ≡ option_map (λ back. back ++ x ∷ []) mid → new ≡ option_map (λ back. back ++ (xs ++ x ∷ [])) old
back_more xs x None mid new h k = k ∙ ap (option_map (λ back. back ++ x ∷ [])) h
back_more xs x (Some back) mid new h k = k ∙ (ap (option_map (λ b. b ++ x ∷ [])) h ∙ ap (λ b. Some b) (append_assoc back xs (x ∷ [])))

none_given : {X : Type 0} (o : Option (List X)) → o ≡ option_map (λ rest. [] ++ rest) o
none_given None = refl
none_given (Some rest) = refl

none_back : {X : Type 0} (o : Option (List X)) → o ≡ option_map (λ back. back ++ []) o
none_back None = refl
none_back (Some back) = ap (λ b. Some b) (sym (append-nil back))

some_more : {C : Type 0} (xs ys : List (ServedLink C)) → SomeOutOfMemory xs → SomeOutOfMemory (xs ++ ys)
some_more [] ys h = absurd h
some_more (x ∷ xs) ys (inl is) = inl is
some_more (x ∷ xs) ys (inr more) = inr (some_more xs ys more)

some_last : {C : Type 0} (xs : List (ServedLink C)) (x : ServedLink C) → x.end ≡ ends.NoMemory → SomeOutOfMemory (xs ++ x ∷ [])
some_last [] x is = inl is
some_last (y ∷ xs) x is = inr (some_last xs x is)

-- What a desk has served so far: its connections, and whether one was out of memory.
module _ (kept : History → Type 0) (first : ℕ) (may_give : ℕ → Type 0) (asking : Request → AskedAgent) {C : Type 0} (view : C → LinkView) (step begun : ℕ) where
  pub record IsSoFar (before : Visit) (old : GateView C) (count number : ℕ) (starved : Bool) (now : Visit) (gate : GateView C) : Type 0 where
    pub links : List (ServedLink C)
    pub conns : Conns kept first may_give asking view step begun before links now
    pub given : old.rest ≡ option_map (λ rest. map (λ (one : ServedLink C). one.given) links ++ rest) gate.rest
    pub back : gate.back ≡ option_map (λ back. back ++ map (λ (one : ServedLink C). one.back) links) old.back
    pub count_is : length links ≡ count
    pub number_is : number ≡ number_after begun step links
    pub fine : starved ≡ false → NoneOutOfMemory links
    pub poor : starved ≡ true → SomeOutOfMemory links
    pub ended : gate.ends ≡ old.ends
    pub faults : old.faults ≤ gate.faults

  pub begins : (before : Visit) (old : GateView C) → IsSoFar before old 0 begun false before old
  begins before old = record {
    links = [];
    conns = refl;
    given = none_given old.rest;
    back = none_back old.back;
    count_is = refl;
    number_is = refl;
    fine = λ e. tt;
    poor = λ e. absurd (cc e);
    ended = refl;
    faults = omega arith;
  }

  conns_more : (number : ℕ) (before mid new : Visit) (links : List (ServedLink C)) (one : ServedLink C) → Conns kept first may_give asking view step number before links mid
      → ConnServed kept first may_give asking (number_after number step links) one.end mid new (view one.given) (view one.back) one.wires one.counted → Conns kept first may_give asking view step number before (links ++ one ∷ []) new
  conns_more number before mid new [] one is served = (new, subst (λ (v : Visit). ConnServed kept first may_give asking number one.end v new (view one.given) (view one.back) one.wires one.counted) is served, refl)
  conns_more number before mid new (l ∷ links) one c served = (c.0, c.1, conns_more (number + step) c.0 mid new links one c.2 served)

  pub one_more : (before : Visit) (old : GateView C) (count number : ℕ) (starved : Bool) (mid : Visit) (gate : GateView C) (s : IsSoFar before old count number starved mid gate) (end : ConnEnd) (new : Visit) (next : GateView C)
      → IsOneServed kept first may_give asking view number end mid new gate next → (now : Bool) → (now ≡ false → (starved ≡ false) × (end ≢ ends.NoMemory)) → (now ≡ true → (starved ≡ true) ⊎ (end ≡ ends.NoMemory)) → IsSoFar before old (count + 1) (number + step) now new next
  one_more before old count number starved mid gate s end new next o now fine poor = record {
    links = s.links ++ o.one ∷ [];
    conns = conns_more begun before mid new s.links o.one s.conns (subst (λ n. ConnServed kept first may_give asking n o.one.end mid new (view o.one.given) (view o.one.back) o.one.wires o.one.counted) s.number_is (subst (λ e. ConnServed kept first may_give asking number e mid new (view o.one.given) (view o.one.back) o.one.wires o.one.counted) (sym o.end_is) o.served));
    given = subst (λ (xs : List C). old.rest ≡ option_map (λ rest. xs ++ rest) next.rest) (sym (map_more (λ (one : ServedLink C). one.given) s.links o.one)) (given_more (map (λ (one : ServedLink C). one.given) s.links) o.one.given old.rest gate.rest next.rest s.given o.given);
    back = subst (λ (xs : List C). next.back ≡ option_map (λ back. back ++ xs) old.back) (sym (map_more (λ (one : ServedLink C). one.back) s.links o.one)) (back_more (map (λ (one : ServedLink C). one.back) s.links) o.one.back old.back gate.back next.back s.back o.back);
    count_is = length-append s.links (o.one ∷ []) ∙ ap (λ n. n + 1) s.count_is;
    number_is = ap (λ n. n + step) s.number_is ∙ sym (number_more begun step s.links o.one);
    fine = λ e. let f = fine e in all_more (λ (one : ServedLink C). one.end ≢ ends.NoMemory) s.links o.one (s.fine f.0) (λ is. f.1 (sym o.end_is ∙ is));
    poor = λ e. elim (poor e) [ inl was ↦ some_more s.links (o.one ∷ []) (s.poor was) | inr is ↦ some_last s.links o.one (o.end_is ∙ is) ];
    ended = o.ended ∙ s.ended;
    faults = omega (arith, s.faults, o.faults);
  }

  module _ (before : Visit) (old : GateView C) (count number : ℕ) (starved : Bool) (now : Visit) (gate : GateView C) (s : IsSoFar before old count number starved now gate) where
    served_so : (end : DeskEnd) (next : GateView C) → gate.rest ≡ next.rest → next.back ≡ gate.back → IsDeskEnd end s.links old next → DeskServed kept first may_give asking view step begun end before now old next
    served_so end next same_rest same_back ended = record {
      links = s.links;
      conns = s.conns;
      given = subst (λ (o : Option (List C)). old.rest ≡ option_map (λ rest. map (λ (one : ServedLink C). one.given) s.links ++ rest) o) same_rest s.given;
      back = same_back ∙ s.back;
      ended = ended;
    }

    -- the gate gave no more, or failed
    pub over : (end told : DeskEnd) (after : Visit) (next : GateView C) → NextServed kept first may_give asking view number (Over end) now after gate next → told ≡ (if starved then NoMemory else end)
        → DeskServed kept first may_give asking view step begun told before after old next
    over end told after next o is =
        subst (λ (v : Visit). DeskServed kept first may_give asking view step begun told before v old next) (sym (same end o))
        (subst (λ e. DeskServed kept first may_give asking view step begun e before now old next) (sym is)
        (elim starved as (λ b. starved ≡ b → DeskServed kept first may_give asking view step begun (if b then NoMemory else end) before now old next) [
          | true ↦ λ e. served_so NoMemory next (rest_of end o) (back_of end o) (s.poor e, left_of end o)
          | false ↦ λ e. served_so end next (rest_of end o) (back_of end o) (ended_of end o e)
        ] refl))
      where
        same : (end : DeskEnd) → NextServed kept first may_give asking view number (Over end) now after gate next → after ≡ now
        same GateEnded o = o.0.session
        same GateFailed o = o.0.session
        same NoMemory o = absurd o

        rest_of : (end : DeskEnd) → NextServed kept first may_give asking view number (Over end) now after gate next → gate.rest ≡ next.rest
        rest_of GateEnded o = o.0.given
        rest_of GateFailed o = o.0.given
        rest_of NoMemory o = absurd o

        back_of : (end : DeskEnd) → NextServed kept first may_give asking view number (Over end) now after gate next → next.back ≡ gate.back
        back_of GateEnded o = o.0.back
        back_of GateFailed o = o.0.back
        back_of NoMemory o = absurd o

        ended_of : (end : DeskEnd) → NextServed kept first may_give asking view number (Over end) now after gate next → starved ≡ false → IsDeskEnd end s.links old next
        ended_of GateEnded o e = (s.fine e, inl (o.1 ∙ ap next_count s.ended))
        ended_of GateFailed o e = (s.fine e, o.1 ∙ s.ended, λ below. omega (arith, s.faults, o.2 below))
        ended_of NoMemory o e = absurd o

        left_of : (end : DeskEnd) → NextServed kept first may_give asking view number (Over end) now after gate next → IsGateLeft s.links old next
        left_of GateEnded o = inl (o.1 ∙ ap next_count s.ended)
        left_of GateFailed o = inr (inr (o.1 ∙ s.ended, λ below. omega (arith, s.faults, o.2 below)))
        left_of NoMemory o = absurd o

-- ---- many desks

module _ (kept : History → Type 0) (first : ℕ) (may_give : ℕ → Type 0) (asking : Request → AskedAgent) {S G C : Type 0} (view : C → LinkView) (gate_view : G → GateView C) (session : S → Visit) (gate : S → G) (told : S → Option DeskEnd) (step : ℕ) where
  abbrev ServedAt : ℕ → S → S → Type 0
  ServedAt number old new = IsDeskServed kept first may_give asking view step number (session old) (session new) (told new) (gate_view (gate old)) (gate_view (gate new))

  abbrev ServedFrom : ℕ → List S → List S → Type 0
  ServedFrom number old new = (i : ℕ) (d : S) → i < length old → ServedAt (i + number) (slice_index_or old i d) (slice_index_or new i d)

  -- each by its index
  pub each_served : (number : ℕ) (old new : List S) → length new ≡ length old → ServedFrom number old new → EachDeskServed kept first may_give asking view gate_view session gate told step number old new
  each_served number [] [] same served = tt
  each_served number [] (n ∷ ns) same served = absurd (omega (arith, same))
  each_served number (o ∷ os) [] same served = absurd (omega (arith, same))
  each_served number (o ∷ os) (n ∷ ns) same served = (
    subst (λ k. ServedAt k o n) (omega arith) (served 0 o (omega arith)),
    each_served (number + 1) os ns (omega (arith, same)) (λ i d less. subst (λ k. ServedAt k (slice_index_or os i d) (slice_index_or ns i d)) (omega arith) (served (suc i) d (omega (arith, less)))),
  )

-- what stays of a desk that saw a list
pub met_parts : {S P G T : Type 0} (us bs : List S) (session : S → Visit) (rest : S → P) (gate : P → G) (told : P → T) (list : List Entry) → EachTo (λ old new. Meets list (session old) (session new) × (rest new ≡ rest old)) us bs
    → EachTo (λ old new. Meets list (session old) (session new) × (gate (rest new) ≡ gate (rest old)) × (told (rest new) ≡ told (rest old))) us bs
met_parts [] [] session rest gate told list h = tt
met_parts [] (b ∷ bs) session rest gate told list h = absurd h
met_parts (a ∷ us) [] session rest gate told list h = absurd h
met_parts (a ∷ us) (b ∷ bs) session rest gate told list h = ((h.0.0, ap gate h.0.1, ap told h.0.1), met_parts us bs session rest gate told list h.1)
