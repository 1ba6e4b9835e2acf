-- Disks that hold a store, are damaged, or are empty.
use Rattle.std.proofs.Common.{◌≡◌, ◌⊎◌, inl, inr, ℕ, ◌+◌, List, [], ◌∷◌, ◌++◌, map, Some, refl, sym, ◌∙◌, ap, subst, rules}
use Rattle.std.specs.List.{AllByRecursion}
use Rattle.journal_log.specs.declared.fault.Side.{Side}
use Rattle.journal_pair.specs.PairLaws.{StoreStandsOnce, StoreStandsOrDamaged, StoreEmptyOnly, StoreDamagedOnce}
use Rattle.stored_forms.specs.StoredForms.{snapshot_bytes}
use Rattle.pod_command.specs.declared.entry.Entry.{Entry}
use Rattle.pod_command.specs.declared.snapshot.Snapshot.{Snapshot}
use Rattle.pod_records.specs.PodStores.{BreaksAfter, HasBadContent, gate_after}
use Rattle.pod_records.specs.Records.{Holds, IsEntryIn, IsReadable, entry_text}
use Rattle.pod_rows.specs.Apply.{AllApply, applied}
use Rattle.pod_rows.specs.Pod.{Pod}
use Rattle.pod_rows.specs.WellFormed.{pod_of}
use Rattle.podctl_commands.specs.Laws.{StoreOrDamaged, StoreOrEmpty, DamagedOrEmpty, DamagedOnce}

-- the entries whose texts these first records are
record Front (format : ℕ) (texts : List (List ℕ)) (pod : Pod) (next : ℕ) : Type 0 where
  entries : List Entry
  are : texts ≡ map (entry_text format) entries
  stored : AllByRecursion (IsEntryIn format) entries
  apply : AllApply pod next entries

front_of : (format : ℕ) (good : List (List ℕ)) (bad : List ℕ) (rest : List (List ℕ)) (entries : List Entry) (pod : Pod) (next : ℕ) → good ++ bad ∷ rest ≡ map (entry_text format) entries → AllByRecursion (IsEntryIn format) entries → AllApply pod next entries → Front format (good ++ bad ∷ []) pod next
front_of format [] bad rest [] pod next e stored apply = search (rules, e)
front_of format [] bad rest (entry ∷ more) pod next e stored apply =
    let head : bad ≡ entry_text format entry = search (rules, e) in
    record { entries = entry ∷ []; are = ap (λ x. x ∷ []) head; stored = (stored.0, tt); apply = (apply.0, tt) }
front_of format (text ∷ good) bad rest [] pod next e stored apply = search (rules, e)
front_of format (text ∷ good) bad rest (entry ∷ more) pod next e stored apply =
    let head : text ≡ entry_text format entry = search (rules, e) in
    let tail : good ++ bad ∷ rest ≡ map (entry_text format) more = search (rules, e) in
    let front = front_of format good bad rest more (applied pod entry) (next + 1) tail stored.1 apply.1 in
    record {
      entries = entry ∷ front.entries;
      are = ap (λ x. x ∷ (good ++ bad ∷ [])) head ∙ ap (λ l. entry_text format entry ∷ l) front.are;
      stored = (stored.0, front.stored);
      apply = (apply.0, front.apply);
    }

-- the first of records that hold something hold something
readable_front : (format : ℕ) (good : List (List ℕ)) (bad : List ℕ) (rest : List (List ℕ)) (snapshot : Snapshot) (entries : List Entry) → Holds format (good ++ bad ∷ rest) snapshot entries → IsReadable format (good ++ bad ∷ [])
readable_front format [] bad rest snapshot entries h =
    let texts = h.texts in
    let head : bad ≡ snapshot_bytes snapshot = search (rules, texts) in
    (snapshot, [], record { texts = ap (λ x. x ∷ []) head; stored = h.stored; well_formed = h.well_formed; all_stored = tt; apply = tt })
readable_front format (text ∷ good) bad rest snapshot entries h =
    let texts = h.texts in
    let head : text ≡ snapshot_bytes snapshot = search (rules, texts) in
    let tail : good ++ bad ∷ rest ≡ map (entry_text format) entries = search (rules, texts) in
    let front = front_of format good bad rest entries (pod_of snapshot) snapshot.seq tail h.all_stored h.apply in (
      snapshot,
      front.entries,
      record {
        texts = ap (λ x. x ∷ (good ++ bad ∷ [])) head ∙ ap (λ l. snapshot_bytes snapshot ∷ l) front.are;
        stored = h.stored;
        well_formed = h.well_formed;
        all_stored = front.stored;
        apply = front.apply;
      },
    )

-- so they don't break
unbroken : (format : ℕ) (bodies good : List (List ℕ)) (snapshot : Snapshot) (entries : List Entry) → Holds format bodies snapshot entries → BreaksAfter format bodies good → ⊥
unbroken format bodies good snapshot entries h b =
    b.breaks (readable_front format good b.bad b.rest snapshot entries (subst (λ l. Holds format l snapshot entries) b.are h))

pub store_excludes_damage : StoreStandsOnce → StoreStandsOrDamaged → StoreOrDamaged
store_excludes_damage once or first second snapshot entries side at s (inl damaged) =
    or s.side side s.format s.epoch at s.bodies first second (s.stands first refl second refl) damaged
store_excludes_damage once or first second snapshot entries side at s (inr bad) =
    let same = once s.side side s.format bad.format s.epoch bad.epoch s.bodies bad.bodies first second (s.stands first refl second refl) bad.stands in
    let held = subst (λ l. Holds bad.format l snapshot entries) same.3 (subst (λ f. Holds f s.bodies snapshot entries) same.1 s.holds) in
    unbroken bad.format bad.bodies bad.good snapshot entries held bad.breaks

pub store_excludes_empty : StoreEmptyOnly → StoreOrEmpty
store_excludes_empty only first second snapshot entries s empty =
    (only s.side s.format s.epoch 0 s.bodies first second empty).0 (s.stands first refl second refl)

pub damage_excludes_empty : StoreEmptyOnly → DamagedOrEmpty
damage_excludes_empty only first second side at (inl damaged) empty = (only side 0 0 at [] first second empty).1 damaged
damage_excludes_empty only first second side at (inr bad) empty = (only side bad.format bad.epoch at bad.bodies first second empty).0 bad.stands

-- two lists that begin one list
begin_both : (xs ys : List (List ℕ)) (x y : List ℕ) (more more_2 : List (List ℕ)) → xs ++ x ∷ more ≡ ys ++ y ∷ more_2 → (xs ≡ ys) ⊎ (((rest : List (List ℕ)) × (ys ≡ xs ++ x ∷ rest)) ⊎ ((rest : List (List ℕ)) × (xs ≡ ys ++ y ∷ rest)))
begin_both [] [] x y more more_2 e = inl refl
begin_both [] (b ∷ ys) x y more more_2 e = let head : b ≡ x = search (rules, e) in inr (inl (ys, ap (λ h. h ∷ ys) head))
begin_both (a ∷ xs) [] x y more more_2 e = let head : a ≡ y = search (rules, e) in inr (inr (xs, ap (λ h. h ∷ xs) head))
begin_both (a ∷ xs) (b ∷ ys) x y more more_2 e =
    let head : a ≡ b = search (rules, e) in
    let tail : xs ++ x ∷ more ≡ ys ++ y ∷ more_2 = search (rules, e) in
    both (begin_both xs ys x y more more_2 tail) head
  where
    both : (xs ≡ ys) ⊎ (((rest : List (List ℕ)) × (ys ≡ xs ++ x ∷ rest)) ⊎ ((rest : List (List ℕ)) × (xs ≡ ys ++ y ∷ rest))) → a ≡ b → ((a ∷ xs) ≡ (b ∷ ys)) ⊎ (((rest : List (List ℕ)) × ((b ∷ ys) ≡ (a ∷ xs) ++ x ∷ rest)) ⊎ ((rest : List (List ℕ)) × ((a ∷ xs) ≡ (b ∷ ys) ++ y ∷ rest)))
    both (inl same) head = inl (ap (λ h. h ∷ xs) head ∙ ap (λ l. b ∷ l) same)
    both (inr (inl (rest, longer))) head = inr (inl (rest, ap (λ h. h ∷ ys) (sym head) ∙ ap (λ l. a ∷ l) longer))
    both (inr (inr (rest, longer))) head = inr (inr (rest, ap (λ h. h ∷ xs) head ∙ ap (λ l. b ∷ l) longer))

-- none breaks after one that holds with it
not_after : (format : ℕ) (bodies good longer rest : List (List ℕ)) (b : BreaksAfter format bodies good) → BreaksAfter format bodies longer → longer ≡ good ++ b.bad ∷ rest → ⊥
not_after format bodies good longer rest b other are = of_front other.holds
  where
    no_end : (xs : List (List ℕ)) (x : List ℕ) (more : List (List ℕ)) → [] ≡ xs ++ x ∷ more → ⊥
    no_end [] x more e = search (rules, e)
    no_end (y ∷ xs) x more e = search (rules, e)

    of_front : (longer ≡ []) ⊎ IsReadable format longer → ⊥
    of_front (inl none) = no_end good b.bad rest (sym none ∙ are)
    of_front (inr (snapshot, entries, h)) = b.breaks (readable_front format good b.bad rest snapshot entries (subst (λ l. Holds format l snapshot entries) are h))

breaks_once : (format : ℕ) (bodies good good_2 : List (List ℕ)) → BreaksAfter format bodies good → BreaksAfter format bodies good_2 → good ≡ good_2
breaks_once format bodies good good_2 b c = once (begin_both good good_2 b.bad c.bad b.rest c.rest (sym b.are ∙ c.are))
  where
    once : (good ≡ good_2) ⊎ (((rest : List (List ℕ)) × (good_2 ≡ good ++ b.bad ∷ rest)) ⊎ ((rest : List (List ℕ)) × (good ≡ good_2 ++ c.bad ∷ rest))) → good ≡ good_2
    once (inl same) = same
    once (inr (inl (rest, longer))) = absurd (not_after format bodies good good_2 rest b c longer)
    once (inr (inr (rest, longer))) = absurd (not_after format bodies good_2 good rest c b longer)

bad_once : (first second : List ℕ) (side side_2 : Side) (at at_2 : ℕ) → StoreStandsOnce → HasBadContent side at first second → HasBadContent side_2 at_2 first second → (side ≡ side_2) × (at ≡ at_2)
bad_once first second side side_2 at at_2 once one two =
    let same = once side side_2 one.format two.format one.epoch two.epoch one.bodies two.bodies first second one.stands two.stands in
    let breaks = subst (λ l. BreaksAfter two.format l one.good) same.3 (subst (λ f. BreaksAfter f one.bodies one.good) same.1 one.breaks) in
    (same.0, one.place ∙ ap gate_after (breaks_once two.format two.bodies one.good two.good breaks two.breaks) ∙ sym two.place)

pub damage_once : StoreStandsOnce → StoreStandsOrDamaged → StoreDamagedOnce → DamagedOnce
damage_once once or damaged first second side side_2 at at_2 (inl one) (inl two) = damaged side side_2 at at_2 first second one two
damage_once once or damaged first second side side_2 at at_2 (inl one) (inr two) = absurd (or side_2 side two.format two.epoch at two.bodies first second two.stands one)
damage_once once or damaged first second side side_2 at at_2 (inr one) (inl two) = absurd (or side side_2 one.format one.epoch at_2 one.bodies first second one.stands two)
damage_once once or damaged first second side side_2 at at_2 (inr one) (inr two) = bad_once first second side side_2 at at_2 once one two
