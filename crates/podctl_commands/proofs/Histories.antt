-- A follower over frames of one history.
use Rattle.std.proofs.Common.{◌≡◌, inl, inr, ℕ, ◌==◌, if◌then◌else◌, Bool, true, false, List, [], ◌∷◌, ◌++◌, map, Option, Some, None, refl, sym, ap, subst, ◌∙◌, rules}
use Rattle.std.proofs.lemmas.Option.{same_Some}
use Rattle.std.specs.Prelude.{Contains}
use Rattle.stored_forms.specs.StoredForms.{entry_1_bytes, entry_bytes, snapshot_bytes}
use Rattle.pod_command.specs.declared.entry.Entry.{Entry}
use Rattle.pod_command.specs.declared.snapshot.Snapshot.{Snapshot}
use Rattle.pod_core.specs.History.{History, IsHistory, IsPlace, pod_at}
use Rattle.pod_follow.specs.Followed.{IsEntryText, IsStart, Takes}
use Rattle.pod_follow.specs.Prefixes.{AreSent, IsFollowedPrefix, TakesAll, state_at}
use Rattle.pod_follow.specs.declared.follower.Took.{Took}
use Rattle.pod_follow.proofs.Prefix.{follows_prefix}
use Rattle.pod_records.specs.Readings.{IsSnapshotOf}
use Rattle.pod_rows.specs.Pod.{Pod}
use Rattle.pod_rows.specs.State.{NumberedPod}
use Rattle.podctl_commands.specs.Following.{Follows, FollowsAll}
use Rattle.podctl_commands.specs.FollowLaws.{AnswersAtPlace, AreSentSince, FollowsHistory, IsPlaceText, IsSomeRead, numbers_of}
use Rattle.podctl_commands.specs.Reads.{IsReadText}
use Rattle.podctl_commands.proofs.OneFrame.{entry_no_read, passed_entry}

-- ---- a snapshot is no entry and no read

snapshot_by : (snapshot : Snapshot) (old : Bool) (entry : Entry) → snapshot_bytes snapshot ≡ (if old then entry_1_bytes entry else entry_bytes entry) → ⊥
unfolding snapshot_bytes entry_1_bytes entry_bytes
snapshot_by snapshot true entry e = search (rules, e)
snapshot_by snapshot false entry e = search (rules, e)

snapshot_no_entry : (body : List ℕ) (snapshot : Snapshot) (entry : Entry) → IsSnapshotOf body snapshot → IsEntryText body entry → ⊥
snapshot_no_entry body snapshot entry is (format, other) = snapshot_by snapshot (format == 1) entry (sym is.form ∙ other.form)

snapshot_is : (snapshot : Snapshot) (rest : List ℕ) → snapshot_bytes snapshot ≡ 3 ∷ rest → ⊥
unfolding snapshot_bytes
snapshot_is snapshot rest e = search (rules, e)

-- ---- frames before and after others

record Split (old : Option NumberedPod) (xs ys : List (List ℕ)) (new : Option NumberedPod) : Type 0 where
  mid : Option NumberedPod
  later : List ℕ
  after : FollowsAll mid ys later new

split : (xs ys : List (List ℕ)) (old new : Option NumberedPod) (text : List ℕ) → FollowsAll old (xs ++ ys) text new → Split old xs ys new
split [] ys old new text follows = record { mid = old; later = text; after = follows }
split (x ∷ xs) ys old new text (next, first, rest, one, others, is) =
    let s = split xs ys next new rest others in
    record { mid = s.mid; later = s.later; after = s.after }

-- ---- the follower begins with the snapshot of a place

same_state : (a b : NumberedPod) → a.pod ≡ b.pod → a.next ≡ b.next → a ≡ b
same_state a b p n = λ i. record { pod = p i; next = n i }

begins_there : (history : History) (start : ℕ) (body text : List ℕ) (old new : Option NumberedPod) → IsPlaceText history start body → Follows old body text new → new ≡ Some (state_at history start)
begins_there history start body text old new place (inl s) =
    let both = s.is.only place.snapshot place.is in
    s.after ∙ ap Some (same_state s.state (state_at history start) (sym both.0 ∙ place.pod) (sym both.1 ∙ place.number))
begins_there history start body text old new place (inr (inl t)) =
    let e = passed_entry t.state t.next body t.took t.takes t.passed in
    absurd (snapshot_no_entry body place.snapshot e.0 place.is e.1)
begins_there history start body text old new place (inr (inr r)) = absurd (snapshot_is place.snapshot _ (sym place.is.form ∙ r.answers.is.form))

-- ---- and takes entries and reads

abbrev entries_of : List (Option Entry) → List Entry
entries_of [] = []
entries_of (Some entry ∷ sent) = entry ∷ entries_of sent
entries_of (None ∷ sent) = entries_of sent

-- what it took, without the reads
record Since (history : History) (old : NumberedPod) (sent : List (Option Entry)) (new : Option NumberedPod) : Type 0 where
  texts : List (List ℕ)
  are : AreSent history texts (entries_of sent)
  last : NumberedPod
  takes : TakesAll old texts last
  new_is : new ≡ Some last

taken : (body text : List ℕ) (entry : Entry) (old : NumberedPod) (mid : Option NumberedPod) → IsEntryText body entry → Follows (Some old) body text mid → (next : NumberedPod) × (answer : Took) × Takes old body next answer × (mid ≡ Some next)
taken body text entry old mid is (inl s) = absurd (snapshot_no_entry body s.is.snapshot entry s.is.is is)
taken body text entry old mid is (inr (inl t)) =
    let same : t.state ≡ old = sym (same_Some old t.state t.before) in
    (t.next, t.took, subst (λ (s : NumberedPod). Takes s body t.next t.took) same t.takes, t.after)
taken body text entry old mid is (inr (inr r)) = absurd (entry_no_read body _ entry is r.answers.is.form)

answered : (body text : List ℕ) (old : NumberedPod) (mid : Option NumberedPod) → IsSomeRead body → Follows (Some old) body text mid → mid ≡ Some old
answered body text old mid read (inl s) = absurd (snapshot_is s.is.snapshot _ (sym s.is.is.form ∙ read.is.form))
answered body text old mid read (inr (inl t)) =
    let e = passed_entry t.state t.next body t.took t.takes t.passed in
    absurd (entry_no_read body _ e.0 e.1 read.is.form)
answered body text old mid read (inr (inr r)) = r.after

since : (history : History) (bodies : List (List ℕ)) (sent : List (Option Entry)) (old : NumberedPod) (text : List ℕ) (new : Option NumberedPod) → AreSentSince history bodies sent → FollowsAll (Some old) bodies text new → Since history old sent new
since history [] [] old text new are (none, same) = record { texts = []; are = tt; last = old; takes = refl; new_is = same }
since history [] (one ∷ sent) old text new are follows = absurd are
since history (body ∷ bodies) [] old text new are follows = absurd are
since history (body ∷ bodies) (Some entry ∷ sent) old text new (is, among, are) (mid, first, rest, one, others, e) =
    let next = taken body first entry old mid is one in
    let s = since history bodies sent next.0 rest new are (subst (λ (m : Option NumberedPod). FollowsAll m bodies rest new) next.3 others) in
    record {
      texts = body ∷ s.texts;
      are = (is, among, s.are);
      last = s.last;
      takes = (next.0, next.1, next.2, s.takes);
      new_is = s.new_is;
    }
since history (body ∷ bodies) (None ∷ sent) old text new (read, are) (mid, first, rest, one, others, e) =
    let same = answered body first old mid read one in
    let s = since history bodies sent old rest new are (subst (λ (m : Option NumberedPod). FollowsAll m bodies rest new) same others) in
    record { texts = s.texts; are = s.are; last = s.last; takes = s.takes; new_is = s.new_is }

numbers_are : (sent : List (Option Entry)) → map (λ (entry : Entry). entry.seq) (entries_of sent) ≡ numbers_of sent
numbers_are [] = refl
numbers_are (Some entry ∷ sent) = ap (λ (ns : List ℕ). entry.seq ∷ ns) (numbers_are sent)
numbers_are (None ∷ sent) = numbers_are sent

pub follows_history : FollowsHistory
follows_history history start body front back sent text state is place are follows =
    let s = split front (body ∷ back) None state text follows in
    let begun = begins_there history start body s.after.1 s.mid s.after.0 place s.after.3 in
    let took = since history back sent (state_at history start) s.after.2 state are (subst (λ (m : Option NumberedPod). FollowsAll m back s.after.2 state) begun s.after.4) in
    let comes = follows_prefix history start took.texts (entries_of sent) took.last is place.there took.are took.takes in
    (comes.0, subst (λ (ns : List ℕ). IsFollowedPrefix start ns comes.0) (numbers_are sent) comes.1, comes.2, took.new_is ∙ ap Some comes.3)

-- ---- and answers the next read there

answered_at : (at : NumberedPod) (state : Option NumberedPod) (read answer : List ℕ) (after : Option NumberedPod) → state ≡ Some at → IsSomeRead read → Follows state read answer after → IsReadText at read answer
answered_at at state read answer after same some (inl s) = absurd (snapshot_is s.is.snapshot _ (sym s.is.is.form ∙ some.is.form))
answered_at at state read answer after same some (inr (inl t)) =
    let e = passed_entry t.state t.next read t.took t.takes t.passed in
    absurd (entry_no_read read _ e.0 e.1 some.is.form)
answered_at at state read answer after same some (inr (inr r)) =
    let there : r.state ≡ at = same_Some r.state at (sym r.before ∙ same) in
    subst (λ (s : NumberedPod). IsReadText s read answer) there r.answers

pub answers_at_place : AnswersAtPlace
answers_at_place history start body front back sent text state read answer after is place are follows some one =
    let comes = follows_history history start body front back sent text state is place are follows in
    (comes.0, comes.1, comes.2, answered_at (state_at history comes.0) state read answer after comes.3 some one)
