-- What can be made of one frame.
use Rattle.std.proofs.Common.{◌≡◌, inl, inr, ℕ, ◌==◌, if◌then◌else◌, Bool, true, false, List, ◌∷◌, Option, Some, None, Result, Ok, Err, IfOk, IfSome, refl, sym, ap, subst, ◌∙◌, rules, arith}
use Rattle.std.proofs.lemmas.Option.{same_Some}
use Rattle.stored_forms.specs.StoredForms.{entry_1_bytes, entry_bytes}
use Rattle.pod_command.specs.declared.entry.Entry.{Entry}
use Rattle.pod_command.specs.declared.snapshot.Snapshot.{Snapshot}
use Rattle.pod_follow.specs.Followed.{IsEntryText, IsTheEntry, Takes}
use Rattle.pod_follow.specs.declared.follower.Took.{Took}
use Rattle.pod_follow.specs.declared.follower.Took.TheVariants as took
use Rattle.pod_records.proofs.ReadSteps.{applies_alike}
use Rattle.pod_records.specs.Readings.{IsSnapshotOf}
use Rattle.pod_rows.specs.Apply.{Applies}
use Rattle.pod_rows.specs.State.{NumberedPod}
use Rattle.podctl_commands.specs.Following.{Follows, IsPassedEntry, IsRefused}
use Rattle.podctl_commands.specs.Reads.{IsReadText}
use Rattle.podctl_commands.specs.Steps.{ReadsOn}

-- ---- entries

-- an entry is no read
entry_by : (old : Bool) (entry : Entry) (rest : List ℕ) → (if old then entry_1_bytes entry else entry_bytes entry) ≡ 3 ∷ rest → ⊥
unfolding entry_1_bytes entry_bytes
entry_by true entry rest e = search (rules, e)
entry_by false entry rest e = search (rules, e)

pub entry_no_read : (body rest : List ℕ) (entry : Entry) → IsEntryText body entry → body ≡ 3 ∷ rest → ⊥
entry_no_read body rest entry (format, is) read = entry_by (format == 1) entry rest (sym is.form ∙ read)

-- an entry that was taken is one
pub passed_entry : (old new : NumberedPod) (body : List ℕ) (answer : Took) → Takes old body new answer → IsPassedEntry answer → (entry : Entry) × IsEntryText body entry
passed_entry old new body took.Applied (entry, the, takes) passed = (entry, the.is)
passed_entry old new body (took.Old seq next) (entry, the, takes) passed = (entry, the.is)
passed_entry old new body (took.Ahead seq next) (entry, the, takes) passed = (entry, the.is)
passed_entry old new body (took.Unfit seq) takes passed = absurd passed
passed_entry old new body took.NotEntry takes passed = absurd passed

-- one that is the next and doesn't apply isn't passed
unfit_passed : (old new : NumberedPod) (body : List ℕ) (entry : Entry) → IsTheEntry body entry → entry.seq ≡ old.next → (Applies old.pod old.next entry → ⊥) → (answer : Took) → Takes old body new answer → IsPassedEntry answer → ⊥
unfit_passed old new body entry the number unfit took.Applied (other, their, (applies, after)) passed =
    unfit (applies_alike old.pod old.next entry other (the.only other their.is) applies)
unfit_passed old new body entry the number unfit (took.Old seq next) (other, their, (a, b, less, same)) passed =
    let n = (the.only other their.is).0 in
    omega (arith, a, b, less, n, number)
unfit_passed old new body entry the number unfit (took.Ahead seq next) (other, their, (a, b, less, same)) passed =
    let n = (the.only other their.is).0 in
    omega (arith, a, b, less, n, number)
unfit_passed old new body entry the number unfit (took.Unfit seq) takes passed = absurd passed
unfit_passed old new body entry the number unfit took.NotEntry takes passed = absurd passed

pub unfit_refused : (old new : NumberedPod) (body : List ℕ) (seq : ℕ) → Takes old body new (took.Unfit seq) → (text : List ℕ) (after : NumberedPod) → ReadsOn old body text after → ⊥
unfit_refused old new body seq (entry, the, (a, b, unfit, same)) text after (inl t) = unfit_passed old after body entry the (sym a ∙ b) unfit t.took t.takes t.passed
unfit_refused old new body seq (entry, the, (a, b, unfit, same)) text after (inr r) = entry_no_read body _ entry the.is r.answers.is.form

-- ---- what is no entry

pub read_answered : (old mid : NumberedPod) (body text : List ℕ) → Takes old body mid took.NotEntry → IsReadText mid body text → ReadsOn old body text mid
read_answered old mid body text (none, same) answers = inr (record { answers = subst (λ (s : NumberedPod). IsReadText s body text) same answers; after = same })

pub other_refused : (old mid : NumberedPod) (body : List ℕ) → Takes old body mid took.NotEntry → ((state : NumberedPod) (text : List ℕ) → IsReadText state body text → ⊥) → (text : List ℕ) (after : NumberedPod) → ReadsOn old body text after → ⊥
other_refused old mid body (none, same) no_read text after (inl t) = let e = passed_entry old after body t.took t.takes t.passed in none e.0 e.1
other_refused old mid body (none, same) no_read text after (inr r) = no_read old text r.answers

-- what holds of what was found, as something that follows from it
pub within : {X E : Type 0} {P Q : X → Type 0} (result : Result (Option X) E) → ((x : X) → P x → Q x) → IfOk result (λ found. IfSome found P) → IfOk result (λ found. IfSome found Q)
within (Ok (Some x)) follows is = follows x is
within (Ok None) follows is = tt
within (Err e) follows is = tt

-- ---- frames

pub follows_on : (old new : NumberedPod) (body text : List ℕ) → ReadsOn old body text new → Follows (Some old) body text (Some new)
follows_on old new body text (inl t) = inr (inl (record {
  state = old;
  next = new;
  took = t.took;
  before = refl;
  takes = t.takes;
  passed = t.passed;
  after = refl;
  silent = t.silent;
}))
follows_on old new body text (inr r) = inr (inr (record { state = old; before = refl; answers = r.answers; after = ap Some r.after }))

module _ (body : List ℕ) (no_snapshot : (snapshot : Snapshot) → IsSnapshotOf body snapshot → ⊥) where
  pub refused_first : IsRefused None body
  refused_first text after (inl s) = no_snapshot s.is.snapshot s.is.is
  refused_first text after (inr (inl t)) = let never = t.before in cc
  refused_first text after (inr (inr r)) = let never = r.before in cc

  pub refused_on : (old : NumberedPod) → ((text : List ℕ) (after : NumberedPod) → ReadsOn old body text after → ⊥) → IsRefused (Some old) body
  refused_on old none text after (inl s) = no_snapshot s.is.snapshot s.is.is
  refused_on old none text after (inr (inl t)) =
      let same : t.state ≡ old = sym (same_Some old t.state t.before) in
      none text t.next (inl (record { took = t.took; takes = subst (λ (s : NumberedPod). Takes s body t.next t.took) same t.takes; passed = t.passed; silent = t.silent }))
  refused_on old none text after (inr (inr r)) =
      let same : r.state ≡ old = sym (same_Some old r.state r.before) in
      none text old (inr (record { answers = subst (λ (s : NumberedPod). IsReadText s body text) same r.answers; after = refl }))
