-- Whole entries and snapshots are read by their forms.
use Rattle.std.proofs.Common.{◌≡◌, ℕ, List, [], ◌∷◌, ◌++◌, Option, Some, Result, Ok, Err, refl, sym, ap, ◌∙◌, arith}
use Rattle.std.specs.Prelude.{IfOk, IsErrOf}
use Rattle.pod_command.specs.Bare.{bare_entry, without_bases, bare_snapshot}
use Rattle.pod_command.specs.Encodable.{IsEncodable, IsEncodableSnapshot, HasFittingContent, IsFittingEdit}
use Rattle.stored_forms.specs.Readers.{Gives, tagged, after_tag, no_tag}
use Rattle.stored_forms.specs.Reading.{entry_of_1, entry_of_2, old_entry_at, new_entry_at, entry_1_in, entry_in, snapshot_of, snapshot_at, snapshot_in}
use Rattle.stored_forms.specs.Storable.{IsListOf, IsStorable, IsStorableBasis, IsStorableEdit, IsStorableRow, IsStorableSnapshot}
use Rattle.stored_forms.specs.StoredForms.{origin_bytes, request_bytes, entry_1_bytes, entry_bytes, snapshot_bytes}
use Rattle.std.specs.List.{AllByRecursion}
use Rattle.pod_command.specs.declared.edit.Edit.{Edit}
use Rattle.pod_command.specs.declared.edit.Edit.TheVariants as edits
use Rattle.pod_command.specs.declared.entry.Entry.{Entry}
use Rattle.stored_forms.specs.declared.read_back.ReadBack.{ReadBack}
use Rattle.stored_forms.specs.declared.read_back.ReadBack.TheVariants as faults
use Rattle.pod_command.specs.declared.row.Row.{Row}
use Rattle.pod_command.specs.declared.snapshot.Snapshot.{Snapshot}
use Rattle.stored_forms.proofs.ReadLaws.{IsBytes, Reads, AfterTags, both_reads, mapped_again, tag_case, no_tags, tagged_reads, list_reads, number_reads, whole_takes, whole_again}
use Rattle.stored_forms.proofs.Forms.{text_reads, iri_reads, edit_reads, basis_reads, rows_reads, origin_reads, request_reads}

-- ---- format 2

abbrev Is2 : Entry → Type 0
Is2 e = IsStorable e × (bare_entry e ≡ e)

entry_tags : AfterTags Is2 entry_bytes (after_tag 2 new_entry_at no_tag)
unfolding new_entry_at entry_bytes origin_bytes request_bytes
entry_tags =
    tag_case 2 entry_of_2 (λ _. refl)
    (λ p is. (
      record {
        seq = is.0.0;
        conn = is.0.1.0;
        number = is.0.1.1.0;
        agent = is.0.1.1.1;
        moment = is.1.0.0;
        method = is.1.0.1.0;
        path = is.1.0.1.1;
        edits = is.1.1.0;
        bases = is.1.1.1;
      },
      refl,
    ))
    (both_reads origin_reads (both_reads request_reads (both_reads (list_reads edit_reads) (list_reads basis_reads))))
    (no_tags Is2 entry_bytes)

entry_again : (e : Entry) (rest : List ℕ) → Is2 e → tagged (after_tag 2 new_entry_at no_tag) (entry_bytes e ++ rest) ≡ Some (e, rest)
unfolding new_entry_at entry_bytes origin_bytes request_bytes
entry_again e rest is =
    let s = is.0 in
    mapped_again entry_of_2 (both_reads origin_reads (both_reads request_reads (both_reads (list_reads edit_reads) (list_reads basis_reads))))
    ((e.seq, (e.conn, (e.number, e.agent))), ((e.moment.0, (e.method, e.path)), (e.edits.items, e.bases.items))) rest
    ((s.seq, (s.conn, (s.number, s.agent))), ((s.moment, (s.method, s.path)), (s.edits, s.bases)))
    ∙ ap (λ (x : Entry). Some (x, rest)) is.1

entry_reads : Reads Is2 entry_bytes (tagged (after_tag 2 new_entry_at no_tag))
entry_reads = tagged_reads entry_tags entry_again

bare_is : (e : Entry) → IsStorable e → IsStorable (bare_entry e)
bare_is e s = record { seq = s.seq; conn = s.conn; number = s.number; agent = s.agent; moment = s.moment; method = s.method; path = s.path; edits = s.edits; bases = s.bases }

bare_form : (e : Entry) → entry_bytes (bare_entry e) ≡ entry_bytes e
unfolding entry_bytes origin_bytes request_bytes
bare_form e = refl

pub entry_taken : (bytes : List ℕ) (e : Entry) → IsBytes bytes → entry_in bytes ≡ Some e → (bytes ≡ entry_bytes e) × IsStorable e
unfolding entry_in
entry_taken bytes e fits found = let t = whole_takes entry_reads bytes e fits found in (t.0, t.1.0)

pub entry_found : (bytes : List ℕ) (e : Entry) → IsStorable e → bytes ≡ entry_bytes e → entry_in bytes ≡ Some (bare_entry e)
unfolding entry_in
entry_found bytes e s is = ap entry_in (is ∙ sym (bare_form e)) ∙ whole_again entry_reads (bare_entry e) (bare_is e s, refl)

-- ---- format 1

no_bases : IsListOf IsStorableBasis []
no_bases = (omega arith, tt)

abbrev Is1 : Entry → Type 0
Is1 e = IsStorable e × (without_bases e ≡ e)

old_tags : AfterTags Is1 entry_1_bytes (after_tag 1 old_entry_at no_tag)
unfolding old_entry_at entry_1_bytes origin_bytes request_bytes
old_tags =
    tag_case 1 entry_of_1 (λ _. refl)
    (λ p is. (
      record {
        seq = is.0.0;
        conn = is.0.1.0;
        number = is.0.1.1.0;
        agent = is.0.1.1.1;
        moment = is.1.0.0;
        method = is.1.0.1.0;
        path = is.1.0.1.1;
        edits = is.1.1;
        bases = no_bases;
      },
      refl,
    ))
    (both_reads origin_reads (both_reads request_reads (list_reads edit_reads)))
    (no_tags Is1 entry_1_bytes)

old_again : (e : Entry) (rest : List ℕ) → Is1 e → tagged (after_tag 1 old_entry_at no_tag) (entry_1_bytes e ++ rest) ≡ Some (e, rest)
unfolding old_entry_at entry_1_bytes origin_bytes request_bytes
old_again e rest is =
    let s = is.0 in
    mapped_again entry_of_1 (both_reads origin_reads (both_reads request_reads (list_reads edit_reads)))
    ((e.seq, (e.conn, (e.number, e.agent))), ((e.moment.0, (e.method, e.path)), e.edits.items)) rest
    ((s.seq, (s.conn, (s.number, s.agent))), ((s.moment, (s.method, s.path)), s.edits))
    ∙ ap (λ (x : Entry). Some (x, rest)) is.1

old_reads : Reads Is1 entry_1_bytes (tagged (after_tag 1 old_entry_at no_tag))
old_reads = tagged_reads old_tags old_again

old_is : (e : Entry) → IsStorable e → IsStorable (without_bases e)
old_is e s = record { seq = s.seq; conn = s.conn; number = s.number; agent = s.agent; moment = s.moment; method = s.method; path = s.path; edits = s.edits; bases = no_bases }

old_form : (e : Entry) → entry_1_bytes (without_bases e) ≡ entry_1_bytes e
unfolding entry_1_bytes origin_bytes request_bytes
old_form e = refl

pub old_taken : (bytes : List ℕ) (e : Entry) → IsBytes bytes → entry_1_in bytes ≡ Some e → (bytes ≡ entry_1_bytes e) × IsStorable e × (e.bases.items ≡ [])
unfolding entry_1_in
old_taken bytes e fits found =
    let t = whole_takes old_reads bytes e fits found in
    (t.0, t.1.0, sym (ap (λ (x : Entry). x.bases.items) t.1.1))

pub old_found : (bytes : List ℕ) (e : Entry) → IsStorable e → bytes ≡ entry_1_bytes e → entry_1_in bytes ≡ Some (without_bases e)
unfolding entry_1_in
old_found bytes e s is = ap entry_1_in (is ∙ sym (old_form e)) ∙ whole_again old_reads (without_bases e) (old_is e s, refl)

-- ---- snapshots

abbrev Is0 : Snapshot → Type 0
Is0 s = IsStorableSnapshot s × (bare_snapshot s ≡ s)

snapshot_tags : AfterTags Is0 snapshot_bytes (after_tag 0 snapshot_at no_tag)
unfolding snapshot_at snapshot_bytes
snapshot_tags =
    tag_case 0 snapshot_of (λ _. refl)
    (λ p is. (record { seq = is.0; base = is.1.0; owner = is.1.1.0; rows = is.1.1.1.0; order = is.1.1.1.1 }, refl))
    (both_reads number_reads (both_reads iri_reads (both_reads text_reads rows_reads)))
    (no_tags Is0 snapshot_bytes)

snapshot_again : (s : Snapshot) (rest : List ℕ) → Is0 s → tagged (after_tag 0 snapshot_at no_tag) (snapshot_bytes s ++ rest) ≡ Some (s, rest)
unfolding snapshot_at snapshot_bytes
snapshot_again s rest is =
    let i = is.0 in
    mapped_again snapshot_of (both_reads number_reads (both_reads iri_reads (both_reads text_reads rows_reads)))
    (s.seq, (s.base, (s.owner, s.rows.items))) rest (i.seq, (i.base, (i.owner, (i.rows, i.order))))
    ∙ ap (λ (x : Snapshot). Some (x, rest)) is.1

snapshot_reads : Reads Is0 snapshot_bytes (tagged (after_tag 0 snapshot_at no_tag))
snapshot_reads = tagged_reads snapshot_tags snapshot_again

bare_snapshot_is : (s : Snapshot) → IsStorableSnapshot s → IsStorableSnapshot (bare_snapshot s)
bare_snapshot_is s i = record { seq = i.seq; base = i.base; owner = i.owner; rows = i.rows; order = i.order }

bare_snapshot_form : (s : Snapshot) → snapshot_bytes (bare_snapshot s) ≡ snapshot_bytes s
unfolding snapshot_bytes
bare_snapshot_form s = refl

pub snapshot_taken : (bytes : List ℕ) (s : Snapshot) → IsBytes bytes → snapshot_in bytes ≡ Some s → (bytes ≡ snapshot_bytes s) × IsStorableSnapshot s
unfolding snapshot_in
snapshot_taken bytes s fits found = let t = whole_takes snapshot_reads bytes s fits found in (t.0, t.1.0)

pub snapshot_found : (bytes : List ℕ) (s : Snapshot) → IsStorableSnapshot s → bytes ≡ snapshot_bytes s → snapshot_in bytes ≡ Some (bare_snapshot s)
unfolding snapshot_in
snapshot_found bytes s i is = ap snapshot_in (is ∙ sym (bare_snapshot_form s)) ∙ whole_again snapshot_reads (bare_snapshot s) (bare_snapshot_is s i, refl)

-- ---- what is storable can be encoded

edit_fits : (es : List Edit) → AllByRecursion IsStorableEdit es → AllByRecursion IsFittingEdit es
edit_fits [] h = tt
edit_fits (edits.Put row ∷ es) h = (h.0.fits, edit_fits es h.1)
edit_fits (edits.Change path change modified ∷ es) h = (tt, edit_fits es h.1)
edit_fits (edits.Touch path modified ∷ es) h = (tt, edit_fits es h.1)
edit_fits (edits.Remove path ∷ es) h = (tt, edit_fits es h.1)

pub encodable : (e : Entry) → IsStorable e → IsEncodable e
encodable e s = record { method = s.method; edits = edit_fits e.edits.items s.edits.1 }

row_fits : (rows : List Row) → AllByRecursion IsStorableRow rows → AllByRecursion HasFittingContent rows
row_fits [] h = tt
row_fits (r ∷ rows) h = (h.0.fits, row_fits rows h.1)

pub encodable_snapshot : (s : Snapshot) → IsStorableSnapshot s → IsEncodableSnapshot s
encodable_snapshot s i = record { rows = row_fits s.rows.items i.rows.1; order = i.order }

-- ---- what a function returned that gives what reading gives

pub if_given : {A : Type 0} (r : Result A ReadBack) (read : Option A) (P : A → Type 0) → Gives (λ x. x) r read → ((x : A) → read ≡ Some x → P x) → IfOk r P
if_given (Ok x) read P given f = f x given
if_given (Err e) read P given f = tt

pub not_given : {A : Type 0} (r : Result A ReadBack) (read : Option A) (x : A) → Gives (λ x. x) r read → IsErrOf r faults.NotCanonical → read ≡ Some x → ⊥
not_given (Ok y) read x given refused found = absurd cc
not_given (Err faults.NotCanonical) read x given refused found = absurd cc
not_given (Err faults.NoMemory) read x given refused found = absurd cc
