-- Well-formed snapshots have texts.
use Rattle.std.proofs.Common.{◌≡◌, true, false, ℕ, List, [], ◌∷◌, Option, Some, None, IfSome, Result, Ok, Err, IfOk, refl, sym, ◌∙◌, ap}
use Rattle.std.specs.List.{AllByRecursion, list_all}
use Rattle.std.proofs.lemmas.Bool.{and_parts, false≢true}
use Rattle.pod_command.specs.Bare.{bare_snapshot}
use Rattle.pod_command.specs.Encodable.{FitsKind, HasFittingContent, IsEncodableSnapshot}
use Rattle.stored_forms.specs.Storable.{IsStorableSnapshot}
use Rattle.stored_forms.specs.StoredForms.{snapshot_bytes}
use Rattle.pod_command.specs.declared.row.Content.{Content}
use Rattle.pod_command.specs.declared.row.Content.TheVariants as contents
use Rattle.pod_command.specs.declared.row.Kind.{Kind}
use Rattle.pod_command.specs.declared.row.Kind.TheVariants as kinds
use Rattle.pod_command.specs.declared.row.Row.{Row}
use Rattle.pod_command.specs.declared.snapshot.Snapshot.{Snapshot}
use Rattle.pod_path.specs.Hierarchy.{is_container, is_acl, is_meta}
use Rattle.pod_rows.specs.WellFormed.{IsWellFormedSnapshot, fits_kind, has_right_kind, is_document, pod_of}
use Rattle.pod_pages.specs.State.{VersionState, first_state}
use Rattle.pod_records.specs.Readings.{IsSnapshotRead}
use Rattle.pod_records.specs.Records.{IsSnapshotText}

fits_content : (path : List ℕ) (kind : Kind) (content : Content) → fits_kind path kind content ≡ true → FitsKind kind content
fits_content path kinds.Container (contents.Graph triples) e = tt
fits_content path kinds.Container (contents.Bytes ctype bytes) e = false≢true (and_parts (is_container path) false e).1
fits_content path kinds.Graph (contents.Graph triples) e = tt
fits_content path kinds.Graph (contents.Bytes ctype bytes) e = false≢true (and_parts (is_document path) false e).1
fits_content path kinds.Acl (contents.Graph triples) e = tt
fits_content path kinds.Acl (contents.Bytes ctype bytes) e = false≢true (and_parts (is_acl path) false e).1
fits_content path kinds.Bytes (contents.Graph triples) e = false≢true (and_parts (is_document path) false e).1
fits_content path kinds.Bytes (contents.Bytes ctype bytes) e = tt
fits_content path kinds.Meta (contents.Graph triples) e = tt
fits_content path kinds.Meta (contents.Bytes ctype bytes) e = false≢true (and_parts (is_meta path) false e).1

all_fit : (rows : List Row) → list_all has_right_kind rows ≡ true → AllByRecursion HasFittingContent rows
all_fit [] e = tt
all_fit (row ∷ rows) e =
    let parts = and_parts (has_right_kind row) (list_all has_right_kind rows) e in
    (fits_content row.path row.kind row.content parts.0, all_fit rows parts.1)

pub encodable : (snapshot : Snapshot) → IsWellFormedSnapshot snapshot → IsEncodableSnapshot snapshot
encodable snapshot h = record { rows = all_fit snapshot.rows.items h.pod.kinds; order = h.pod.order }

pub text_of : (snapshot : Snapshot) (text : List ℕ) → IsWellFormedSnapshot snapshot → IsStorableSnapshot snapshot → text ≡ snapshot_bytes snapshot → IsSnapshotText (pod_of snapshot) snapshot.seq text
text_of snapshot text h stored is = record {
  snapshot = snapshot;
  pod_is = refl;
  number = refl;
  holds = record { texts = ap (λ t. t ∷ []) is; stored = stored; well_formed = h; all_stored = tt; apply = tt };
}

-- the version of a decoded snapshot
module _ (text : List ℕ) (snapshot : Snapshot) (form : text ≡ snapshot_bytes snapshot) (stored : IsStorableSnapshot snapshot) (only : (s : Snapshot) → IsStorableSnapshot s → text ≡ snapshot_bytes s → snapshot ≡ bare_snapshot s) where
  pub version_read : {E : Type 0} (r : Result (Option VersionState) E) → IfOk r (λ found. IfSome found (λ version. version ≡ first_state snapshot)) → IfOk r (λ found. IfSome found (λ _. IsWellFormedSnapshot snapshot))
      → IfOk r (λ found. IfSome found (λ version. IsSnapshotRead text version))
  version_read (Err e) v w = tt
  version_read (Ok None) v w = tt
  version_read (Ok (Some version)) v w = record {
    snapshot = snapshot;
    is = record { form = form; stored = stored; well_formed = w };
    version_is = v;
    only = λ other is.
        let same = only other is.stored is.form in (
          ap pod_of (sym same) ∙ sym (ap (λ (v : VersionState). v.pod) v),
          ap (λ (s : Snapshot). s.seq) (sym same) ∙ sym (ap (λ (v : VersionState). v.next) v),
        );
  }
