-- Where nothing is in the way of a change, its entry applies.
use Rattle.std.proofs.Common.{◌≡◌, ℕ, Bool, true, false, true≢false, not, cond, ◌&&◌, List, Option, Some, None, refl, sym, ap, subst, ◌∙◌, codes}
use Rattle.std.proofs.lemmas.Bool.{or_parts}
use Rattle.pod_base.specs.declared.moment.Moment.{Moment}
use Rattle.pod_command.specs.declared.entry.Entry.{Entry}
use Rattle.pod_command.specs.declared.row.Row.{Row}
use Rattle.pod_edits.specs.Allowed.{HasNumber, IsFitting, CanCreate, CanAdd, CanReplace, CanChange, triples_of}
use Rattle.pod_edits.specs.Edits.{change_edits, creation_edits, deletion_edits, put_edits, removal_edits}
use Rattle.pod_edits.specs.Refusals.{added_rows, breaks_guard, exceeds_rows, has_children, is_bytes, is_root_list, lacks_number, lacks_subject, meets_twin}
use Rattle.pod_edits.proofs.Built.{creates, entry_applies, member_added}
use Rattle.pod_edits.proofs.FoundRows.{found_row}
use Rattle.pod_edits.proofs.Places.{member_twin}
use Rattle.pod_edits.proofs.Removed.{adds, changes, deletes, replaces, takes_away}
use Rattle.pod_edits.proofs.Trees.{path_of_norm}
use Rattle.pod_path.specs.Hierarchy.{is_auxiliary, is_container, is_root, twin_of}
use Rattle.pod_rows.specs.Apply.{Applies}
use Rattle.pod_rows.specs.GraphSets.{changed_graph}
use Rattle.pod_rows.specs.Pod.{Pod, is_row, is_row_of, row_at}
use Rattle.pod_rows.specs.WellFormed.{WellFormed}
use Rattle.pod_reply.specs.DeleteReplies.{delete_edits}
use Rattle.pod_reply.specs.Obstacles.{conflict, new_path_refusal, no_room, refuse_if}
use Rattle.pod_reply.specs.PatchReplies.{is_bytes_row, patched_triples, triples_after}
use Rattle.pod_reply.specs.PutReplies.{making_edits, place_refusal}
use Rattle.rdf_graph.specs.declared.change.Change.{Change}
use Rattle.slug_naming.specs.Names.{is_free, is_some_row}
use Rattle.reply_laws.proofs.Contents.{IsRightChange, states_none}
use Rattle.reply_laws.proofs.ReplyKinds.{none_first, none_if}
use Rattle.reply_laws.proofs.Members.{IsMember}

-- ---- what no refusal says

pub record HasRoom (pod : Pod) (seq added : ℕ) : Type 0 where
  pub rows : exceeds_rows pod.rows added ≡ false
  pub number : lacks_number seq ≡ false

pub has_room : (pod : Pod) (seq added : ℕ) → no_room pod seq added ≡ None → HasRoom pod seq added
has_room pod seq added e =
    let parts = or_parts (exceeds_rows pod.rows added) (lacks_number seq) (none_if _ _ e) in
    record { rows = parts.0; number = parts.1 }

record IsOpenPlace (pod : Pod) (seq : ℕ) (path : List ℕ) : Type 0 where
  twin : meets_twin pod.rows path ≡ false
  subject : lacks_subject pod.rows path ≡ false
  room : HasRoom pod seq (added_rows pod.rows path)

open_place : (pod : Pod) (seq : ℕ) (path : List ℕ) → new_path_refusal pod seq path ≡ None → IsOpenPlace pod seq path
unfolding new_path_refusal
open_place pod seq path e =
    let first = none_first (refuse_if (meets_twin pod.rows path) (conflict (codes "twin"))) _ e in
    let second = none_first (refuse_if (lacks_subject pod.rows path) (conflict (codes "subject"))) _ first.1 in
    record {
      twin = none_if _ _ first.0;
      subject = none_if _ _ second.0;
      room = has_room pod seq (added_rows pod.rows path) second.1;
    }

-- ---- a row is made, or replaced

module _ (pod : Pod) (seq : ℕ) (w : WellFormed pod) (entry : Entry) (numbered : entry.seq ≡ seq) where
  has_number : lacks_number seq ≡ false → HasNumber seq entry
  has_number e = record { seq = numbered; number = e }

  by_adding : (row : Row) → CanAdd pod row → lacks_number seq ≡ false → entry.edits.items ≡ put_edits row → Applies pod seq entry
  by_adding row can number e = (let k = adds pod row w can in entry_applies pod seq entry (put_edits row) k.rows (has_number number) e k.leads)

  by_replacing : (row : Row) → CanReplace pod row → lacks_number seq ≡ false → entry.edits.items ≡ put_edits row → Applies pod seq entry
  by_replacing row can number e = (let k = replaces pod row w can in entry_applies pod seq entry (put_edits row) k.rows (has_number number) e k.leads)

  pub by_creating : (row : Row) → CanCreate pod row → lacks_number seq ≡ false → entry.edits.items ≡ creation_edits pod.rows row → Applies pod seq entry
  by_creating row can number e = (let k = creates pod row w can in entry_applies pod seq entry (creation_edits pod.rows row) k.rows (has_number number) e k.leads)

  new_row : (row : Row) (auxiliary : Bool) → is_auxiliary row.path ≡ auxiliary → IsFitting row → is_row pod.rows row.path ≡ false → IsOpenPlace pod seq row.path
      → entry.edits.items ≡ cond auxiliary (put_edits row) (creation_edits pod.rows row) → Applies pod seq entry
  new_row row true aux fitting absent place e =
      by_adding row (record { fitting = fitting; auxiliary = aux; absent = absent; subject = place.subject; room = place.room.rows }) place.room.number e
  new_row row false aux fitting absent place e =
      by_creating row (record { fitting = fitting; plain = aux; absent = absent; twin = place.twin; room = place.room.rows }) place.room.number e

  -- a PUT of any path, and a PATCH of a new one
  pub by_making : (row : Row) (exists : Bool) → is_row pod.rows row.path ≡ exists → IsFitting row → (exists ≡ true → breaks_guard pod row.path (triples_of row) ≡ false)
      → place_refusal pod seq row.path exists ≡ None → entry.edits.items ≡ making_edits pod row exists → Applies pod seq entry
  by_making row true is fitting guard none e =
      by_replacing row (record { fitting = fitting; present = is; guard = guard refl }) (has_room pod seq 0 none).number e
  by_making row false is fitting guard none e =
      new_row row (is_auxiliary row.path) refl fitting is (open_place pod seq row.path none) e

  -- ---- a row is changed

  pub by_changing : (path : List ℕ) (change : Change) (modified : Moment) → is_row pod.rows path ≡ true → is_bytes_row (row_at pod.rows path) ≡ false
      → IsRightChange (is_container path) (patched_triples (row_at pod.rows path)) change
      → breaks_guard pod path (triples_after (patched_triples (row_at pod.rows path)) change) ≡ false
      → lacks_number seq ≡ false → entry.edits.items ≡ change_edits path change modified → Applies pod seq entry
  by_changing path change modified is graph right guard number e =
      (let found = found_row pod.rows path is in
      let row = found.0 in
      let here : row_at pod.rows path ≡ Some row = found.1 in
      let graph_here : is_bytes row.kind ≡ false = subst (λ (o : Option Row). is_bytes_row o ≡ false) here graph in
      let right_here : IsRightChange (is_container path) (triples_of row) change = subst (λ (o : Option Row). IsRightChange (is_container path) (patched_triples o) change) here right in
      let guard_here : breaks_guard pod path (changed_graph (triples_of row) change.removed change.added) ≡ false =
      subst (λ (o : Option Row). breaks_guard pod path (triples_after (patched_triples o) change) ≡ false) here guard in
      let can : CanChange pod path change row = record {
        found = here;
        graph = graph_here;
        removed = right_here.removed;
        containment = states_none path change.added right_here.lacks;
        guard = guard_here;
      } in
      let k = changes pod path change modified row w can in
      entry_applies pod seq entry (change_edits path change modified) k.rows (has_number number) e k.leads)

  -- ---- a row is removed

  pub by_removing : (path : List ℕ) (modified : Moment) → is_row pod.rows path ≡ true → is_root path ≡ false → is_root_list path ≡ false
      → has_children pod.rows path ≡ false → lacks_number seq ≡ false → entry.edits.items ≡ delete_edits pod path modified → Applies pod seq entry
  by_removing path modified is root list children number e = by_test (is_auxiliary path) refl e
    where
      by_test : (b : Bool) → is_auxiliary path ≡ b → entry.edits.items ≡ cond b (removal_edits path) (deletion_edits pod.rows path modified) → Applies pod seq entry
      by_test true aux h =
          (let k = takes_away pod path w (record { auxiliary = aux; present = is; list = list }) in
          entry_applies pod seq entry (removal_edits path) k.rows (has_number number) h k.leads)
      by_test false aux h =
          (let k = deletes pod path modified w (record { plain = aux; present = is; root = root; children = children }) in
          entry_applies pod seq entry (deletion_edits pod.rows path modified) k.rows (has_number number) h k.leads)

  -- ---- a member is made

  free_parts : (path : List ℕ) → is_free (is_row pod.rows) path ≡ true → (is_row pod.rows path ≡ false) × (is_some_row (is_row pod.rows) (twin_of path) ≡ false)
  free_parts path h = by_tests (is_row pod.rows path) (is_some_row (is_row pod.rows) (twin_of path)) h
    where
      by_tests : (a b : Bool) → (not a && not b) ≡ true → (a ≡ false) × (b ≡ false)
      by_tests true b k = absurd (true≢false (sym k))
      by_tests false true k = absurd (true≢false (sym k))
      by_tests false false k = (refl, refl)

  row_of_same : (o : Option (List ℕ)) → is_row_of pod.rows o ≡ is_some_row (is_row pod.rows) o
  row_of_same None = refl
  row_of_same (Some path) = refl

  pub by_posting : (container : List ℕ) (folder : Bool) (row : Row) → is_row pod.rows container ≡ true → IsMember container folder row.path
      → IsFitting row → is_free (is_row pod.rows) row.path ≡ true → HasRoom pod seq 1
      → entry.edits.items ≡ creation_edits pod.rows row → Applies pod seq entry
  by_posting container folder row here member fitting free room e =
      (let parts = free_parts row.path free in
      let path = path_of_norm row.path fitting.path in
      by_creating row (record {
        fitting = fitting;
        plain = member.plain;
        absent = parts.0;
        twin = member_twin pod row.path container w path member.parent here ∙ row_of_same (twin_of row.path) ∙ parts.1;
        room = ap (exceeds_rows pod.rows) (member_added pod row.path container w path member.parent here) ∙ room.rows;
      }) room.number e)
