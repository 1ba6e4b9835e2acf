-- Pods that are alike are so after an entry of both that opens nothing that differs.
use Rattle.std.proofs.Common.{◌≡◌, ℕ, List, ◌++◌, map, Option, Some, None, IfSome, sym, ap, ◌∙◌}
use Rattle.std.specs.Option.{option_map_or, option_to_list}
use Rattle.pod_base.specs.declared.agent.Agent.{Agent}
use Rattle.pod_command.specs.declared.entry.Entry.{Entry}
use Rattle.pod_rows.specs.Apply.{Applies, applied, with_rows, with_rows_if}
use Rattle.pod_rows.specs.Pod.{Pod}
use Rattle.reply_laws.specs.Alike.{Alike, kind_of, path_of}
use Rattle.history_laws.specs.Isolated.{HidesDifferences, KeepsHidden}
use Rattle.history_laws.proofs.SameKeys.{key_of, keys_from, kinds_from, paths_from, same_keys}

pub alike_after : (agent : Agent) (p q : Pod) (seq other : ℕ) (entry : Entry) → Alike agent p q → Applies p seq entry → Applies q other entry → HidesDifferences agent (applied p entry) (applied q entry)
    → Alike agent (applied p entry) (applied q entry)
alike_after agent p q seq other entry alike a b hidden =
    let pa : applied p entry ≡ with_rows p a.rows = ap (with_rows_if p) a.edits in
    let qa : applied q entry ≡ with_rows q b.rows = ap (with_rows_if q) b.edits in
    let keys : map key_of a.rows ≡ map key_of b.rows =
    same_keys entry.edits.items p.rows q.rows a.rows b.rows (keys_from p.rows q.rows alike.paths alike.kinds) a.edits b.edits in
    record {
      base = ap (λ (x : Pod). x.base) pa ∙ alike.base ∙ sym (ap (λ (x : Pod). x.base) qa);
      owner = ap (λ (x : Pod). x.owner) pa ∙ alike.owner ∙ sym (ap (λ (x : Pod). x.owner) qa);
      paths = ap (λ (x : Pod). map path_of x.rows) pa ∙ paths_from a.rows b.rows keys ∙ sym (ap (λ (x : Pod). map path_of x.rows) qa);
      kinds = ap (λ (x : Pod). map kind_of x.rows) pa ∙ kinds_from a.rows b.rows keys ∙ sym (ap (λ (x : Pod). map kind_of x.rows) qa);
      rows = hidden;
    }

-- after an entry that may be there, and what stays hidden by the others
pub alike_then : (agent : Agent) (p q : Pod) (seq other : ℕ) (o : Option Entry) (more : List Entry) → Alike agent p q → IfSome o (Applies p seq) → IfSome o (Applies q other) → KeepsHidden agent p q (option_to_list o ++ more)
    → Alike agent (option_map_or (applied p) o p) (option_map_or (applied q) o q) × KeepsHidden agent (option_map_or (applied p) o p) (option_map_or (applied q) o q) more
alike_then agent p q seq other None more alike a b hidden = (alike, hidden)
alike_then agent p q seq other (Some entry) more alike a b hidden = (alike_after agent p q seq other entry alike a b hidden.0, hidden.1)
