use Rattle.std.proofs.Common.{rules, ◌≡◌, ◌∙◌, ap, sym, Some, None, List, ℕ}
use Rattle.std.specs.Prelude.{is_some}
use Rattle.pod_rows.specs.Access.{governed}
use Rattle.access_index.specs.Governing.{effective_among}
use Rattle.access_index.specs.Index.{IsResolved}
use Rattle.access_index.specs.Listing.{is_listed}
use Rattle.access_index.specs.Tables.{entry_at, keys}
use Rattle.access_index.specs.declared.resolved_list.Resolved.{Resolved}
use Rattle.access_index.proofs.OrderedTables.{all_at, entry_listed}
use Rattle.access_index.proofs.index.AccessIndex.find.Goals as goal

pub returns-in-Some-clause-listed : goal.returns-in-Some-clause-listed
returns-in-Some-clause-listed c =
    let items = c.self.inside.entries.items in
    let view : keys items ≡ c.args.self.now = search rules in
    let found : entry_at items c.args.path.now ≡ Some c.in-Some.entry.now = search rules in
    sym (ap is_some found) ∙ entry_listed items c.args.path.now ∙ ap (λ (ps : List (List ℕ)). is_listed ps c.args.path.now) view

pub returns-in-Some-clause-governs : goal.returns-in-Some-clause-governs
returns-in-Some-clause-governs c =
    let items = c.self.inside.entries.items in
    let view : keys items ≡ c.args.self.now = search rules in
    let found : entry_at items c.args.path.now ≡ Some c.in-Some.entry.now = search rules in
    let lent : c.in-Some.entry.now.resolved ≡ c.as_resolved.result.now = search rules in
    let at = all_at (IsResolved (is_listed (keys items))) items c.args.path.now c.in-Some.entry.now c.self.invariant.tables.resolved found in
    ap (λ (ps : List (List ℕ)). effective_among (is_listed ps) c.args.path.now) (sym view)
    ∙ ap (effective_among (is_listed (keys items))) (sym at.1)
    ∙ at.0
    ∙ ap (λ (r : Resolved). Some (governed r.at r.how)) lent

pub returns-in-None-clause-listed : goal.returns-in-None-clause-listed
returns-in-None-clause-listed c =
    let items = c.self.inside.entries.items in
    let view : keys items ≡ c.args.self.now = search rules in
    let found : entry_at items c.args.path.now ≡ None = search rules in
    sym (ap is_some found) ∙ entry_listed items c.args.path.now ∙ ap (λ (ps : List (List ℕ)). is_listed ps c.args.path.now) view
