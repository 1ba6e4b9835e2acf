use Rattle.std.proofs.Common.{◌≡◌, ◌∙◌, sym, ap, subst, true, List, ℕ}
use Rattle.std.specs.Prelude.{IsTrue}
use Rattle.iri_ref.specs.Resolution.{up_to_last_slash}
use Rattle.pod_path.specs.Hierarchy.{without_last_slash}
use Rattle.pod_rows.specs.WellFormed.{has_parent}
use Rattle.pod_rows.specs.WellFormedTests.{is_known}
use Rattle.pod_rows.proofs.Relations.{all_more, known_next}
use Rattle.pod_rows.proofs.well_formed.have_parents.Goals as goal

pub loop-row-preserved : goal.loop-row-preserved
loop-row-preserved c =
    let has : has_parent c.args.rows.now c.row-item.result ≡ true = sym c.has_parent.ensures ∙ c.if-not-has_parent.false in
    let known : c.parent_text-known.result.now ≡ up_to_last_slash (without_last_slash c.row-item.result.path) = c.parent_text-known.ensures ∙ ap (λ (p : List ℕ). up_to_last_slash (without_last_slash p)) c.as_str.ensures.text in (
      all_more (has_parent c.args.rows.now) c.args.rows.now c.loop-row.row-index c.row-item.result c.loop-row-test.true c.row-item.is c.loop-row.invariant.0 has,
      subst (λ (t : List ℕ). IsTrue (is_known c.args.rows.now t)) (sym known) (known_next c.args.rows.now c.row-item.result has),
      c.parent_text-known.utf8,
    )
