use Rattle.std.proofs.Common.{rules, ◌≡◌, ◌<◌, ◌-◌, ◌∙◌, sym, ap, filter, take, None, Option, ℕ, arith}
use Rattle.pod_path.specs.Hierarchy.{is_container}
use Rattle.pod_rows.specs.Tree.{beginnings}
use Rattle.pod_pages.specs.Marks.{container_number, first_number, or_number}
use Rattle.pod_pages.proofs.Resolution.{number_step, none_is, found_first}
use Rattle.pod_pages.proofs.row_marks.number_above.Goals as goal

pub loop-n-preserved : goal.loop-n-preserved
loop-n-preserved c =
    let some : 0 < c.loop-n.n = search rules in
    let none : container_number c.args.rows.now (take (c.loop-n.n - 1) c.args.path.now) ≡ None = sym c.container_number-found.ensures ∙ none_is c.container_number-found.result (search rules) in (
      omega (arith, c.loop-n.invariant.0),
      c.loop-n.invariant.1
          ∙ number_step c.args.rows.now c.args.path.now c.loop-n.n some
          ∙ ap (λ (o : Option ℕ). or_number o (first_number c.args.rows.now (filter is_container (beginnings c.args.path.now (c.loop-n.n - 1))))) none,
    )

pub returns-then-is_some : goal.returns-then-is_some
returns-then-is_some c =
    let some : 0 < c.loop-n.n = search rules in
    found_first c.args.rows.now c.args.path.now c.loop-n.n c.container_number-found.result some (search rules) c.container_number-found.ensures c.loop-n.invariant.1
