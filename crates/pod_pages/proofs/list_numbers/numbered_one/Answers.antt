use Rattle.std.proofs.Common.{sym, ap, ◌∙◌, List}
use Rattle.pod_command.specs.declared.row.Row.{Row}
use Rattle.pod_rows.specs.Access.{has_own_list}
use Rattle.row_pages.specs.Items.{rows_of}
use Rattle.pod_pages.specs.Numbering.{list_rules, rules_if}
use Rattle.pod_pages.proofs.Listing.{rules_own, rules_none}
use Rattle.pod_pages.proofs.list_numbers.numbered_one.Goals as goal

pub returns-in_ok-next-in-Some-clause-numbered : goal.returns-in_ok-next-in-Some-clause-numbered
returns-in_ok-next-in-Some-clause-numbered c = λ first pending tree a.
    let own = rules_own c.args.base.now (rows_of c.args.rows.now) c.args.subject.now c.in-Some.rules.list (sym (ap rules_if c.in-Some.is) ∙ c.in_ok-found.ensures) in
    c.in_ok-next-in-Some.ensures.numbered c.args.base.now first pending tree
    (ap (λ (rs : List Row). has_own_list rs c.args.subject.now) (sym a.rows) ∙ own.0)
    (own.1 ∙ ap (λ (rs : List Row). list_rules c.args.base.now rs c.args.subject.now) a.rows)
    a

pub returns-in_ok-next-in-None-clause-numbered : goal.returns-in_ok-next-in-None-clause-numbered
returns-in_ok-next-in-None-clause-numbered c = λ first pending tree a.
    let none = rules_none c.args.base.now (rows_of c.args.rows.now) c.args.subject.now (sym (ap rules_if c.in-None.is) ∙ c.in_ok-found.ensures) in
    c.in_ok-next-in-None.ensures.numbered c.args.base.now first pending c.args.places.now.items
    (ap (λ (rs : List Row). has_own_list rs c.args.subject.now) (sym a.rows) ∙ none)
    a
