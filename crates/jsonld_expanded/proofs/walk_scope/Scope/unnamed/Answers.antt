use Rattle.std.proofs.Common.{◌≡◌, ℕ, suc, ◌+◌, refl, sym, ap, ◌∙◌, subst, arith}
use Rattle.std.specs.BTreeSet.{contains_text}
use Rattle.rdf_graph.specs.declared.term.Term.TheVariants.{Blank}
use Rattle.jsonld_expanded.specs.Nodes.{IsNextFree}
use Rattle.jsonld_expanded.proofs.walk_scope.Scope.unnamed.Goals as goal

pub returns-clause-node : goal.returns-clause-node
returns-clause-node c = λ a h.
    let number = c.in_ok-number.number in
    let next : c.in-Some.next ≡ suc number = omega (arith, c.in-Some.ensures) in (
      record { triples = a.triples; next = suc number },
      record {
        number = number;
        next = subst (λ (n : ℕ). IsNextFree (contains_text c.args.self.now.labels) n number) h.next c.in_ok-number.ensures.free;
        label = ap (λ l. Blank l) (c.in_ok-label.ensures ∙ c.in_ok-number.ensures.label);
        after = refl;
      },
      record { next = next; size = h.size; kept = h.kept; rdf = h.rdf },
    )
