-- The order of terms is total, and terms that compare as equal are equal.
use Rattle.std.proofs.Common.{◌≡◌, subst}
use Rattle.std.proofs.lemmas.Cmp.{nat_list_cmp_total, on_total, tied_itself}
use Rattle.std.proofs.lemmas.Map.Lookups.{exact_bytes}
use Rattle.std.specs.Bool.{one_answer}
use Rattle.std.specs.Cmp.{Equal-is, IsTotalOrder}
use Rattle.std.specs.Ordering.{eq_by_cmp}
use Rattle.std.specs.declared.cmp.Ordering.TheVariants.{Equal}
use Rattle.rdf_graph.specs.Term.{term_eq, text}
use Rattle.rdf_graph.specs.TermLaws.{term_eq_decides}
use Rattle.rdf_graph.specs.TermOrder.{term_cmp}
use Rattle.rdf_graph.specs.TermTexts.{text_injective}
use Rattle.rdf_graph.specs.declared.term.Term.{Term}

pub term_cmp_total : IsTotalOrder term_cmp
unfolding term_cmp
term_cmp_total = on_total text nat_list_cmp_total

pub term_cmp_exact : (a b : Term) → term_cmp a b ≡ Equal → a ≡ b
unfolding term_cmp
term_cmp_exact a b e = text_injective a b (exact_bytes _ _ e)

pub term_ties : (a b : Term) → term_eq a b ≡ eq_by_cmp term_cmp a b
term_ties a b =
    one_answer (term_eq a b) (eq_by_cmp term_cmp a b) (term_eq_decides a b) (
      λ h. term_cmp_exact a b ((Equal-is (term_cmp a b)).0 h),
      λ e. (Equal-is (term_cmp a b)).1
          (subst (λ c. term_cmp a c ≡ Equal) e (tied_itself term_cmp_total a)),
    )
