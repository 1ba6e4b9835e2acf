use Rattle.std.proofs.Common.{◌≡◌, ◌∙◌, ◌↔◌, ap, sym, subst, Some, Bool, true, refl, List, ℕ}
use Rattle.std.specs.Prelude.{slice_get, IsTrue}
use Rattle.std.specs.Cmp.{Equal-is}
use Rattle.std.specs.Ordering.{eq_by_cmp}
use Rattle.std.proofs.lemmas.Cmp.{tied_itself}
use Rattle.std.proofs.lemmas.Option.{slice_get_read}
use Rattle.std.specs.declared.cmp.Ordering.TheVariants.{Equal}
use Rattle.rdf_graph.specs.Triple.{triple_cmp}
use Rattle.rdf_graph.specs.TripleLaws.{triple_cmp_total}
use Rattle.rdf_graph.specs.declared.triple.Triple.{Triple}
use Rattle.rdf_graph.proofs.Exact.{triple_cmp_exact}
use Rattle.rdf_graph.proofs.change.is_at.Goals as goal

decided : (xs : List Triple) (k : ℕ) (x t : Triple) (r : Bool) → slice_get xs k ≡ Some x → r ≡ eq_by_cmp triple_cmp x t → IsTrue r ↔ (slice_get xs k ≡ Some t)
decided xs k x t r at e = (
  λ h. at ∙ ap (λ z. Some z) (triple_cmp_exact x t ((Equal-is (triple_cmp x t)).0 (sym e ∙ h))),
  λ h. let same : x ≡ t = cc in
      subst (λ z. z ≡ true) (sym e) ((Equal-is (triple_cmp x t)).1 (subst (λ z. triple_cmp x z ≡ Equal) same (tied_itself triple_cmp_total x))),
)

pub returns-in-Some : goal.returns-in-Some
returns-in-Some c = decided c.args.triples.now c.args.position c.in-Some.found.now c.args.triple.now c.eq.result (slice_get_read c.args.triples.now _ c.args.position c.in-Some.found.now refl c.in-Some.ensures.lookup.3.0 c.in-Some.ensures.lookup.1) c.eq.ensures
