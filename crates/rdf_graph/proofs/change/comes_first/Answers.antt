use Rattle.std.proofs.Common.{◌≡◌, ◌∙◌, ◌↔◌, ap, sym, Some, Bool, true, refl, List, ℕ}
use Rattle.std.specs.Prelude.{slice_get, IsTrue}
use Rattle.std.specs.Ordering.{is_lt}
use Rattle.std.specs.declared.cmp.Ordering.{Ordering}
use Rattle.std.specs.declared.cmp.Ordering.TheVariants.{Less, Equal, Greater}
use Rattle.std.proofs.lemmas.Bool.{false≢true}
use Rattle.std.proofs.lemmas.Option.{slice_get_read}
use Rattle.rdf_graph.specs.Graph.{IsOrdered}
use Rattle.rdf_graph.specs.InsertionPoint.{ComesFirst}
use Rattle.rdf_graph.specs.Triple.{triple_cmp}
use Rattle.rdf_graph.specs.declared.triple.Triple.{Triple}
use Rattle.rdf_graph.proofs.Merging.{comes_first_at, first_is_below}
use Rattle.rdf_graph.proofs.change.comes_first.Goals as goal

less : (r : Ordering) → is_lt r ≡ true → r ≡ Less
less Less e = refl
less Equal e = absurd (false≢true e)
less Greater e = absurd (false≢true e)

decided : (xs ys : List Triple) (k i : ℕ) (y x : Triple) (o : Ordering) (r : Bool) → IsOrdered ys → slice_get xs k ≡ Some y → slice_get ys i ≡ Some x → o ≡ triple_cmp y x → r ≡ is_lt o → IsTrue r ↔ ComesFirst xs k ys i
decided xs ys k i y x o r s at at' is e = (
  λ h. comes_first_at xs k ys i y x s at at' (sym is ∙ less o (sym e ∙ h)),
  λ h. e ∙ ap is_lt (is ∙ first_is_below xs k ys i y x at at' h),
)

pub returns-in-Some-Some-clause-first : goal.returns-in-Some-Some-clause-first
returns-in-Some-Some-clause-first c =
    decided c.args.first.now c.args.second.now c.args.k c.args.i c.in-Some-Some.y.now c.in-Some-Some.x.now c.cmp.result c.is_lt.result c.requires
    (slice_get_read c.args.first.now _ c.args.k c.in-Some-Some.y.now refl c.in-Some-Some.ensures.lookup.3.0 c.in-Some-Some.ensures.lookup.1)
    (slice_get_read c.args.second.now _ c.args.i c.in-Some-Some.x.now refl c.in-Some-Some.ensures'.lookup.3.0 c.in-Some-Some.ensures'.lookup.1)
    c.cmp.ensures c.is_lt.ensures
