use Rattle.std.proofs.Common.{ap, refl, subst, List}
use mathlib.Core.List.{IsPrefix}
use Rattle.published_view.proofs.FrontTests.{prefix_tested, test_of_prefix, prefix_otherwise}
use Rattle.published_view.proofs.list_prefix.Front.is_prefix_of.Goals as goal

pub returns-clause-prefix : goal.returns-clause-prefix
returns-clause-prefix g c = λ h.
    let both = c.learn.new.self.log in
    let this : IsPrefix c.self.inside.seen.log both = subst (λ (l : List g.row.I.Denot). IsPrefix l both) (ap (λ s. s.log) c.again-both.ensures) c.learn.ensures.2 in
    rw (← c.self.view_is, ← c.other.view_is) (prefix_tested g.N.ViewName.opening c.self.inside.seen.log c.other.inside.seen.log both c.self.inside.count c.other.inside.count c.self.invariant.0 c.other.invariant.0 this c.learn.ensures.3 h)

pub returns-clause-only : goal.returns-clause-only
returns-clause-only g c =
    rw (← c.self.view_is, ← c.other.view_is) (λ p. test_of_prefix g.N.ViewName.opening c.self.inside.seen.log c.other.inside.seen.log c.self.inside.count c.other.inside.count c.self.invariant.0 c.other.invariant.0 p)

pub returns-clause-otherwise : goal.returns-clause-otherwise
returns-clause-otherwise g c =
    let both = c.learn.new.self.log in
    let this : IsPrefix c.self.inside.seen.log both = subst (λ (l : List g.row.I.Denot). IsPrefix l both) (ap (λ s. s.log) c.again-both.ensures) c.learn.ensures.2 in
    rw (← c.self.view_is, ← c.other.view_is) (prefix_otherwise g.N.ViewName.opening c.self.inside.seen.log c.other.inside.seen.log both c.self.inside.count c.other.inside.count c.self.invariant.0 c.other.invariant.0 this c.learn.ensures.3 _ refl)
