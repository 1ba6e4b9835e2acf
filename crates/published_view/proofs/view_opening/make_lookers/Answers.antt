use Rattle.std.proofs.Common.{◌≡◌, ◌++◌, [], ◌∷◌, List, length, All, ap, arith, length-append, rules, subst, sym}
use Rattle.std.proofs.lemmas.List.Elements.{All-push}
use Rattle.published_view.specs.LookerState.{IsNewLooker, LookerState}
use Rattle.published_view.proofs.view_opening.make_lookers.Goals as goal

pub loop-preserved : goal.loop-preserved
loop-preserved g c =
    let Seated : LookerState g.row.V-Item.Denot → Type 0 = λ looker. looker.table ≡ c.args.publisher.now.table in
    let grown : c.push.new.self.items ≡ c.loop.lookers.items ++ c.in_ok-looker.looker ∷ [] = search rules in
    let new = All-push (IsNewLooker c.args.publisher.now.list) c.loop.lookers.items c.in_ok-looker.looker c.loop.invariant.new c.in_ok-looker.ensures.looker in
    let tables = All-push Seated c.loop.lookers.items c.in_ok-looker.looker c.loop.invariant.tables c.in_ok-looker.ensures.table in
    record {
      counted = omega (arith, ap length grown, length-append c.loop.lookers.items (c.in_ok-looker.looker ∷ []));
      new = subst (λ (ls : List (LookerState g.row.V-Item.Denot)). All (IsNewLooker c.args.publisher.now.list) ls) (sym grown) new;
      tables = subst (λ (ls : List (LookerState g.row.V-Item.Denot)). All Seated ls) (sym grown) tables;
      kept = search rules;
    }
