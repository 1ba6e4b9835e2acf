use Rattle.std.proofs.Common.{◌≡◌, ◌++◌, ℕ, List, Option, sym, ap, ◌∙◌}
use Rattle.std.specs.Option.{option_to_list}
use Rattle.acl_rules.specs.Building.{with_places}
use Rattle.acl_rules.specs.Rules.{place_of}
use Rattle.acl_rules.specs.Vocabulary.{acl_access_to, acl_default}
use Rattle.acl_rules.specs.declared.rule.Rule.{Rule}
use Rattle.acl_rules.proofs.Choices.{on_ok}
use Rattle.acl_rules.proofs.rule.Rule.add_places.Goals as goal

places : (rule : Rule) (a b : List (List ℕ)) (x y x' y' : Option (List ℕ)) → a ≡ rule.access_to ++ option_to_list x → b ≡ rule.defaults ++ option_to_list y → x ≡ x' → y ≡ y'
    → record rule { access_to = a; defaults = b } ≡ record rule { access_to = rule.access_to ++ option_to_list x'; defaults = rule.defaults ++ option_to_list y' }
places rule a b x y x' y' ea eb ex ey =
    ap (λ (l : List (List ℕ)). record rule { access_to = l; defaults = b }) (ea ∙ ap (λ (o : Option (List ℕ)). rule.access_to ++ option_to_list o) ex)
    ∙ ap (λ (l : List (List ℕ)). record rule { access_to = rule.access_to ++ option_to_list x'; defaults = l }) (eb ∙ ap (λ (o : Option (List ℕ)). rule.defaults ++ option_to_list o) ey)

pub returns : goal.returns
unfolding acl_access_to acl_default
returns c =
    let rule = c.args.self.now in
    let to : c.in_ok-access_to.access_to ≡ place_of c.args.base.now acl_access_to c.args.triple.now = c.in_ok-access_to.ensures in
    let below : c.in_ok-default.default ≡ place_of c.args.base.now acl_default c.args.triple.now = c.in_ok-default.ensures in
    on_ok c.push_some-2.result (c.push_some-2.new.self ≡ rule.defaults ++ option_to_list c.in_ok-default.default) _
    (λ pushed. places rule c.push_some.new.self c.push_some-2.new.self c.in_ok-access_to.access_to c.in_ok-default.default
    (place_of c.args.base.now acl_access_to c.args.triple.now) (place_of c.args.base.now acl_default c.args.triple.now)
    c.in_ok-push_some.ensures pushed to below)
    c.push_some-2.ensures
