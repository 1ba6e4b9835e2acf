use Rattle.std.proofs.Common.{◌≡◌, ◌++◌, ◌∷◌, [], List, ℕ, Some, sym, ap, ◌∙◌}
use Rattle.std.proofs.lemmas.Result.{IfOk-weaker}
use Rattle.iri_ref.specs.Characters.{slash}
use Rattle.pod_path.proofs.NormalPaths.{parts_of, is_path}
use Rattle.pod_path.proofs.Ends.{not_ending}
use Rattle.pod_path.proofs.Suffixes.{with_slash}
use Rattle.pod_path.proofs.Twins.{opened, twin_open}
use Rattle.pod_path.proofs.path.Path.twin_text.Goals as goal

pub from_text-requires : goal.from_text-requires
from_text-requires c =
    let whole = sym c.as_str.ensures.text ∙ c.in-Some.ensures.some in
    is_path c.in-Some.prefix.now (opened c.args.self.now c.in-Some.prefix.now whole c.as_str.ensures.path c.requires.root).parts

pub appended-requires : goal.appended-requires
appended-requires c =
    let self = c.args.self.now in
    let none = λ (prefix : List ℕ) (e : self ≡ prefix ++ slash ∷ []). c.in-None.ensures.none prefix (c.as_str.ensures.text ∙ e) in
    is_path (self ++ slash ∷ []) (with_slash self (parts_of self c.as_str.ensures.path) (not_ending self (slash ∷ []) none) c.requires.auxiliary)

pub returns-in-None-clause-twin : goal.returns-in-None-clause-twin
returns-in-None-clause-twin c =
    let self = c.args.self.now in
    let none = λ (prefix : List ℕ) (e : self ≡ prefix ++ slash ∷ []). c.in-None.ensures.none prefix (c.as_str.ensures.text ∙ e) in
    IfOk-weaker c.appended.result _ _ (λ x e. ap (λ (t : List ℕ). Some t) e ∙ twin_open self none c.requires.root c.requires.auxiliary) c.appended.ensures
