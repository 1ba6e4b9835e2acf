use Rattle.std.proofs.Common.{◌≡◌, [], ◌∷◌, ◌++◌, List, ℕ, take, drop, sym, ap, ◌∙◌, lit<}
use Rattle.std.proofs.lemmas.List.{take-append-drop}
use Rattle.std.proofs.lemmas.Str.Pattern.{NoCharPasses-char, drop_at_char}
use Rattle.iri_ref.specs.Characters.{slash, is_slash, Lacks}
use Rattle.iri_ref.specs.Resolution.{up_to_last_slash}
use Rattle.iri_ref.proofs.Texts.{lacks_from_reads}
use Rattle.iri_ref.proofs.Paths.{up_to_cut, up_to_lacking}
use Rattle.iri_ref.proofs.target_components.strip_last_segment.Goals as goal

pub returns-in-Some-clause-some : goal.returns-in-Some-clause-some
returns-in-Some-clause-some c =
    let found = c.rsplit_once.ensures.cases in
    let some = rw c.in-Some.is at found in
    let path = c.args.path.now in
    let i = some.0 in
    let j = some.1 in
    let rest_lacks : Lacks is_slash (drop j path) = lacks_from_reads slash (drop j path) (λ k lt. NoCharPasses-char slash (drop j path) k some.2.0 (lit< tt) lt) in
    let whole : path ≡ take i path ++ slash ∷ drop j path = sym (take-append-drop i path) ∙ ap (λ (t : List ℕ). take i path ++ t) (drop_at_char slash path i j some.2.1 (lit< tt)) in
    ap up_to_last_slash whole ∙ up_to_cut (take i path) (drop j path) rest_lacks ∙ ap (λ (t : List ℕ). t ++ slash ∷ []) (sym some.3)

pub returns-in-None-clause-none : goal.returns-in-None-clause-none
returns-in-None-clause-none c =
    let found = c.rsplit_once.ensures.cases in
    let none = rw c.in-None.is at found in
    let path = c.args.path.now in
    up_to_lacking path (lacks_from_reads slash path (λ k lt. NoCharPasses-char slash path k none (lit< tt) lt))
