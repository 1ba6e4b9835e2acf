use Rattle.std.proofs.Common.{ℕ, ◌≡◌, ◌-◌, List, ◌∷◌, ◌++◌, length, take, drop, sym, ap, ◌∙◌, append_assoc}
use Rattle.std.proofs.lemmas.List.{take-append-drop, take_rest}
use Rattle.std.proofs.lemmas.Grind.{flat_map-append}
use Rattle.rdf_graph.specs.Term.{escaped, escaped_byte}
use Rattle.rdf_graph.proofs.text_append.append_run.Goals as goal

run : (into rest : List ℕ) (n first : ℕ) (left mid last : List ℕ) → escaped (take n rest) ≡ take n rest → take (length rest - n) (drop n rest) ≡ first ∷ left
    → mid ≡ into ++ take n rest → last ≡ mid ++ escaped_byte first → last ++ escaped left ≡ into ++ escaped rest
run into rest n first left mid last plain split m l =
    let parts : escaped rest ≡ take n rest ++ (escaped_byte first ++ escaped left) =
    ap escaped (sym (take-append-drop n rest)) ∙ flat_map-append escaped_byte (take n rest) (drop n rest)
    ∙ ap (λ z. z ++ escaped (drop n rest)) plain ∙ ap (λ z. take n rest ++ escaped z) (sym (take_rest rest n) ∙ split) in
    ap (λ z. z ++ escaped left) (l ∙ ap (λ z. z ++ escaped_byte first) m)
    ∙ append_assoc (into ++ take n rest) (escaped_byte first) (escaped left)
    ∙ append_assoc into (take n rest) (escaped_byte first ++ escaped left)
    ∙ ap (λ z. into ++ z) (sym parts)

pub returns-in_ok-append_byte-in-Some-clause-text : goal.returns-in_ok-append_byte-in-Some-clause-text
returns-in_ok-append_byte-in-Some-clause-text c =
    run c.args.into.now.items c.args.rest.now c.plain_len-plain.result _ c.in-Some.left.now c.extend_from_slice.new.self.items c.append_byte.new.into.items
    c.plain_len-plain.ensures.plain c.in-Some.ensures.cases.0 c.in_ok-extend_from_slice.ensures.items c.in_ok-append_byte-in-Some.ensures
