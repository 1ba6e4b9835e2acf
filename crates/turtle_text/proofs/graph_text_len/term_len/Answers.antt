use Rattle.std.proofs.Common.{ℕ, ◌+◌, List, length, sym, ap, ◌∙◌}
use Rattle.rdf_graph.specs.Size.{saturated}
use Rattle.rdf_graph.specs.Term.{datatype_text, escaped, text}
use Rattle.rdf_graph.specs.declared.term.Term.{Term}
use Rattle.rdf_graph.specs.declared.term.Term.TheVariants.{Literal, Tagged}
use Rattle.turtle_text.proofs.Lengths.{literal_length, tagged_length}
use Rattle.turtle_text.proofs.graph_text_len.term_len.Goals as goal

pub returns-in-Literal : goal.returns-in-Literal
returns-in-Literal c =
    let lexical = c.as_str-in-Literal.result.now in
    let datatype = c.as_str-in-Literal-2.result.now in
    c.sum.ensures (2 + length (escaped lexical)) (length (datatype_text datatype)) c.quoted_len.ensures c.datatype_len.ensures
    ∙ ap saturated (sym (literal_length lexical datatype)
    ∙ ap (λ (t : Term). length (text t))
    (ap (λ (x : List ℕ). Literal x datatype) c.as_str-in-Literal.ensures ∙ ap (λ (x : List ℕ). Literal c.in-Literal.lexical x) c.as_str-in-Literal-2.ensures.text
    ∙ sym c.in-Literal.is))

pub returns-in-Tagged : goal.returns-in-Tagged
returns-in-Tagged c =
    let lexical = c.as_str-in-Tagged.result.now in
    let lang = c.as_str-in-Tagged-2.result.now in
    c.sum-in-Tagged.ensures (2 + length (escaped lexical)) (1 + length lang) c.quoted_len-in-Tagged.ensures c.delimited_len-in-Tagged.ensures
    ∙ ap saturated (sym (tagged_length lexical lang)
    ∙ ap (λ (t : Term). length (text t))
    (ap (λ (x : List ℕ). Tagged x lang) c.as_str-in-Tagged.ensures ∙ ap (λ (x : List ℕ). Tagged c.in-Tagged.lexical x) c.as_str-in-Tagged-2.ensures
    ∙ sym c.in-Tagged.is))
