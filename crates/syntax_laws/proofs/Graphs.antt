-- The text of a graph, token by token.
use Rattle.std.proofs.Common.{◌≡◌, ℕ, inl, inr, List, [], ◌∷◌, ◌++◌, refl, sym, ap, ◌∙◌, append_assoc}
use Rattle.std.proofs.lemmas.List.{append-nil}
use Rattle.std.proofs.lemmas.List.Elements.{All-head, All-tail}
use Rattle.std.specs.Char.{encode_utf8}
use lib.Chars.{codes}
use Rattle.rdf_graph.specs.Graph.{graph_text}
use Rattle.rdf_graph.specs.Term.{text}
use Rattle.rdf_graph.specs.Triple.{line}
use Rattle.rdf_graph.specs.declared.triple.Triple.{Triple}
use Rattle.turtle_lex.specs.Classes.{is_blank}
use Rattle.turtle_lex.specs.Laws.{IsTextOf, EndsTerm}
use Rattle.turtle_lex.specs.Pattern.{Matches}
use Rattle.turtle_lex.specs.Terminals.{gap, last_gap}
use Rattle.turtle_lex.specs.Tokens.{is_string}
use Rattle.syntax_laws.specs.ReadBack.{TripleHasTexts, GraphHasTexts, TripleIsReadBack, GraphIsReadBack}
use Rattle.syntax_laws.proofs.Pieces.{Piece, pieces_text}
use Rattle.syntax_laws.proofs.Terms.{term_pieces, dot_piece, term_text, term_written, dot_written, space_ends, line_ends, space_is_gap, AreWrittenAlways}

-- the pieces of a triple, and then others
abbrev pub triple_pieces : List ℕ → Triple → List Piece → List Piece
triple_pieces blanks t ps =
    term_pieces blanks t.s (term_pieces (codes " ") t.p (term_pieces (codes " ") t.o (dot_piece ∷ ps)))

-- the pieces of triples: the line feed of a line precedes the next subject
abbrev pub graph_pieces : List ℕ → List Triple → List Piece
graph_pieces blanks [] = []
graph_pieces blanks (t ∷ ts) = triple_pieces blanks t (graph_pieces (codes "\n") ts)

-- what follows the last piece
abbrev pub graph_end : List ℕ → List Triple → List ℕ
graph_end blanks [] = blanks
graph_end blanks (t ∷ ts) = graph_end (codes "\n") ts

-- ---- their text is that of the graph

line_before : (t : Triple) (r : List ℕ)
    → line t ++ r ≡ text t.s ++ (codes " " ++ (text t.p ++ (codes " " ++ (text t.o ++ (codes " " ++ (codes "." ++ (codes "\n" ++ r)))))))
unfolding line
line_before t r =
    let end : List ℕ = codes " .\n" in
    let object : List ℕ = text t.o ++ end in
    let predicate : List ℕ = text t.p ++ (32 ∷ object) in
    append_assoc (text t.s) (32 ∷ predicate) r
    ∙ ap (λ (x : List ℕ). text t.s ++ (32 ∷ x)) (append_assoc (text t.p) (32 ∷ object) r
    ∙ ap (λ (x : List ℕ). text t.p ++ (32 ∷ x)) (append_assoc (text t.o) end r))

triple_text : (blanks : List ℕ) (t : Triple) (ps : List Piece) (r : List ℕ)
    → pieces_text (triple_pieces blanks t ps) r
    ≡ blanks ++ (text t.s ++ (codes " " ++ (text t.p ++ (codes " " ++ (text t.o ++ (codes " " ++ (codes "." ++ pieces_text ps r)))))))
triple_text blanks t ps r =
    let third : List Piece = term_pieces (codes " ") t.o (dot_piece ∷ ps) in
    term_text blanks t.s (term_pieces (codes " ") t.p third) r
    ∙ ap (λ (x : List ℕ). blanks ++ (text t.s ++ x)) (term_text (codes " ") t.p third r
    ∙ ap (λ (x : List ℕ). codes " " ++ (text t.p ++ x)) (term_text (codes " ") t.o (dot_piece ∷ ps) r))

pub pieces_are : (blanks : List ℕ) (ts : List Triple) → pieces_text (graph_pieces blanks ts) (graph_end blanks ts) ≡ blanks ++ graph_text ts
pieces_are blanks [] = sym (append-nil blanks)
pieces_are blanks (t ∷ ts) =
    triple_text blanks t (graph_pieces (codes "\n") ts) (graph_end (codes "\n") ts)
    ∙ ap (λ (x : List ℕ). blanks ++ (text t.s ++ (codes " " ++ (text t.p ++ (codes " " ++ (text t.o ++ (codes " " ++ (codes "." ++ x)))))))) (pieces_are (codes "\n") ts)
    ∙ ap (λ (x : List ℕ). blanks ++ x) (sym (line_before t (graph_text ts)))

-- ---- each is a token

triple_written : (base blanks : List ℕ) (t : Triple) (ps : List Piece) (r : List ℕ) → IsTextOf gap blanks → TripleHasTexts t → TripleIsReadBack t
    → EndsTerm (pieces_text ps r) → AreWrittenAlways ps r → AreWrittenAlways (triple_pieces blanks t ps) r
triple_written base blanks t ps r x h k ends rest =
    let fourth : List Piece = dot_piece ∷ ps in
    let third : List Piece = term_pieces (codes " ") t.o fourth in
    let second : List Piece = term_pieces (codes " ") t.p third in
    let dot : AreWrittenAlways fourth r = λ a. let d = dot_written a (pieces_text ps r) ends in (d, rest (is_string d.kind)) in
    let before_dot : EndsTerm (pieces_text fourth r) = space_ends (pieces_text fourth r) (46 ∷ pieces_text ps r) refl in
    let before_object : EndsTerm (pieces_text third r) =
    space_ends (pieces_text third r) (text t.o ++ pieces_text fourth r) (term_text (codes " ") t.o fourth r) in
    let before_predicate : EndsTerm (pieces_text second r) =
    space_ends (pieces_text second r) (text t.p ++ pieces_text third r) (term_text (codes " ") t.p third r) in
    term_written base blanks t.s second r x h.subject k.subject before_predicate
    (term_written base (codes " ") t.p third r space_is_gap h.predicate k.predicate before_object
    (term_written base (codes " ") t.o fourth r space_is_gap h.object k.object before_dot dot))

line_is_gap : IsTextOf gap (codes "\n")
unfolding gap is_blank encode_utf8
line_is_gap = (1, ([], inl (10, refl, refl, refl), refl))

pub graph_written : (base blanks : List ℕ) (ts : List Triple) → IsTextOf gap blanks → GraphHasTexts ts → GraphIsReadBack ts
    → AreWrittenAlways (graph_pieces blanks ts) (graph_end blanks ts)
graph_written base blanks [] x h k a = tt
graph_written base blanks (t ∷ ts) x h k a =
    let ps : List Piece = graph_pieces (codes "\n") ts in
    let r : List ℕ = graph_end (codes "\n") ts in
    triple_written base blanks t ps r x (All-head TripleHasTexts t ts h) (All-head TripleIsReadBack t ts k)
    (line_ends (pieces_text ps r) (graph_text ts) (pieces_are (codes "\n") ts))
    (graph_written base (codes "\n") ts line_is_gap (All-tail TripleHasTexts t ts h) (All-tail TripleIsReadBack t ts k)) a

-- ---- what follows the last token

end_left : (blanks : List ℕ) (ts : List Triple) → Matches last_gap blanks [] → Matches last_gap (codes "\n") [] → Matches last_gap (graph_end blanks ts) []
end_left blanks [] x y = x
end_left blanks (t ∷ ts) x y = end_left (codes "\n") ts y y

nothing_left : Matches last_gap [] []
unfolding last_gap gap
nothing_left = ([], (0, refl), inr refl)

line_left : Matches last_gap (codes "\n") []
unfolding last_gap gap is_blank encode_utf8
line_left = ([], (1, ([], inl (10, refl, refl, refl), refl)), inr refl)

pub gap_left : (ts : List Triple) → Matches last_gap (graph_end [] ts) []
gap_left ts = end_left [] ts nothing_left line_left

pub nothing_is_gap : IsTextOf gap []
unfolding gap
nothing_is_gap = (0, refl)
