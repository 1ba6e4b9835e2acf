use Rattle.std.proofs.Common.{◌≡◌, ◌++◌, ◌∷◌, [], ℕ, List, decimal, length, IfOk, subst, ap, ◌∙◌}
use Rattle.pod_command.specs.declared.basis.Basis.{Basis}
use Rattle.audit_trail.specs.Lines.{spaced, agent_word, method_word, bases_words, first_text}
use Rattle.audit_trail.proofs.LineLemmas.{line-of-parts}
use Rattle.audit_trail.proofs.entry_lines.entry_line.Goals as goal

-- the parts are the words of the line
pub returns : goal.returns
returns c =
    let e = c.args.entry.now in
    let made : List (List ℕ) = decimal e.moment.0 ∷ agent_word e.agent ∷ method_word e.method ∷ [] in
    let change : List (List ℕ) = e.path ∷ decimal e.conn ∷ decimal e.number ∷ decimal (length e.edits.items) ∷ [] in
    subst (λ (text : List ℕ). IfOk c.freeze.result (λ line. line ≡ text))
    (c.in_ok-push.ensures.items
    ∙ ap (λ (text : List ℕ). text ++ 10 ∷ [])
    (c.in_ok-append_bases.ensures
    ∙ ap (λ (bases : List Basis). c.append_change.new.line.items ++ spaced (bases_words bases)) c.as_slice.ensures
    ∙ ap (λ (text : List ℕ). text ++ spaced (bases_words e.bases.items))
    (c.in_ok-append_change.ensures
    ∙ ap (λ (text : List ℕ). text ++ spaced change)
    (c.in_ok-append_first.ensures ∙ ap (λ (text : List ℕ). text ++ first_text e.seq e.moment e.agent e.method) c.in_ok-line.ensures.items)))
    ∙ line-of-parts (decimal e.seq) made change (bases_words e.bases.items))
    c.freeze.ensures
