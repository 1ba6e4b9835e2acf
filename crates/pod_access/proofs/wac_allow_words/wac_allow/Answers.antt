use Rattle.std.proofs.Common.{◌≡◌, ◌++◌, ℕ, List, [], append_assoc, sym, ap, ◌∙◌}
use Rattle.std.specs.Prelude.{codes}
use Rattle.acl_rules.proofs.Choices.{if_ok_is}
use Rattle.pod_access.specs.Allow.{allow_text, granted_words}
use Rattle.pod_access.proofs.wac_allow_words.wac_allow.Goals as goal

regrouped : (a u b p d : List ℕ) → ((((([] ++ a) ++ u) ++ b) ++ p) ++ d) ≡ a ++ (u ++ (b ++ (p ++ d)))
regrouped a u b p d = simp append_assoc

-- five pieces, one after another
joined : (t1 t2 t3 t4 t5 a u b p d : List ℕ) → t1 ≡ [] ++ a → t2 ≡ t1 ++ u → t3 ≡ t2 ++ b → t4 ≡ t3 ++ p → t5 ≡ t4 ++ d → t5 ≡ a ++ (u ++ (b ++ (p ++ d)))
joined t1 t2 t3 t4 t5 a u b p d e1 e2 e3 e4 e5 =
    e5 ∙ ap (λ (t : List ℕ). t ++ d) (e4 ∙ ap (λ (t : List ℕ). t ++ p) (e3 ∙ ap (λ (t : List ℕ). t ++ b) (e2 ∙ ap (λ (t : List ℕ). t ++ u) e1)))
    ∙ regrouped a u b p d

pub returns : goal.returns
returns c =
    let user = granted_words c.args.user in
    let public = granted_words c.args.public in
    if_ok_is c.freeze.result c.append-5.new.self (allow_text c.args.user c.args.public)
    (joined c.append.new.self c.append-2.new.self c.append-3.new.self c.append-4.new.self c.append-5.new.self
    (codes "user=\"") user (codes "\",public=\"") public (codes "\"")
    (c.in_ok-append.ensures.appended ∙ ap (λ (t : List ℕ). t ++ codes "user=\"") c.new-text.ensures)
    (c.in_ok-append-2.ensures.appended ∙ ap (λ (t : List ℕ). c.append.new.self ++ t) c.words.ensures)
    c.in_ok-append-3.ensures.appended
    (c.in_ok-append-4.ensures.appended ∙ ap (λ (t : List ℕ). c.append-3.new.self ++ t) c.words-2.ensures)
    c.in_ok-append-5.ensures.appended)
    c.freeze.ensures.ok
