-- Texts with and without a last slash.
use Rattle.std.proofs.Common.{◌≡◌, ℕ, ◌+◌, ◌<◌, Bool, true, false, cond, List, [], ◌∷◌, ◌++◌, length, get_or, take, drop, refl, sym, ap, ◌∙◌, arith}
use Rattle.std.specs.Prelude.{nat_eq}
use Rattle.std.specs.List.{ends_with}
use Rattle.std.proofs.lemmas.List.{take-append-drop, drop_more, take_more, get_or-drop, length-drop}
use Rattle.iri_ref.specs.Characters.{slash, is_slash, Lacks}
use Rattle.iri_ref.specs.Resolution.{up_to_last_slash}
use Rattle.iri_ref.proofs.Texts.{lacks_from_reads}
use Rattle.iri_ref.proofs.Paths.{up_to_cut}
use Rattle.pod_path.specs.Hierarchy.{without_end, without_last_slash}
use Rattle.pod_path.proofs.Names.{ends_is, ends_append, without_append}

pub not_ending : (text end : List ℕ) → ((prefix : List ℕ) → text ≡ prefix ++ end → ⊥) → ends_with nat_eq text end ≡ false
not_ending text end none = by_test (ends_with nat_eq text end) refl
  where
    by_test : (b : Bool) → ends_with nat_eq text end ≡ b → b ≡ false
    by_test true e = absurd (none (without_end (length end) text) (ends_is text end e))
    by_test false e = refl

pub without_last_slash_none : (path : List ℕ) → ((prefix : List ℕ) → path ≡ prefix ++ slash ∷ [] → ⊥) → path ≡ without_last_slash path
without_last_slash_none path none = sym (ap (λ (b : Bool). cond b (without_end 1 path) path) (not_ending path (slash ∷ []) none))

pub without_last_slash_some : (prefix : List ℕ) → without_last_slash (prefix ++ slash ∷ []) ≡ prefix
without_last_slash_some prefix =
    ap (λ (b : Bool). cond b (without_end 1 (prefix ++ slash ∷ [])) (prefix ++ slash ∷ [])) (ends_append prefix (slash ∷ [])) ∙ without_append prefix (slash ∷ [])

pub up_to_at : (text : List ℕ) (at : ℕ) → at < length text → get_or text at 0 ≡ slash → ((i : ℕ) → at < i → i < length text → get_or text i 0 ≡ slash → ⊥) → take (at + 1) text ≡ up_to_last_slash text
up_to_at text at lt here behind =
    let rest = drop (at + 1) text in
    let rest_lacks : Lacks is_slash rest = lacks_from_reads slash rest (λ i below e. behind (at + 1 + i) (omega arith) (omega (arith, length-drop (at + 1) text)) (sym (get_or-drop (at + 1) text i 0) ∙ e)) in
    let whole : text ≡ take at text ++ slash ∷ rest = sym (take-append-drop at text) ∙ ap (λ (t : List ℕ). take at text ++ t) (drop_more text at 0 lt ∙ ap (λ (c : ℕ). c ∷ rest) here) in
    take_more text at 0 lt ∙ ap (λ (c : ℕ). take at text ++ c ∷ []) here ∙ sym (up_to_cut (take at text) rest rest_lacks) ∙ ap up_to_last_slash (sym whole)
