-- A word for which no memory was left names an agent.
use Rattle.std.proofs.Common.{◌≡◌, ℕ, true, false, if◌then◌else◌, IsErrOf, List, Some, None, is_some, Err, refl, sym, ◌∙◌}
use Rattle.std.specs.Prelude.{◌↔◌, IsTrue}
use Rattle.std.specs.Str.{IsUtf8}
use Rattle.iri_ref.specs.Components.{IsAbsolute}
use Rattle.iri_ref.specs.declared.iri.IriFault.{IriFault}
use Rattle.iri_ref.specs.declared.iri.IriFault.TheVariants.{BadReference, NoMemory}
use Rattle.token_table.specs.TableLines.{is_agent}
use Rattle.program_words.specs.Readings.{agent_of}

pub same_fault : {T : Type 0} (a b : IriFault) → IsErrOf {T = T} (Err a) b → a ≡ b
same_fault a b h = cc

pub word_is_agent : (word : List ℕ) (fault : IriFault) → IsUtf8 word → (IsTrue (is_agent word) ↔ (IsUtf8 word × IsAbsolute word)) → ((IsAbsolute word → ⊥) → fault ≡ BadReference) → fault ≡ NoMemory → is_some (agent_of word) ≡ true
word_is_agent word fault utf8 law bad none =
    elim (is_agent word) as (λ b. is_agent word ≡ b → is_some (if b then Some word else None) ≡ true) [
      | true ↦ λ e. refl
      | false ↦ λ e.
          let never : BadReference ≡ NoMemory = sym (bad (λ absolute. let both : true ≡ false = sym (law.1 (utf8, absolute)) ∙ e in cc)) ∙ none in
          cc
    ] refl
