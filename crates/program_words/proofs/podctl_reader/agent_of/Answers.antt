use Rattle.iri_ref.specs.declared.iri.IriFault.TheVariants.{BadReference}
use Rattle.program_words.proofs.AgentWords.{same_fault, word_is_agent}
use Rattle.program_words.proofs.podctl_reader.agent_of.Goals as goal

pub returns-in-Err-NoMemory-clause-out_of_memory : goal.returns-in-Err-NoMemory-clause-out_of_memory
returns-in-Err-NoMemory-clause-out_of_memory c =
    word_is_agent c.args.word.now c.in-Err-NoMemory.field-0 c.utf8.word (c.agents_are_absolute.ensures c.args.word.now)
    (λ none. same_fault c.in-Err-NoMemory.field-0 BadReference (c.in-Err-NoMemory.ensures.bad_reference.1 none)) c.in-Err-NoMemory.field-0-is
