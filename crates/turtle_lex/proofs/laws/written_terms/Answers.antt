use Rattle.turtle_lex.proofs.WrittenLemmas.{written_iri, written_string, written_label, written_tag, written_words, written_tag_after_string, written_carets, written_dot}
use Rattle.turtle_lex.proofs.laws.written_terms.Goals as goal

pub returns-clause-iri : goal.returns-clause-iri
returns-clause-iri c = written_iri

pub returns-clause-string : goal.returns-clause-string
returns-clause-string c = written_string

pub returns-clause-label : goal.returns-clause-label
returns-clause-label c = written_label

pub returns-clause-tag : goal.returns-clause-tag
returns-clause-tag c = written_tag

pub returns-clause-words : goal.returns-clause-words
returns-clause-words c = written_words

pub returns-clause-tag_after_string : goal.returns-clause-tag_after_string
returns-clause-tag_after_string c = written_tag_after_string

pub returns-clause-carets : goal.returns-clause-carets
returns-clause-carets c = written_carets

pub returns-clause-dot : goal.returns-clause-dot
returns-clause-dot c = written_dot
