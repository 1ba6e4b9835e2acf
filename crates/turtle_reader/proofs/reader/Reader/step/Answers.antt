use Rattle.std.proofs.Common.{[], ◌∷◌, ◌++◌, sym, subst}
use Rattle.turtle_grammar.specs.declared.machine.Machine.{Machine}
use Rattle.turtle_grammar.specs.declared.fault.Refusal.{Refusal}
use Rattle.turtle_grammar.specs.Readings.{ReadsOn, NamesOn, IsRefused, HasString, produced_by}
use Rattle.turtle_grammar.proofs.Steps.{goes_on_now}
use Rattle.turtle_reader.proofs.Stepping.{grammar_here, iri_refused, deep_here, reads_more}
use Rattle.turtle_reader.proofs.reader.Reader.step.Goals as goal

pub returns-in-Ok-meaning-clause-read : goal.returns-in-Ok-meaning-clause-read
returns-in-Ok-meaning-clause-read c =
    let done = c.in_ok-keep-in-Ok-meaning.ensures in
    let reads = subst (λ (m : Machine). ReadsOn c.args.lexeme.symbol c.args.self.now.machine m) (sym done.machine) c.in-Ok.ensures.read in
    let names = subst (λ (m : Machine). NamesOn c.args.lexeme.symbol c.args.self.now.machine m) (sym done.machine) c.in-Ok.ensures.names in
    λ start base ls ps ms h. reads_more start base c.args.bytes.now ls ps ms c.args.self.now h
    c.args.lexeme c.in-Ok-meaning.meaning c.keep.new.self c.drop_unnamed.new.self reads names c.in-Ok-meaning.ensures.meaning done.context
    c.drop_unnamed.ensures.unnamed c.drop_unnamed.ensures.kept done.kept done.read

pub returns-in-Ok-clause-refused : goal.returns-in-Ok-clause-refused
returns-in-Ok-clause-refused c =
    iri_refused c.args.bytes.now c.args.lexeme c.args.self.now
    (λ start ts ps h. goes_on_now start (ts ++ c.args.lexeme.symbol ∷ []) (ps ++ produced_by c.step.new.self) c.step.new.self (c.in-Ok.ensures.read start ts ps h))
    c.in-Err.fault c.in-Err.ensures.fault

pub returns-in-Err-Grammar-clause-refused : goal.returns-in-Err-Grammar-clause-refused
returns-in-Err-Grammar-clause-refused c =
    let stops = subst (λ (r : Refusal). IsRefused r c.args.lexeme.symbol c.args.self.now.machine) c.in-Err-Grammar.field-0-is c.in-Err-Grammar.ensures.refused in
    rw c.fault_at.ensures (λ start base ls ps ms h. grammar_here start base c.args.bytes.now ls ps ms c.args.self.now h c.args.lexeme stops)

pub returns-in-Ok-meaning-2-clause-refused : goal.returns-in-Ok-meaning-2-clause-refused
returns-in-Ok-meaning-2-clause-refused c =
    let deep = subst (λ (r : Refusal). IsRefused r c.args.lexeme.symbol c.args.self.now.machine) c.in-Err-Depth.field-0-is c.in-Err-Depth.ensures.refused in
    rw c.fault_at-in-Ok-meaning-2.ensures (λ start base ls ps ms h. deep_here start base c.args.bytes.now ls ps ms c.args.self.now h
    c.args.lexeme c.in-Ok-meaning-2.field-0 deep c.in-Ok-meaning-2.ensures.meaning)

pub returns-in-Err-Depth-clause-refused : goal.returns-in-Err-Depth-clause-refused
returns-in-Err-Depth-clause-refused c =
    let deep = subst (λ (r : Refusal). IsRefused r c.args.lexeme.symbol c.args.self.now.machine) c.in-Err-Depth.field-0-is c.in-Err-Depth.ensures.refused in
    iri_refused c.args.bytes.now c.args.lexeme c.args.self.now
    (λ start ts ps h. (deep start ts ps h).0)
    c.in-Err-meaning.fault c.in-Err-meaning.ensures.fault

pub returns-in-Ok-meaning-clause-string : goal.returns-in-Ok-meaning-clause-string
returns-in-Ok-meaning-clause-string c quoted =
    subst HasString (sym c.in_ok-keep-in-Ok-meaning.ensures.machine) (c.in-Ok.ensures.string quoted)
