use Rattle.std.proofs.Common.{◌≡◌, ℕ, List, Option, true, false, cond, Some, None, sym, ◌∙◌, refl}
use Rattle.std.specs.Prelude.{bytes_eq}
use Rattle.pod_base.specs.declared.agent.Mode.{Mode}
use Rattle.pod_base.specs.declared.agent.Mode.TheVariants.{Read, Append, Write, Control}
use Rattle.acl_rules.specs.Rules.{mode_of}
use Rattle.acl_rules.specs.Vocabulary.{acl_read, acl_append, acl_write, acl_control}
use Rattle.acl_rules.proofs.Choices.{chosen, passed}
use Rattle.acl_rules.proofs.rule_statements.mode_of.Goals as goal

-- the chain of tests from each of them on
abbrev from_control : List ℕ → Option Mode
from_control iri = cond (bytes_eq iri acl_control) (Some Control) None

abbrev from_write : List ℕ → Option Mode
from_write iri = cond (bytes_eq iri acl_write) (Some Write) (from_control iri)

abbrev from_append : List ℕ → Option Mode
from_append iri = cond (bytes_eq iri acl_append) (Some Append) (from_write iri)

no_read : (iri : List ℕ) (found : Option Mode) → bytes_eq iri acl_read ≡ false → found ≡ from_append iri → found ≡ mode_of iri
no_read iri found e f = passed (bytes_eq iri acl_read) (Some Read) found (from_append iri) e f

no_append : (iri : List ℕ) (found : Option Mode) → bytes_eq iri acl_read ≡ false → bytes_eq iri acl_append ≡ false → found ≡ from_write iri → found ≡ mode_of iri
no_append iri found a b f = no_read iri found a (passed (bytes_eq iri acl_append) (Some Append) found (from_write iri) b f)

no_write : (iri : List ℕ) (found : Option Mode) → bytes_eq iri acl_read ≡ false → bytes_eq iri acl_append ≡ false → bytes_eq iri acl_write ≡ false → found ≡ from_control iri → found ≡ mode_of iri
no_write iri found a b c f = no_append iri found a b (passed (bytes_eq iri acl_write) (Some Write) found (from_control iri) c f)

pub returns-then-eq : goal.returns-then-eq
unfolding acl_read
returns-then-eq c =
    let read : bytes_eq c.args.iri.now acl_read ≡ true = sym c.eq.ensures ∙ c.if-eq.true in
    chosen (bytes_eq c.args.iri.now acl_read) (Some Read) (from_append c.args.iri.now) read

pub returns-then-eq-2 : goal.returns-then-eq-2
unfolding acl_read acl_append
returns-then-eq-2 c =
    let read : bytes_eq c.args.iri.now acl_read ≡ false = sym c.eq.ensures ∙ c.if-eq.false in
    let append : bytes_eq c.args.iri.now acl_append ≡ true = sym c.eq-else-eq.ensures ∙ c.if-eq-2.true in
    no_read c.args.iri.now (Some Append) read (chosen (bytes_eq c.args.iri.now acl_append) (Some Append) (from_write c.args.iri.now) append)

pub returns-then-eq-3 : goal.returns-then-eq-3
unfolding acl_read acl_append acl_write
returns-then-eq-3 c =
    let read : bytes_eq c.args.iri.now acl_read ≡ false = sym c.eq.ensures ∙ c.if-eq.false in
    let append : bytes_eq c.args.iri.now acl_append ≡ false = sym c.eq-else-eq.ensures ∙ c.if-eq-2.false in
    let write : bytes_eq c.args.iri.now acl_write ≡ true = sym c.eq-else-eq-2.ensures ∙ c.if-eq-3.true in
    no_append c.args.iri.now (Some Write) read append (chosen (bytes_eq c.args.iri.now acl_write) (Some Write) (from_control c.args.iri.now) write)

pub returns-then-eq-4 : goal.returns-then-eq-4
unfolding acl_read acl_append acl_write acl_control
returns-then-eq-4 c =
    let read : bytes_eq c.args.iri.now acl_read ≡ false = sym c.eq.ensures ∙ c.if-eq.false in
    let append : bytes_eq c.args.iri.now acl_append ≡ false = sym c.eq-else-eq.ensures ∙ c.if-eq-2.false in
    let write : bytes_eq c.args.iri.now acl_write ≡ false = sym c.eq-else-eq-2.ensures ∙ c.if-eq-3.false in
    let control : bytes_eq c.args.iri.now acl_control ≡ true = sym c.eq-else-eq-3.ensures ∙ c.if-eq-4.true in
    no_write c.args.iri.now (Some Control) read append write (chosen (bytes_eq c.args.iri.now acl_control) (Some Control) None control)

pub returns-else-eq-4 : goal.returns-else-eq-4
unfolding acl_read acl_append acl_write acl_control
returns-else-eq-4 c =
    let read : bytes_eq c.args.iri.now acl_read ≡ false = sym c.eq.ensures ∙ c.if-eq.false in
    let append : bytes_eq c.args.iri.now acl_append ≡ false = sym c.eq-else-eq.ensures ∙ c.if-eq-2.false in
    let write : bytes_eq c.args.iri.now acl_write ≡ false = sym c.eq-else-eq-2.ensures ∙ c.if-eq-3.false in
    let control : bytes_eq c.args.iri.now acl_control ≡ false = sym c.eq-else-eq-3.ensures ∙ c.if-eq-4.false in
    no_write c.args.iri.now None read append write (passed (bytes_eq c.args.iri.now acl_control) (Some Control) None None control refl)
