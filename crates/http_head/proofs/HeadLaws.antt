-- Laws of heads: a text parses to one head at most, or has one fault, and each text has a head or a fault.
use Rattle.std.proofs.Common.{◌≡◌, ◌⊎◌, inl, inr, ℕ, ◌≤◌, List, [], refl, sym, ap, ◌∙◌, arith}
use Rattle.std.proofs.lemmas.Bool.{cases_lt, cases_eq}
use Rattle.httparse.specs.Grammar as grammar
use Rattle.httparse.proofs.GrammarLemmas.{request_unique}
use Rattle.http_head.specs.declared.request_head.RequestHead.{RequestHead}
use Rattle.http_head.specs.declared.head_parser.TheConstants.{HEAD_LINE_LIMIT}
use Rattle.http_head.specs.Heads.{HasParts, HasTooManyLines, IsMalformedHead, LacksHost, ParsesTo, line_count, host_count, lines_of, head_of}

-- the heads of one text are one
pub same_head : (head : List ℕ) (h k : grammar.RequestHead) → HasParts head h → HasParts head k → h ≡ k
same_head head h k x y = (request_unique head h k [] [] x.reads y.reads).0

-- a text parses to one head
pub one_parsed_head : (head : List ℕ) (a b : RequestHead) → ParsesTo head a → ParsesTo head b → a ≡ b
one_parsed_head head a b x y = x.is ∙ ap head_of (same_head head x.parts y.parts x.whole y.whole) ∙ sym y.is

-- a text that lacks its host parses to no head
pub lacks_no_head : (head : List ℕ) (parsed : RequestHead) → LacksHost head → ParsesTo head parsed → ⊥
lacks_no_head head parsed h s =
    let same : h.parts ≡ s.parts = same_head head h.parts s.parts h.whole s.whole in
    h.hosts (ap (λ (p : grammar.RequestHead). host_count (lines_of p)) same ∙ s.hosts (sym (ap (λ (p : grammar.RequestHead). p.minor) same) ∙ h.minor))

-- a head with too many lines parses to nothing, and neither does a malformed one
pub many_no_head : (head : List ℕ) (parsed : RequestHead) → HasTooManyLines head → ParsesTo head parsed → ⊥
many_no_head head parsed h s = omega (arith, h, s.lines)

pub malformed_no_head : (head : List ℕ) (parsed : RequestHead) → IsMalformedHead head → ParsesTo head parsed → ⊥
malformed_no_head head parsed h s = h.never s.parts s.whole

-- two faults exclude each other
pub many_not_malformed : (head : List ℕ) → HasTooManyLines head → IsMalformedHead head → ⊥
many_not_malformed head h s = omega (arith, h, s.lines)

pub many_not_lacking : (head : List ℕ) → HasTooManyLines head → LacksHost head → ⊥
many_not_lacking head h s = omega (arith, h, s.lines)

pub malformed_not_lacking : (head : List ℕ) → IsMalformedHead head → LacksHost head → ⊥
malformed_not_lacking head h s = h.never s.parts s.whole

-- One of the four findings holds of each text.
module _ (head : List ℕ) (not_many : HasTooManyLines head → ⊥) (not_malformed : IsMalformedHead head → ⊥) (not_lacking : LacksHost head → ⊥)
    (not_parsed : (parsed : RequestHead) → ParsesTo head parsed → ⊥) where
  few : line_count head ≤ HEAD_LINE_LIMIT
  few = elim (cases_lt HEAD_LINE_LIMIT (line_count head)) [ inl many ↦ absurd (not_many many) | inr fits ↦ fits ]

  parses : (parts : grammar.RequestHead) → HasParts head parts → (parts.minor ≡ 1 → host_count (lines_of parts) ≡ 1) → ⊥
  parses parts whole hosts = not_parsed (head_of parts) (record { lines = few; parts = parts; whole = whole; hosts = hosts; is = refl })

  by_hosts : (parts : grammar.RequestHead) → HasParts head parts → (parts.minor ≡ 1) ⊎ (parts.minor ≡ 1 → ⊥)
      → (host_count (lines_of parts) ≡ 1) ⊎ (host_count (lines_of parts) ≡ 1 → ⊥) → ⊥
  by_hosts parts whole (inr other) hosts = parses parts whole (λ one. absurd (other one))
  by_hosts parts whole (inl one) (inl hosts) = parses parts whole (λ same. hosts)
  by_hosts parts whole (inl one) (inr hosts) = not_lacking (record { lines = few; parts = parts; whole = whole; minor = one; hosts = hosts })

  pub some_finding : ⊥
  some_finding = not_malformed (record { lines = few; never = λ parts whole. by_hosts parts whole (cases_eq parts.minor 1) (cases_eq (host_count (lines_of parts)) 1) })
