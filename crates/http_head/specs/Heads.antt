-- What the head of a request parses to (RFC 9112, sections 3 and 5).
use Rattle.std.specs.Prelude.{◌≡◌, ℕ, ◌<◌, ◌≤◌, ◌==◌, if◌then◌else◌, List, [], length, drop, map}
use Rattle.std.specs.Prelude.{count_by, codes}
use Rattle.std.specs.Str.{bytes_eq, str_eq_ignore_ascii_case, str_to_ascii_lowercase}
use Rattle.httparse.specs.Grammar as grammar
use Rattle.httparse.specs.Grammar.{ReadsRequest}
use Rattle.httparse.specs.Spans.{name_and_value}
use Rattle.pod_base.specs.declared.field.Field.{Field}
use Rattle.pod_base.specs.declared.method.Method.{Method}
use Rattle.pod_base.specs.declared.method.Method.TheVariants.{Get, Head, Options, Post, Put, Patch}
use Rattle.pod_base.specs.declared.method.Method.TheVariants.{Delete, Other}
use Rattle.http_head.specs.declared.head_parser.TheConstants.{HEAD_LINE_LIMIT, FIELD_LIMIT}
use Rattle.http_head.specs.HeadEnds.{blank_length}
use Rattle.http_head.specs.declared.request_head.RequestHead.{RequestHead}

-- how many lines a head has from its request line on
abbrev pub line_count : List ℕ → ℕ
line_count head = count_by (λ b. b == 10) (drop (blank_length head) head)

-- the head is these parts by the grammar of RFC 9112, with at most FIELD_LIMIT fields
pub record HasParts (head : List ℕ) (parts : grammar.RequestHead) : Type 0 where
  pub reads : ReadsRequest head parts []
  pub room : length parts.fields ≤ FIELD_LIMIT

-- the method of a token (RFC 9110, section 9.1): case matters
abbrev pub method_of : List ℕ → Method
method_of word =
    if bytes_eq word (codes "GET") then Get else (
    if bytes_eq word (codes "HEAD") then Head else (
    if bytes_eq word (codes "OPTIONS") then Options else (
    if bytes_eq word (codes "POST") then Post else (
    if bytes_eq word (codes "PUT") then Put else (
    if bytes_eq word (codes "PATCH") then Patch else (
    if bytes_eq word (codes "DELETE") then Delete else Other))))))

-- names and values of the fields; a value has no white space around it
abbrev pub lines_of : grammar.RequestHead → List (List ℕ × List ℕ)
lines_of parts = map name_and_value parts.fields

-- the field of a name and a value: its name is in lower case
abbrev pub field_of : List ℕ × List ℕ → Field
field_of line = record { name = str_to_ascii_lowercase line.0; value = line.1 }

-- the head of these parts
abbrev pub head_with : List ℕ → List ℕ → ℕ → List (List ℕ × List ℕ) → RequestHead
head_with word target minor lines = record {
  method = method_of word;
  target = target;
  minor = minor;
  fields = map field_of lines;
}

abbrev pub head_of : grammar.RequestHead → RequestHead
head_of parts = head_with parts.method parts.target parts.minor (lines_of parts)

-- how many of the fields are Host, in any case
abbrev pub host_count : List (List ℕ × List ℕ) → ℕ
host_count lines = count_by (λ line. str_eq_ignore_ascii_case line.0 (codes "host")) lines

-- The four findings on a complete head. They exclude each other, and one of them holds.

-- too many lines
abbrev pub HasTooManyLines : List ℕ → Type 0
HasTooManyLines head = HEAD_LINE_LIMIT < line_count head

-- no head by the grammar
pub record IsMalformedHead (head : List ℕ) : Type 0 where
  pub lines : line_count head ≤ HEAD_LINE_LIMIT
  pub never : (parts : grammar.RequestHead) → HasParts head parts → ⊥

-- a head of HTTP/1.1 without exactly one Host (RFC 9112, section 3.2)
pub record LacksHost (head : List ℕ) : Type 0 where
  pub lines : line_count head ≤ HEAD_LINE_LIMIT
  pub parts : grammar.RequestHead
  pub whole : HasParts head parts
  pub minor : parts.minor ≡ 1
  pub hosts : host_count (lines_of parts) ≡ 1 → ⊥

-- a head that parses to this
pub record ParsesTo (head : List ℕ) (parsed : RequestHead) : Type 0 where
  pub lines : line_count head ≤ HEAD_LINE_LIMIT
  pub parts : grammar.RequestHead
  pub whole : HasParts head parts
  pub hosts : parts.minor ≡ 1 → host_count (lines_of parts) ≡ 1
  pub is : parsed ≡ head_of parts
