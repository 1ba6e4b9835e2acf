-- A text that is one request and nothing else.
use Rattle.std.specs.Prelude.{◌≡◌, ℕ, List, [], ◌∷◌, length, drop}
use Rattle.pod_base.specs.declared.request.Request.{Request}
use Rattle.pod_base.specs.declared.heard.Heard.TheVariants as heard
use Rattle.http_head.specs.HeadEnds.{blank_length}
use Rattle.http_conn.specs.Messages.{IsFirstRequest, Messages}

-- the bytes are empty lines alone (RFC 9112, section 2.2)
abbrev pub AreEmptyLines : List ℕ → Type 0
AreEmptyLines bytes = blank_length bytes ≡ length bytes

-- The request is the only event of the text, so it waits for no interim, and only empty lines
-- follow it: also where it closes the connection, which would end the events whatever follows.
pub record IsOneRequest (text : List ℕ) (request : Request) : Type 0 where
  pub messages : Messages text (heard.Request request ∷ []) 0
  pub len : ℕ
  pub first : IsFirstRequest text request len
  pub empty_lines : AreEmptyLines (drop len text)
