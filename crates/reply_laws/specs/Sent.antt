-- Which responses can be written as HTTP (RFC 9110, sections 5.5 and 15; RFC 9112, sections 4
-- and 5).
use Rattle.std.specs.Prelude.{◌≤◌, ◌<◌}
use Rattle.http_out.specs.Text.{AreFieldLines}
use Rattle.pod_base.specs.declared.response.Response.{Response}

-- No field breaks its line, and the status has three digits.
pub record IsSent (response : Response) : Type 0 where
  pub fields : AreFieldLines response.fields
  pub least : 100 ≤ response.status
  pub most : response.status < 600
