-- Who makes a request, by its Authorization field (RFC 6750, section 2.1).
use Rattle.std.specs.Prelude.{ℕ, Bool, nat_lt, if◌then◌else◌, List, take, drop, find, count_by}
use Rattle.std.specs.Prelude.{Option, Some, None, codes}
use Rattle.std.specs.Option.{option_and_then}
use Rattle.std.specs.Str.{str_eq_ignore_ascii_case}
use Rattle.pod_base.specs.Fields.{is_named}
use Rattle.pod_base.specs.declared.field.Field.{Field}
use Rattle.token_table.specs.TableLines.{agent_in}
use Rattle.token_table.specs.declared.table_line.TokenEntry.{TokenEntry}
use Rattle.token_table.specs.declared.authorization_field.Asked.{Asked}
use Rattle.token_table.specs.declared.authorization_field.Asked.TheVariants.{Public, Known, Refused}

-- anybody, an agent, or nobody who is accepted
pub data AskedAgent : Type 0 where
  public refused : AskedAgent
  known : List ℕ → AskedAgent

abbrev pub asked_view : Asked → AskedAgent
asked_view Public = public
asked_view (Known agent) = known agent.now
asked_view Refused = refused

-- Bearer in any case, one space, and the token
abbrev pub bearer_token : List ℕ → Option (List ℕ)
bearer_token value =
    if str_eq_ignore_ascii_case (take 7 value) (codes "Bearer ") then Some (drop 7 value) else None

-- the agent whose token the value has
abbrev pub bearer : List TokenEntry → List ℕ → Option (List ℕ)
bearer table value = option_and_then (agent_in table) (bearer_token value)

abbrev pub known_or_refused : Option (List ℕ) → AskedAgent
known_or_refused None = refused
known_or_refused (Some agent) = known agent

abbrev pub asked_by : List TokenEntry → Option Field → AskedAgent
asked_by table None = public
asked_by table (Some field) = known_or_refused (bearer table field.value)

abbrev pub is_authorization : Field → Bool
is_authorization field = is_named (codes "authorization") field

-- who makes a request with these fields
abbrev pub asked_of : List TokenEntry → List Field → AskedAgent
asked_of table fields =
    if nat_lt 1 (count_by is_authorization fields) then refused
    else asked_by table (find is_authorization fields)
