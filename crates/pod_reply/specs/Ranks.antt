-- A rank of a request to a path: what it reads, and how it ends.
use Rattle.std.specs.Prelude.{◌≡◌, ℕ, Bool, true, false, List, Option, Some, None, Result, Ok, Err, is_ok}
use Rattle.pod_base.specs.Listed.{Listed}
use Rattle.pod_base.specs.declared.method.Method.{Method}
use Rattle.pod_base.specs.declared.method.Method.TheVariants.{Get, Head, Options}
use Rattle.pod_base.specs.declared.request.Request.{Request}
use Rattle.pod_base.specs.declared.response.Response.{Response}
use Rattle.pod_command.specs.declared.basis.Basis.{Basis}
use Rattle.pod_rows.specs.Pod.{Pod}
use Rattle.pod_reply.specs.Replies.{Reply, reply_of, unchanged}
use Rattle.pod_reply.specs.declared.origin.Origin.{Origin}
use Rattle.pod_reply.specs.declared.response_and_entry.Replied.{Replied}
use Rattle.pod_reply.specs.declared.stop.Stop.{Stop}
use Rattle.pod_reply.specs.declared.stop.Stop.TheVariants.{Refused, NoMemory}

-- What a rank reads.
pub record Case : Type 0 where
  pub pod : Pod
  pub request : Request
  pub path : List ℕ
  pub origin : Origin

abbrev pub case : Pod → Request → List ℕ → Origin → Case
case pod request path origin =
    record { pod = pod; request = request; path = path; origin = origin }

-- A rank stops with its refusal, where it has one, or goes on with such a value.
abbrev pub Passes : {A : Type 0} → Result A Stop → Option Response → (A → Type 0) → Type 0
Passes (Ok value) refusal P = (refusal ≡ None) × P value
Passes (Err (Refused response)) refusal P = refusal ≡ Some response
Passes (Err NoMemory) refusal P = Unit {0}

-- A rank stops with a refusal, or goes on with a value, of which this is told.
abbrev pub Tells : {A : Type 0} → Result A Stop → (Result A Response → Type 0) → Type 0
Tells (Ok value) P = P (Ok value)
Tells (Err (Refused response)) P = P (Err response)
Tells (Err NoMemory) P = Unit {0}

-- The ranks of a method, and its success, end in such a reply.
abbrev pub Ends : Result Replied Stop → (Reply → Type 0) → Type 0
Ends (Ok replied) P = P (reply_of replied)
Ends (Err (Refused response)) P = P (unchanged response)
Ends (Err NoMemory) P = Unit {0}

-- Does the method make no entry?
abbrev pub reads : Method → Bool
reads Get = true
reads Head = true
reads Options = true
reads _ = false

-- What is made of the decision on access: no bases where the method makes no entry.
abbrev pub IsGrant : Bool → Result (List Basis) Response → Result (Listed Basis) Response → Type 0
IsGrant reading access (Err response) = access ≡ Err response
IsGrant true access (Ok made) = is_ok access ≡ true
IsGrant false access (Ok made) = access ≡ Ok made.items
