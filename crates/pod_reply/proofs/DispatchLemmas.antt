-- What is admitted takes the method.
use Rattle.std.proofs.Common.{◌≡◌, ℕ, Bool, true, false, cond, List, Option, Some, None, Result, Ok, Err, refl, sym, ◌∙◌, ap}
use Rattle.pod_base.specs.declared.method.Method.{Method}
use Rattle.pod_base.specs.declared.method.Method.TheVariants as methods
use Rattle.pod_base.specs.declared.request.Request.{Request}
use Rattle.pod_base.specs.declared.response.Response.{Response}
use Rattle.pod_responses.specs.Allow.{is_allowed}
use Rattle.request_target.specs.Admission.{admitted, admitted_to, method_refusal, token_refusal, unless}
use Rattle.request_target.specs.Targets.{target_of}
use Rattle.request_target.specs.declared.target.Target.{Target}
use Rattle.request_target.specs.declared.target.Target.TheVariants.{Resource}
use Rattle.token_table.specs.Credentials.{AskedAgent}

allowed_by : (b : Bool) (response : Response) → cond b None (Some response) ≡ None → b ≡ true
allowed_by true response h = refl
allowed_by false response h = absurd cc

method_allowed : (path : List ℕ) (method : Method) → method_refusal (Resource path) method ≡ None
    → is_allowed path method ≡ true
method_allowed path methods.Post h = allowed_by _ _ h
method_allowed path methods.Delete h = allowed_by _ _ h
method_allowed path methods.Other h = absurd cc
method_allowed path _ h = refl

same_target : (a b : Target) → ◌≡◌ {A = Result Target Response} (Ok a) (Ok b) → a ≡ b
same_target a b h = cc

unless_allowed : (target : Target) (path : List ℕ) (method : Method) (token later : Option Response)
    → later ≡ method_refusal target method → unless target token later ≡ Ok (Resource path)
    → is_allowed path method ≡ true
unless_allowed target path method (Some response) later is h = absurd cc
unless_allowed target path method None (Some response) is h = absurd cc
unless_allowed target path method None None is h = method_allowed path method
    (ap (λ (t : Target). method_refusal t method) (sym (same_target target (Resource path) h)) ∙ sym is)

to_allowed : (asked : AskedAgent) (method : Method) (found : Result Target Response) (path : List ℕ)
    → admitted_to asked method found ≡ Ok (Resource path) → is_allowed path method ≡ true
to_allowed asked method (Ok target) path h =
    unless_allowed target path method (token_refusal asked) (method_refusal target method) refl h
to_allowed asked method (Err response) path h = absurd cc

pub admitted_allowed : (base : List ℕ) (request : Request) (asked : AskedAgent) (path : List ℕ)
    → admitted base request asked ≡ Ok (Resource path) → is_allowed path request.method ≡ true
admitted_allowed base request asked path h =
    to_allowed asked request.method (target_of base request.method request.target) path h
