-- The responses to requests whose body means nothing (RFC 9110, section 15.5).
use Rattle.std.specs.Prelude.{ℕ, List, ◌++◌, codes, decimal}
use Rattle.pod_base.specs.declared.method.Method.{Method}
use Rattle.pod_base.specs.declared.response.Response.{Response}
use Rattle.pod_responses.specs.Responses.{refusal, unsupported}
use Rattle.n3_patch.specs.declared.fault.PatchRule.{PatchRule}
use Rattle.n3_patch.specs.declared.fault.PatchRule.TheVariants as rules
use Rattle.request_body.specs.declared.fault.BodyFault.{BodyFault}
use Rattle.request_body.specs.declared.fault.BodyFault.TheVariants.{NoType, UnsupportedType, Syntax}
use Rattle.request_body.specs.declared.fault.BodyFault.TheVariants.{Json, Rule, GraphSize}

abbrev pub fault_status : BodyFault → ℕ
fault_status NoType = 400
fault_status UnsupportedType = 415
fault_status (Syntax at) = 400
fault_status Json = 400
fault_status (Rule rule) = 422
fault_status GraphSize = 413

abbrev pub rule_name : PatchRule → List ℕ
rule_name rules.NoPatch = codes "NoPatch"
rule_name rules.ManyPatches = codes "ManyPatches"
rule_name rules.Repeated = codes "Repeated"
rule_name rules.NotFormula = codes "NotFormula"
rule_name rules.Stray = codes "Stray"
rule_name rules.Nested = codes "Nested"
rule_name rules.BlankNode = codes "BlankNode"
rule_name rules.FreeVariable = codes "FreeVariable"
rule_name rules.TooManyConditions = codes "TooManyConditions"

abbrev pub fault_word : BodyFault → List ℕ
fault_word NoType = codes "no-type"
fault_word UnsupportedType = codes "type"
fault_word (Syntax at) = codes "syntax " ++ decimal at
fault_word Json = codes "json"
fault_word (Rule rule) = codes "patch " ++ rule_name rule
fault_word GraphSize = codes "graph-size"

-- The refusal of a request; that of a type lists the accepted types.
abbrev pub refusal_of : Method → List ℕ → BodyFault → Response
refusal_of method path UnsupportedType = unsupported method path
refusal_of method path fault = refusal (fault_status fault) (fault_word fault)
