use Rattle.std.proofs.Common.{◌≡◌, false, None, List, ℕ, subst, sym}
use Rattle.std.specs.Prelude.{IfNone, IfSome, Option}
use Rattle.http_conn.specs.SingleRequest.{IsOneRequest}
use Rattle.pod_base.specs.declared.request.Request.{Request}
use Rattle.reply_laws.specs.Granted.{is_change}
use Rattle.request_fields.specs.Upgrades.{upgrade_key}
use Rattle.podctl_commands.proofs.ReadForms.{same_request}
use Rattle.podctl_commands.proofs.follower_reads.request_of.Goals as goal

pub returns-else-is_read-clause-none : goal.returns-else-is_read-clause-none
returns-else-is_read-clause-none c = λ e request is.
    let one = subst (λ (o : Option Request). IfSome o (IsOneRequest c.args.bytes.now)) c.in-Some.is c.in_ok-request.ensures.some in
    let same = same_request c.args.bytes.now request c.in-Some.request c.one_parse.ensures is.one one in
    c.is_read.ensures.no c.if-is_read.false (subst (λ (r : Request). is_change r.method ≡ false) same is.no_change) (subst (λ (r : Request). upgrade_key r ≡ None) same is.no_upgrade)

pub returns-in-None-clause-none : goal.returns-in-None-clause-none
returns-in-None-clause-none c = λ e request is.
    subst (λ (o : Option Request). IfNone o ((r : Request) → IsOneRequest c.args.bytes.now r → ⊥)) c.in-None.is c.in_ok-request.ensures.none request is.one
