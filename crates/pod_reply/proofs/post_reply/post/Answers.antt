use Rattle.std.proofs.Common.{rules, Ok, Err, refl}
use Rattle.pod_reply.proofs.RankLemmas.{ends_weaker, handed_on, made_ends, refused_ends, told_ends}
use Rattle.pod_reply.proofs.post_reply.post.Goals as goal

pub returns-in_err-member : goal.returns-in_err-member
returns-in_err-member g c =
    let stop = c.in_err-member.field-0.0 in
    handed_on c.from_residual-in_err-member.result stop _ (search rules)
    (made_ends (Err stop) _ _ c.in_ok-find_row.ensures.0
    (told_ends stop _ _ (λ response named. record { named = Err response; is = named; follows = refl }) c.in_err-member.ensures))

pub returns-in_err-refuse_member : goal.returns-in_err-refuse_member
returns-in_err-refuse_member g c =
    let stop = c.in_err-refuse_member.field-0.0 in
    handed_on c.from_residual-in_err-refuse_member.result stop _ (search rules)
    (made_ends (Err stop) _ _ c.in_ok-find_row.ensures.0
    (ends_weaker (Err stop) _ _ (λ reply follows. record { named = Ok c.in_ok-member.member; is = c.in_ok-member.ensures; follows = follows })
    (refused_ends stop _ _ c.in_err-refuse_member.ensures)))

pub returns : goal.returns
returns g c =
    made_ends c.post_read.result _ _ c.in_ok-find_row.ensures.0
    (ends_weaker c.post_read.result _ _ (λ reply follows. record { named = Ok c.in_ok-member.member; is = c.in_ok-member.ensures; follows = follows })
    (made_ends c.post_read.result _ _ c.in_ok-refuse_member.ensures.0 c.post_read.ensures))
