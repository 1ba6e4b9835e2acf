use Rattle.std.proofs.Common.{◌≡◌, ℕ, List, length, take, sym, ap, subst, ◌∙◌}
use Rattle.std.proofs.lemmas.List.{length-take-le}
use Rattle.std.proofs.Math.Seq.{take-length}
use Rattle.http_head.specs.declared.head_ends.HeadEnd.TheVariants.{Whole}
use Rattle.http_head.specs.HeadEnds.{head_end}
use Rattle.http_conn.specs.ParserSteps.{StepsAfter}
use Rattle.http_head.proofs.HeadEndLaws.{whole_prefix}
use Rattle.http_conn.proofs.StepLemmas.{refuses_long}
use Rattle.http_conn.proofs.head_step.start_head.Goals as goal

-- the head is complete by itself
pub parse_head-requires : goal.parse_head-requires
parse_head-requires c =
    let bytes : List ℕ = c.args.bytes.now in
    let len : ℕ = c.in-Whole.len in
    let count : len ≡ length (take len bytes) = sym (length-take-le len bytes c.in-Whole.ensures.len.1) in
    ap head_end c.prefix.ensures ∙ whole_prefix bytes len (sym c.in-Whole.ensures.exact) ∙ ap Whole (count ∙ ap length (sym c.prefix.ensures))

-- it is too long
pub returns-in_ok-next-in-TooLong-clause-parses : goal.returns-in_ok-next-in-TooLong-clause-parses
returns-in_ok-next-in-TooLong-clause-parses c =
    let bytes : List ℕ = c.args.bytes.now in
    let old_events = c.args.events.now.items in
    let all : take (length bytes) bytes ≡ bytes = take-length bytes in
    subst (λ left. StepsAfter c.args.count left old_events c.in_ok-next-in-TooLong.next c.refuse.new.events.items) (sym all)
    (subst (λ s. StepsAfter c.args.count bytes old_events s c.refuse.new.events.items) (sym c.in_ok-next-in-TooLong.ensures.closed)
    (refuses_long c.args.count bytes old_events c.refuse.new.events.items (sym c.in-TooLong.ensures.exact) c.in_ok-next-in-TooLong.ensures.pushed))
