use Rattle.std.proofs.Common.{◌≡◌, ℕ, ◌-◌, ◌≤◌, ◌++◌, List, length, take, min, refl, sym, ap, subst, ◌∙◌, arith, length-append}
use Rattle.std.proofs.lemmas.List.{length-take-le, take-take, take_min}
use Rattle.http_head.specs.declared.head_ends.HeadEnd.TheVariants.{Whole, NotYet, TooLong}
use Rattle.http_head.specs.HeadEnds.{head_end}
use Rattle.http_head.specs.HeadScan.{HasScanned}
use Rattle.http_conn.specs.declared.parser_state.PartialHead.{PartialHead}
use Rattle.http_conn.specs.declared.parser_state.ParserState.TheVariants.{Head}
use Rattle.http_conn.specs.ParserSteps.{StepsAfter}
use Rattle.http_head.proofs.HeadEndLaws.{whole_prefix, whole_within, ends_later, not_yet_short}
use Rattle.http_conn.proofs.StepLemmas.{refuses_long, head_waits, front_of_kept}
use Rattle.http_conn.proofs.head_step.continue_head.Goals as goal

-- the bytes after those that were kept
window_of : (kept bytes window : List ℕ) (most : ℕ) → window ≡ take most bytes → length window ≡ min most (length bytes) → kept ++ window ≡ kept ++ take (length window) bytes
window_of kept bytes window most is len = ap (λ w. kept ++ w) (is ∙ sym (take_min most bytes) ∙ sym (ap (λ n. take n bytes) len))

front_of : (kept bytes window : List ℕ) (most n : ℕ) → window ≡ take most bytes → length window ≡ min most (length bytes) → length kept ≤ n → n ≤ length (kept ++ window)
    → take n (kept ++ window) ≡ kept ++ take (n - length kept) bytes
front_of kept bytes window most n is len more there =
    let few : n - length kept ≤ most = omega (arith, length-append kept window, len, there, more) in
    front_of_kept kept window n more
    ∙ ap (λ w. kept ++ take (n - length kept) w) is
    ∙ ap (λ w. kept ++ w) (take-take (n - length kept) most bytes few)

-- the head is complete by itself
pub parse_head-requires : goal.parse_head-requires
parse_head-requires c =
    let b : List ℕ = c.args.partial.bytes in
    let w : List ℕ = c.prefix_up_to-window.result.now in
    let len : ℕ = c.in-Whole.len in
    let text_is : c.as_slice.result.now ≡ b ++ w = c.as_slice.ensures ∙ c.in_ok-append.ensures.appended in
    let ends : head_end (b ++ w) ≡ Whole len = ap head_end (sym text_is) ∙ sym c.in-Whole.ensures.exact in
    let fr : c.prefix.result.now ≡ take len (b ++ w) = c.prefix.ensures ∙ ap (take len) (c.as_slice-in-Whole.ensures ∙ c.in_ok-append.ensures.appended) in
    let count : len ≡ length (take len (b ++ w)) = sym (length-take-le len (b ++ w) (whole_within (b ++ w) len ends)) in
    ap head_end fr ∙ whole_prefix (b ++ w) len ends ∙ ap Whole (count ∙ ap length (sym fr))

-- it ends after what was kept
pub overflow_sub-result : goal.overflow_sub-result
overflow_sub-result c =
    let b : List ℕ = c.args.partial.bytes in
    let w : List ℕ = c.prefix_up_to-window.result.now in
    let text_is : c.as_slice.result.now ≡ b ++ w = c.as_slice.ensures ∙ c.in_ok-append.ensures.appended in
    let ends : head_end (b ++ w) ≡ Whole c.in-Whole.len = ap head_end (sym text_is) ∙ sym c.in-Whole.ensures.exact in
    let later = ends_later b w c.in-Whole.len c.requires.sound.0 ends in
    omega (arith, later)

pub returns-in_ok-next-in-Whole-clause-taken : goal.returns-in_ok-next-in-Whole-clause-taken
returns-in_ok-next-in-Whole-clause-taken c =
    let b : List ℕ = c.args.partial.bytes in
    let w : List ℕ = c.prefix_up_to-window.result.now in
    let text_is : c.as_slice.result.now ≡ b ++ w = c.as_slice.ensures ∙ c.in_ok-append.ensures.appended in
    let ends : head_end (b ++ w) ≡ Whole c.in-Whole.len = ap head_end (sym text_is) ∙ sym c.in-Whole.ensures.exact in
    let later = ends_later b w c.in-Whole.len c.requires.sound.0 ends in
    let there = whole_within (b ++ w) c.in-Whole.len ends in
    (omega (arith, later), omega (arith, later, there, length-append b w, c.prefix_up_to-window.ensures.len))

pub returns-in_ok-next-in-Whole-clause-parses : goal.returns-in_ok-next-in-Whole-clause-parses
returns-in_ok-next-in-Whole-clause-parses c =
    let b : List ℕ = c.args.partial.bytes in
    let w : List ℕ = c.prefix_up_to-window.result.now in
    let len : ℕ = c.in-Whole.len in
    let text_is : c.as_slice.result.now ≡ b ++ w = c.as_slice.ensures ∙ c.in_ok-append.ensures.appended in
    let ends : head_end (b ++ w) ≡ Whole len = ap head_end (sym text_is) ∙ sym c.in-Whole.ensures.exact in
    let later = ends_later b w len c.requires.sound.0 ends in
    let there = whole_within (b ++ w) len ends in
    let fr : c.prefix.result.now ≡ take len (b ++ w) = c.prefix.ensures ∙ ap (take len) (c.as_slice-in-Whole.ensures ∙ c.in_ok-append.ensures.appended) in
    let cut = front_of b c.args.bytes.now w c.saturating_sub.result len c.prefix_up_to-window.ensures.bytes c.prefix_up_to-window.ensures.len (omega (arith, later)) there in
    let kept : len - length b ≡ len - c.len-kept.result = omega arith in
    subst (λ left. StepsAfter c.args.partial.count left c.args.events.now.items c.in_ok-next-in-Whole.next c.parse_head.new.events.items)
    (fr ∙ cut ∙ ap (λ n. b ++ take n c.args.bytes.now) kept) c.in_ok-next-in-Whole.ensures.parses

-- it is too long
pub returns-in_ok-next-in-TooLong-clause-parses : goal.returns-in_ok-next-in-TooLong-clause-parses
returns-in_ok-next-in-TooLong-clause-parses c =
    let b : List ℕ = c.args.partial.bytes in
    let w : List ℕ = c.prefix_up_to-window.result.now in
    let old_events = c.args.events.now.items in
    let events = c.refuse.new.events.items in
    let text_is : c.as_slice.result.now ≡ b ++ w = c.as_slice.ensures ∙ c.in_ok-append.ensures.appended in
    let ends : head_end (b ++ w) ≡ TooLong = ap head_end (sym text_is) ∙ sym c.in-TooLong.ensures.exact in
    let cut = window_of b c.args.bytes.now w c.saturating_sub.result c.prefix_up_to-window.ensures.bytes c.prefix_up_to-window.ensures.len in
    subst (λ left. StepsAfter c.args.partial.count left old_events c.in_ok-next-in-TooLong.next events) cut
    (subst (λ s. StepsAfter c.args.partial.count (b ++ w) old_events s events) (sym c.in_ok-next-in-TooLong.ensures.closed)
    (refuses_long c.args.partial.count (b ++ w) old_events events ends c.in_ok-next-in-TooLong.ensures.pushed))

-- it has not ended
pub returns-in-NotYet-clause-taken : goal.returns-in-NotYet-clause-taken
returns-in-NotYet-clause-taken c =
    let short = not_yet_short c.args.partial.bytes c.requires.sound.0 in
    (omega (arith, short, c.prefix_up_to-window.ensures.len, c.saturating_sub.ensures), omega (arith, c.prefix_up_to-window.ensures.len))

pub returns-in-NotYet-clause-parses : goal.returns-in-NotYet-clause-parses
returns-in-NotYet-clause-parses c =
    let b : List ℕ = c.args.partial.bytes in
    let w : List ℕ = c.prefix_up_to-window.result.now in
    let old_events = c.args.events.now.items in
    let text_is : c.as_slice.result.now ≡ b ++ w = c.as_slice.ensures ∙ c.in_ok-append.ensures.appended in
    let ends : head_end (b ++ w) ≡ NotYet = ap head_end (sym text_is) ∙ sym c.in-NotYet.ensures.exact in
    let seen : HasScanned c.scan.new.self (b ++ w) = subst (HasScanned c.scan.new.self) text_is c.in-NotYet.ensures.scanned in
    let new : PartialHead = record { bytes = c.append.new.self; search = c.scan.new.self; count = c.args.partial.count } in
    let cut = window_of b c.args.bytes.now w c.saturating_sub.result c.prefix_up_to-window.ensures.bytes c.prefix_up_to-window.ensures.len in
    subst (λ left. StepsAfter c.args.partial.count left old_events (Head new) old_events) cut
    (head_waits c.args.partial.count (b ++ w) old_events new c.in_ok-append.ensures.appended ends seen refl)
