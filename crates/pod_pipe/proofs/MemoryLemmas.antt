-- A pod in memory after one request more.
use Rattle.std.proofs.Common.{◌≡◌, ℕ, ◌+◌, Bool, if◌then◌else◌, length, max, Option, IfSome, sym, ap, subst, ◌∙◌}
use Rattle.std.specs.Option.{option_map, option_map_or, option_to_list}
use Rattle.pod_base.specs.declared.moment.Moment.{Moment}
use Rattle.pod_base.specs.declared.moment.Stamp.{Stamp}
use Rattle.pod_base.specs.declared.request.Request.{Request}
use Rattle.pod_command.specs.Bare.{bare_entry}
use Rattle.pod_command.specs.declared.entry.Entry.{Entry}
use Rattle.pod_core.specs.History.{History, end_of, longer, pod_at, seconds_of}
use Rattle.pod_core.proofs.Histories.{end_grows, history_may_grow, moment_at_end, pod_at_end, replayed_more}
use Rattle.pod_reply.specs.Replies.{Reply}
use Rattle.pod_reply.specs.Reply.{IsReply}
use Rattle.pod_reply.specs.declared.response_and_entry.Replied.{Replied}
use Rattle.pod_rows.specs.Apply.{Applies, applied, replayed}
use Rattle.pod_rows.specs.Pod.{Pod}
use Rattle.reply_laws.specs.Granted.{is_change}
use Rattle.token_table.specs.Credentials.{AskedAgent}
use Rattle.pod_pipe.specs.Holders.{moment_of_request, stamp_of_request}
use Rattle.pod_pipe.specs.Memory.{IsMemoryOf}
use Rattle.pod_pipe.proofs.BareLemmas.{bare_applied, bare_applies, bare_count, bare_seconds}

module _ (pod : Pod) (next last : ℕ) (history : History) (k : IsMemoryOf pod next last history) where
  at_end : pod ≡ replayed history.first history.entries
  at_end = k.pod_is ∙ pod_at_end history

  -- the moment of a request there
  pub moment_is : (request : Request) (seconds moment : ℕ) (change : Bool) → change ≡ is_change request.method → moment ≡ (if change then max seconds last else seconds) → moment ≡ moment_of_request history request seconds
  moment_is request seconds moment change same is =
      is ∙ ap (λ b. if b then max seconds last else seconds) same ∙ ap (λ n. if is_change request.method then max seconds n else seconds) k.last_is

  -- the reply there
  pub reply_there : (request : Request) (asked : AskedAgent) (place : ℕ) (stamp : Stamp) (moment : Moment) (reply : Reply) → place ≡ next → moment.0 ≡ moment_of_request history request stamp.moment.0
      → IsReply pod request asked place (record stamp { moment = moment }) reply → IsReply (pod_at history (end_of history)) request asked (end_of history) (stamp_of_request history request stamp) reply
  reply_there request asked place stamp moment reply here is r =
      let stamps : record stamp { moment = moment } ≡ stamp_of_request history request stamp = λ i. record stamp { moment = record { 0 = is i } } in
      subst (λ (s : Stamp). IsReply (pod_at history (end_of history)) request asked (end_of history) s reply) stamps
      (subst (λ n. IsReply (pod_at history (end_of history)) request asked n (record stamp { moment = moment }) reply) (here ∙ k.next_is)
      (subst (λ (p : Pod). IsReply p request asked place (record stamp { moment = moment }) reply) k.pod_is r))

  -- with the entry of the reply
  pub memory_grows : (replied : Replied) (new_pod : Pod) (new_next new_last : ℕ) → IfSome replied.entry (Applies pod next) → new_pod ≡ option_map_or (applied pod) replied.entry pod
      → new_next ≡ next + length (option_to_list replied.entry) → new_last ≡ option_map_or seconds_of replied.entry last
      → IsMemoryOf new_pod new_next new_last (longer history (option_to_list (option_map bare_entry replied.entry)))
  memory_grows replied new_pod new_next new_last applies pod_now next_now last_now =
      let entry : Option Entry = option_map bare_entry replied.entry in
      let all : History = longer history (option_to_list entry) in
      let bare : IfSome entry (Applies pod next) = bare_applies pod next replied.entry applies in
      let there : IfSome entry (Applies (replayed history.first history.entries) (end_of history)) =
      subst (λ (p : Pod). IfSome entry (Applies p (end_of history))) at_end (subst (λ n. IfSome entry (Applies pod n)) k.next_is bare) in
      record {
        is_history = history_may_grow history entry k.is_history there;
        pod_is = pod_now ∙ bare_applied pod replied.entry ∙ ap (λ (p : Pod). option_map_or (applied p) entry p) at_end ∙ replayed_more history.first history.entries entry ∙ sym (pod_at_end all);
        next_is = next_now ∙ ap (λ n. next + n) (bare_count replied.entry) ∙ ap (λ n. n + length (option_to_list entry)) k.next_is ∙ sym (end_grows history (option_to_list entry));
        last_is = last_now ∙ bare_seconds replied.entry last ∙ moment_at_end history entry last k.last_is;
      }
