-- The reply to a request, from what a call says of it.
use Rattle.std.proofs.Common.{◌≡◌, ℕ, suc, ◌+◌, true, Option, Some, None, IfSome, refl, sym, ap, subst, ◌∙◌, arith}
use Rattle.std.specs.Option.{option_map}
use Rattle.pod_base.specs.declared.moment.Stamp.{Stamp}
use Rattle.pod_base.specs.declared.request.Request.{Request}
use Rattle.pod_command.specs.Bare.{bare_entry}
use Rattle.stored_forms.specs.Storable.{IsStorable}
use Rattle.stored_forms.specs.StoredForms.{entry_bytes, origin_bytes, request_bytes}
use Rattle.pod_command.specs.declared.entry.Entry.{Entry}
use Rattle.pod_core.specs.History.{History, end_of, pod_at}
use Rattle.pod_base.specs.declared.heard.Heard.TheVariants as heard
use Rattle.pod_core.specs.KeeperSteps.{Holder, item_at_end, stamp_at_end}
use Rattle.pod_core.specs.Session.{Item, answered}
use Rattle.pod_core.specs.World.{Connection, IsNextEvent, next_stamp, request_number}
use Rattle.pod_reply.specs.Replies.{Reply, reply_of}
use Rattle.pod_reply.specs.declared.response_and_entry.Replied.{Replied}
use Rattle.pod_reply.specs.Reply.{IsReply}
use Rattle.pod_rows.specs.Apply.{Applies}
use Rattle.pod_rows.specs.Pod.{Pod}
use Rattle.reply_laws.specs.Granted.{is_change}
use Rattle.token_table.specs.Credentials.{AskedAgent}
use Rattle.request_history.specs.Answers.{item_of}
use Rattle.request_history.specs.Reads.{Becomes, ChangesAs, ReplyBecomes}
use Rattle.request_history.specs.declared.next_change.Change.{Change}
use Rattle.request_history.specs.declared.next_change.Change.TheVariants as outcomes

-- a pod, the agent, the number of the next change and the stamp
abbrev Asking : Type 0
Asking = Pod × AskedAgent × ℕ × Stamp

module _ (request : Request) (reply : Reply) where
  pub reply_as : (pod pod' : Pod) (asked asked' : AskedAgent) (place place' : ℕ) (stamp stamp' : Stamp) → pod ≡ pod' → asked ≡ asked' → place ≡ place' → stamp ≡ stamp'
      → IsReply pod request asked place stamp reply → IsReply pod' request asked' place' stamp' reply
  reply_as pod pod' asked asked' place place' stamp stamp' p a n s h =
      subst (λ (x : Asking). IsReply x.0 request x.1 x.2 x.3 reply) (λ i. (p i, a i, n i, s i)) h

-- the entry without spare room applies where the entry does
bare_applies : (pod : Pod) (next : ℕ) (entry : Entry) → Applies pod next entry → Applies pod next (bare_entry entry)
bare_applies pod next entry a = record { number = a.number; numbered = a.numbered; rows = a.rows; edits = a.edits; well_formed = a.well_formed }

pub bare_applies_if : (pod : Pod) (next : ℕ) (o : Option Entry) → IfSome o (Applies pod next) → IfSome (option_map bare_entry o) (Applies pod next)
bare_applies_if pod next None a = tt
bare_applies_if pod next (Some entry) a = bare_applies pod next entry a

pub applies_as : (o : Option Entry) (pod pod' : Pod) (next next' : ℕ) → pod ≡ pod' → next ≡ next' → IfSome o (Applies pod next) → IfSome o (Applies pod' next')
applies_as o pod pod' next next' p n h = subst (λ (x : Pod × ℕ). IfSome o (Applies x.0 x.1)) (λ i. (p i, n i)) h

-- ---- the record of an entry

pub bare_bytes : (entry : Entry) → entry_bytes (bare_entry entry) ≡ entry_bytes entry
unfolding entry_bytes origin_bytes request_bytes
bare_bytes entry = refl

pub bare_storable : (entry : Entry) → IsStorable entry → IsStorable (bare_entry entry)
bare_storable entry s = record { seq = s.seq; conn = s.conn; number = s.number; agent = s.agent; moment = s.moment; method = s.method; path = s.path; edits = s.edits; bases = s.bases }

-- ---- what becomes of a change

-- with an entry
module _ (conn number moment place : ℕ) (request kept_request : Request) (asked : AskedAgent) (replied : Replied) (entry kept : Entry) (same : kept_request ≡ request) (is : replied.entry ≡ Some entry) (k : kept ≡ bare_entry entry) (storable : IsStorable kept) where
  has : (reply_of replied).entry ≡ Some kept
  has = ap (option_map bare_entry) is ∙ ap Some (sym k)

  abbrev holder : Holder
  holder = record {
    conn = suc conn;
    item = item_of kept_request number asked moment place (record { response = replied.response; entry = Some kept });
    entry = kept;
  }

  pub becomes_held : Becomes (suc conn) (item_of request number asked moment place (reply_of replied)) (reply_of replied) (outcomes.Held holder)
  becomes_held = (
    has,
    λ i. record {
      conn = suc conn;
      item = item_of (same i) number asked moment place (record { response = replied.response; entry = sym has i });
      entry = kept;
    },
    storable,
  )

-- without one
pub no_entry : (replied : Replied) → replied.entry ≡ None → (reply_of replied).entry ≡ None
no_entry replied is = ap (option_map bare_entry) is

module _ (history : History) (request : Request) (asking : Request → AskedAgent) (stamp after : Stamp) (s : after ≡ stamp_at_end history stamp) (asked : AskedAgent) (a : asked ≡ asking request) (place : ℕ) (p : place ≡ end_of history) (reply : Reply) where
  item_is : item_of request after.number asked after.moment.0 place reply ≡ item_at_end history request (asking request) stamp reply
  item_is = λ i. record {
    request = request;
    number = (s i).number;
    asked = a i;
    moment = (s i).moment.0;
    outcome = answered (p i) reply;
  }

  pub reply_becomes : (conn : ℕ) → stamp.conn ≡ suc conn → (change : Change) (pod : Pod) (view : AskedAgent) → pod ≡ pod_at history place → view ≡ asking request → IsReply pod request view place after reply → IfSome reply.entry (Applies pod place)
      → Becomes (suc conn) (item_of request after.number asked after.moment.0 place reply) reply change → ReplyBecomes asking history request stamp change
  reply_becomes conn number change pod view v w h applies b =
      let at : pod ≡ pod_at history (end_of history) = v ∙ ap (pod_at history) p in
      record {
        reply = reply;
        is_reply = reply_as request reply pod (pod_at history (end_of history)) view (asking request) place (end_of history) after (stamp_at_end history stamp) at w p s h;
        applies = applies_as reply.entry pod (pod_at history (end_of history)) place (end_of history) at p applies;
        becomes = subst (λ (x : ℕ × Item). Becomes x.0 x.1 reply change) (λ i. (sym number i, item_is i)) b;
      }

-- a change that is next
module _ (asking : Request → AskedAgent) (history : History) (conn moment : ℕ) (from : Connection) (request : Request) (next : IsNextEvent from (heard.Request request)) (changes : is_change request.method ≡ true) where
  pub changes_as : (stamp : Stamp) → stamp ≡ next_stamp conn from moment → (change : Change) → ReplyBecomes asking history request stamp change → ChangesAs asking history conn moment from change
  changes_as stamp s outcomes.Stays b = absurd b.becomes
  changes_as stamp s (outcomes.Held holder) b =
      record { request = request; next = next; changes = changes; becomes = subst (λ (t : Stamp). ReplyBecomes asking history request t (outcomes.Held holder)) s b }
  changes_as stamp s (outcomes.Answered answer) b =
      record { request = request; next = next; changes = changes; becomes = subst (λ (t : Stamp). ReplyBecomes asking history request t (outcomes.Answered answer)) s b }

-- the stamp of what is next
pub stamp_is : (conn number moment : ℕ) (from : Connection) → number ≡ request_number from → record { conn = conn + 1; number = number; moment = record { 0 = moment } } ≡ next_stamp (suc conn) from moment
stamp_is conn number moment from n =
    let one : conn + 1 ≡ suc conn = omega arith in
    λ i. record { conn = one i; number = n i; moment = record { 0 = moment } }
