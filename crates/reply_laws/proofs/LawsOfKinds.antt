-- The laws of replies, by what each reply is.
use Rattle.std.proofs.Common.{◌≡◌, ℕ, ◌<◌, ◌≤◌, Bool, true, false, true≢false, List, [], ◌∷◌, Some, None, refl, sym, ap, subst, ◌∙◌, arith, codes}
use Rattle.std.specs.Prelude.{is_some, nat_le, nat_lt}
use Rattle.std.proofs.lemmas.Bool.{and_parts}
use Rattle.std.proofs.lemmas.Bool.Decides.{Decides-ltb, nat_tests}
use Rattle.http_out.specs.Text.{AreFieldLines}
use Rattle.pod_base.specs.declared.method.Method.{Method}
use Rattle.pod_base.specs.declared.method.Method.TheVariants.{Get, Head, Options, Post, Put, Patch, Delete, Other}
use Rattle.pod_base.specs.declared.moment.Stamp.{Stamp}
use Rattle.pod_base.specs.declared.request.Request.{Request}
use Rattle.pod_base.specs.declared.response.Response.{Response}
use Rattle.pod_command.specs.Encodable.{IsEncodable}
use Rattle.pod_command.specs.declared.entry.Entry.{Entry}
use Rattle.pod_responses.specs.Links.{field}
use Rattle.pod_responses.specs.Responses.{upgraded}
use Rattle.pod_rows.specs.Apply.{Applies}
use Rattle.pod_rows.specs.Pod.{Pod}
use Rattle.pod_rows.specs.WellFormed.{WellFormed}
use Rattle.pod_reply.specs.Replies.{Reply, sent_to}
use Rattle.pod_reply.specs.Reply.{IsReply}
use Rattle.token_table.specs.Credentials.{AskedAgent}
use Rattle.websocket.specs.Handshake.{accept_key_of}
use Rattle.reply_laws.specs.Granted.{IsGranted, is_change}
use Rattle.reply_laws.specs.Laws.{AppliesBare, ChangesHaveEntries, EncodableBare, EntriesApply, EntriesAreEncodable, EntriesHaveBases, IsNoFailure, IsUpgrade, NeverFails, ReadsHaveNone, RepliesAreSent, UpgradesAlone, is_success}
use Rattle.reply_laws.specs.Sent.{IsSent}
use Rattle.reply_laws.proofs.Fields.{first}
use Rattle.reply_laws.proofs.Lines.{accept_stays}
use Rattle.reply_laws.proofs.ReplyKinds.{Kind, is_plain_status}
use Rattle.reply_laws.proofs.ReplyKinds.Kind.{refused, shown, upgrade, made}
use Rattle.reply_laws.proofs.Walk.{told_kind}

-- ---- statuses

record IsPlainNumber (status : ℕ) : Type 0 where
  least : 300 ≤ status
  most : status < 600
  failed : status ≡ 500 → ⊥
  busy : status ≡ 503 → ⊥

le_from : (a b : ℕ) → nat_le a b ≡ true → a ≤ b
le_from a b e = grind (arith, nat_tests)

lt_from : (a b : ℕ) → nat_lt a b ≡ true → a < b
lt_from a b e = (Decides-ltb a b).0 e

apart_from : (p : ℕ → Bool) (a b : ℕ) → p b ≡ false → p a ≡ true → a ≡ b → ⊥
apart_from p a b fails passes e = true≢false (sym passes ∙ ap p e ∙ fails)

plain_number : (status : ℕ) → is_plain_status status ≡ true → IsPlainNumber status
plain_number status h =
    let parts = and_parts (nat_le 300 status) _ h in
    let more = and_parts (nat_lt status 600) _ parts.1 in
    record {
      least = le_from 300 status parts.0;
      most = lt_from status 600 more.0;
      failed = apart_from is_plain_status status 500 refl h;
      busy = apart_from is_plain_status status 503 refl h;
    }

plain_no_success : (status : ℕ) → is_plain_status status ≡ true → is_success status ≡ false
plain_no_success status h = by_test (is_success status) refl
  where
    by_test : (b : Bool) → is_success status ≡ b → b ≡ false
    by_test true e = absurd (let low = (plain_number status h).least in let high = lt_from status 300 (and_parts (nat_le 200 status) (nat_lt status 300) e).1 in omega (arith, low, high))
    by_test false e = refl

record IsSuccessNumber (status : ℕ) : Type 0 where
  least : 200 ≤ status
  most : status < 300

success_number : (status : ℕ) → is_success status ≡ true → IsSuccessNumber status
success_number status h =
    let parts = and_parts (nat_le 200 status) (nat_lt status 300) h in
    record { least = le_from 200 status parts.0; most = lt_from status 300 parts.1 }

-- ---- as it is sent

same_status : (method : Method) (response : Response) → (sent_to method response).status ≡ response.status
same_status Get response = refl
same_status Head response = refl
same_status Options response = refl
same_status Post response = refl
same_status Put response = refl
same_status Patch response = refl
same_status Delete response = refl
same_status Other response = refl

same_fields : (method : Method) (response : Response) → (sent_to method response).fields ≡ response.fields
same_fields Get response = refl
same_fields Head response = refl
same_fields Options response = refl
same_fields Post response = refl
same_fields Put response = refl
same_fields Patch response = refl
same_fields Delete response = refl
same_fields Other response = refl

same_upgrade : (method : Method) (key : List ℕ) → sent_to method (upgraded (accept_key_of key)) ≡ upgraded (accept_key_of key)
same_upgrade Get key = refl
same_upgrade Head key = refl
same_upgrade Options key = refl
same_upgrade Post key = refl
same_upgrade Put key = refl
same_upgrade Patch key = refl
same_upgrade Delete key = refl
same_upgrade Other key = refl

sent_is : (method : Method) (response : Response) → IsSent response → IsSent (sent_to method response)
sent_is method response h = record {
  fields = subst AreFieldLines (sym (same_fields method response)) h.fields;
  least = subst (λ (n : ℕ). 100 ≤ n) (sym (same_status method response)) h.least;
  most = subst (λ (n : ℕ). n < 600) (sym (same_status method response)) h.most;
}

upgraded_lines : (key : List ℕ) → AreFieldLines (upgraded (accept_key_of key)).fields
upgraded_lines key =
    let last = field (codes "Sec-WebSocket-Accept") (accept_key_of key) ∷ [] in
    first (codes "Upgrade") (codes "websocket") (field (codes "Connection") (codes "Upgrade") ∷ last) refl refl
    (first (codes "Connection") (codes "Upgrade") last refl refl (first (codes "Sec-WebSocket-Accept") (accept_key_of key) [] refl (accept_stays key) refl))

-- ---- the laws, of what is told

module _ (pod : Pod) (request : Request) (asked : AskedAgent) (seq : ℕ) (stamp : Stamp) where
  told_applies : (told : Reply) (entry : Entry) → Kind pod request asked seq stamp told → WellFormed pod → told.entry ≡ Some entry → Applies pod seq entry
  told_applies told entry (refused response plain) w e = absurd cc
  told_applies told entry (shown response read shows) w e = absurd cc
  told_applies told entry (upgrade key read is) w e = absurd cc
  told_applies told entry (made response own shows is) w e = (let same : own ≡ entry = cc in subst (Applies pod seq) same (is.applies w))

  told_granted : (told : Reply) (entry : Entry) → Kind pod request asked seq stamp told → told.entry ≡ Some entry → IsGranted pod request asked stamp entry
  told_granted told entry (refused response plain) e = absurd cc
  told_granted told entry (shown response read shows) e = absurd cc
  told_granted told entry (upgrade key read is) e = absurd cc
  told_granted told entry (made response own shows is) e = (let same : own ≡ entry = cc in subst (IsGranted pod request asked stamp) same is.granted)

  told_encodable : (told : Reply) (entry : Entry) → Kind pod request asked seq stamp told → told.entry ≡ Some entry → IsEncodable entry
  told_encodable told entry (refused response plain) e = absurd cc
  told_encodable told entry (shown response read shows) e = absurd cc
  told_encodable told entry (upgrade key read is) e = absurd cc
  told_encodable told entry (made response own shows is) e = (let same : own ≡ entry = cc in subst IsEncodable same is.encodable)

  success_sent : (response : Response) → is_success response.status ≡ true → AreFieldLines response.fields → IsSent response
  success_sent response h lines = (let number = success_number response.status h in
      let low = number.least in
      let high = number.most in
      record { fields = lines; least = omega (arith, low); most = omega (arith, high) })

  told_sent : (told : Reply) → Kind pod request asked seq stamp told → WellFormed pod → IsSent told.response
  told_sent told (refused response plain) w = (let number = plain_number response.status plain.status in
      let low = number.least in
      record { fields = plain.fields; least = omega (arith, low); most = number.most })
  told_sent told (shown response read shows) w = success_sent response shows.status (shows.fields w)
  told_sent told (upgrade key read is) w = record { fields = upgraded_lines key; least = omega arith; most = omega arith }
  told_sent told (made response own shows is) w = success_sent response shows.status (shows.fields w)

  success_no_failure : (status : ℕ) → is_success status ≡ true → IsNoFailure status
  success_no_failure status h = (apart_from is_success status 500 refl h, apart_from is_success status 503 refl h)

  told_no_failure : (told : Reply) → Kind pod request asked seq stamp told → IsNoFailure told.response.status
  told_no_failure told (refused response plain) = (let number = plain_number response.status plain.status in (number.failed, number.busy))
  told_no_failure told (shown response read shows) = success_no_failure response.status shows.status
  told_no_failure told (upgrade key read is) = (λ e. absurd (omega (arith, e)), λ e. absurd (omega (arith, e)))
  told_no_failure told (made response own shows is) = success_no_failure response.status shows.status

  told_upgrades : (told : Reply) → Kind pod request asked seq stamp told → told.response.status ≡ 101 → IsUpgrade request told
  told_upgrades told (refused response plain) e = absurd (apart_from is_plain_status response.status 101 refl plain.status e)
  told_upgrades told (shown response read shows) e = absurd (apart_from is_success response.status 101 refl shows.status e)
  told_upgrades told (upgrade key read is) e = (key, is, refl)
  told_upgrades told (made response own shows is) e = absurd (apart_from is_success response.status 101 refl shows.status e)

  told_reads : (told : Reply) → Kind pod request asked seq stamp told → is_change request.method ≡ false → told.entry ≡ None
  told_reads told (refused response plain) read = refl
  told_reads told (shown response other shows) read = refl
  told_reads told (upgrade key other is) read = refl
  told_reads told (made response own shows is) read = absurd (true≢false (sym is.change ∙ read))

  told_changes : (told : Reply) → Kind pod request asked seq stamp told → is_change request.method ≡ true → is_some told.entry ≡ is_success told.response.status
  told_changes told (refused response plain) change = sym (plain_no_success response.status plain.status)
  told_changes told (shown response read shows) change = absurd (true≢false (sym change ∙ read))
  told_changes told (upgrade key read is) change = refl
  told_changes told (made response own shows is) change = sym shows.status

-- ---- the laws, of replies

kind_of_reply : (pod : Pod) (request : Request) (asked : AskedAgent) (seq : ℕ) (stamp : Stamp) (reply : Reply) (h : IsReply pod request asked seq stamp reply)
    → Kind pod request asked seq stamp h.told
kind_of_reply pod request asked seq stamp reply h = told_kind pod request asked seq stamp h.told h.is

pub entries_apply : EntriesApply
entries_apply pod request asked seq stamp reply entry w h e =
    told_applies pod request asked seq stamp h.told entry (kind_of_reply pod request asked seq stamp reply h) w (sym (ap (λ (r : Reply). r.entry) h.is_sent) ∙ e)

pub applies_bare : AppliesBare
applies_bare pod next entry h = record { number = h.number; numbered = h.numbered; rows = h.rows; edits = h.edits; well_formed = h.well_formed }

pub entries_have_bases : EntriesHaveBases
entries_have_bases pod request asked seq stamp reply entry h e =
    told_granted pod request asked seq stamp h.told entry (kind_of_reply pod request asked seq stamp reply h) (sym (ap (λ (r : Reply). r.entry) h.is_sent) ∙ e)

pub entries_are_encodable : EntriesAreEncodable
entries_are_encodable pod request asked seq stamp reply entry h e =
    told_encodable pod request asked seq stamp h.told entry (kind_of_reply pod request asked seq stamp reply h) (sym (ap (λ (r : Reply). r.entry) h.is_sent) ∙ e)

pub encodable_bare : EncodableBare
encodable_bare entry h = record { method = h.method; edits = h.edits }

pub replies_are_sent : RepliesAreSent
replies_are_sent pod request asked seq stamp reply w h =
    subst (λ (r : Reply). IsSent r.response) (sym h.is_sent)
    (sent_is request.method h.told.response (told_sent pod request asked seq stamp h.told (kind_of_reply pod request asked seq stamp reply h) w))

status_is : (pod : Pod) (request : Request) (asked : AskedAgent) (seq : ℕ) (stamp : Stamp) (reply : Reply) (h : IsReply pod request asked seq stamp reply)
    → reply.response.status ≡ h.told.response.status
status_is pod request asked seq stamp reply h = ap (λ (r : Reply). r.response.status) h.is_sent ∙ same_status request.method h.told.response

pub never_fails : NeverFails
never_fails pod request asked seq stamp reply h =
    subst IsNoFailure (sym (status_is pod request asked seq stamp reply h)) (told_no_failure pod request asked seq stamp h.told (kind_of_reply pod request asked seq stamp reply h))

pub upgrades_alone : UpgradesAlone
upgrades_alone pod request asked seq stamp reply h e =
    (let told = told_upgrades pod request asked seq stamp h.told (kind_of_reply pod request asked seq stamp reply h) (sym (status_is pod request asked seq stamp reply h) ∙ e) in
    (told.0, told.1, ap (λ (r : Reply). r.response) h.is_sent ∙ ap (sent_to request.method) told.2 ∙ same_upgrade request.method told.0))

pub reads_have_none : ReadsHaveNone
reads_have_none pod request asked seq stamp reply h read =
    ap (λ (r : Reply). r.entry) h.is_sent ∙ told_reads pod request asked seq stamp h.told (kind_of_reply pod request asked seq stamp reply h) read

pub changes_have_entries : ChangesHaveEntries
changes_have_entries pod request asked seq stamp reply h change =
    ap (λ (r : Reply). is_some r.entry) h.is_sent ∙ told_changes pod request asked seq stamp h.told (kind_of_reply pod request asked seq stamp reply h) change
    ∙ ap is_success (sym (status_is pod request asked seq stamp reply h))
