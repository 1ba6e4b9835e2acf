-- What kinds of replies there are: a refusal, a representation or the like, an upgrade, a change with its entry.
use Rattle.std.proofs.Common.{◌≡◌, ℕ, Bool, true, false, not, cond, ◌&&◌, eqb, List, Option, Some, None, Ok, Err, refl}
use Rattle.std.specs.Prelude.{IsTrue, nat_le, nat_lt}
use Rattle.http_out.specs.Text.{AreFieldLines}
use Rattle.pod_base.specs.declared.moment.Stamp.{Stamp}
use Rattle.pod_base.specs.declared.request.Request.{Request}
use Rattle.pod_base.specs.declared.response.Response.{Response}
use Rattle.pod_command.specs.Encodable.{IsEncodable}
use Rattle.pod_command.specs.declared.entry.Entry.{Entry}
use Rattle.pod_responses.specs.Responses.{upgraded}
use Rattle.pod_rows.specs.Apply.{Applies}
use Rattle.pod_rows.specs.Pod.{Pod}
use Rattle.pod_rows.specs.WellFormed.{WellFormed}
use Rattle.pod_reply.specs.EntrySize.{is_too_large, size_refusal}
use Rattle.pod_reply.specs.Obstacles.{first_of, refuse_if}
use Rattle.pod_reply.specs.PutReplies.{unless_refused}
use Rattle.pod_reply.specs.Replies.{Reply, unchanged, changed_by, change_reply}
use Rattle.request_fields.specs.Upgrades.{upgrade_key}
use Rattle.token_table.specs.Credentials.{AskedAgent}
use Rattle.websocket.specs.Handshake.{accept_key_of}
use Rattle.reply_laws.specs.Granted.{is_change, IsGranted}
use Rattle.reply_laws.specs.Laws.{is_success}

-- the status of a refusal, or 304
abbrev pub is_plain_status : ℕ → Bool
is_plain_status status = nat_le 300 status && (nat_lt status 600 && (not (eqb status 500) && not (eqb status 503)))

-- A response that no change makes, with fields that don't depend on the pod.
pub record IsPlain (response : Response) : Type 0 where
  pub status : IsTrue (is_plain_status response.status)
  pub fields : AreFieldLines response.fields

-- A response that is a success.
pub record IsShown (pod : Pod) (response : Response) : Type 0 where
  pub status : IsTrue (is_success response.status)
  pub fields : WellFormed pod → AreFieldLines response.fields

-- A change that is made.
pub record IsMade (pod : Pod) (request : Request) (asked : AskedAgent) (seq : ℕ) (stamp : Stamp)
    (entry : Entry) : Type 0 where
  pub change : is_change request.method ≡ true
  pub applies : WellFormed pod → Applies pod seq entry
  pub granted : IsGranted pod request asked stamp entry
  pub encodable : IsEncodable entry

-- What a reply is.
pub data Kind (pod : Pod) (request : Request) (asked : AskedAgent) (seq : ℕ) (stamp : Stamp) : Reply → Type 0 where
  refused : (response : Response) → IsPlain response → Kind pod request asked seq stamp (unchanged response)
  shown : (response : Response) → is_change request.method ≡ false → IsShown pod response → Kind pod request asked seq stamp (unchanged response)
  upgrade : (key : List ℕ) → is_change request.method ≡ false → upgrade_key request ≡ Some key
      → Kind pod request asked seq stamp (unchanged (upgraded (accept_key_of key)))
  made : (response : Response) (entry : Entry) → IsShown pod response → IsMade pod request asked seq stamp entry
      → Kind pod request asked seq stamp (record { response = response; entry = Some entry })

-- ---- refusals one after another

abbrev pub AllPlain : Option Response → Type 0
AllPlain None = Unit {0}
AllPlain (Some response) = IsPlain response

pub plain_if : (b : Bool) (response : Response) → IsPlain response → AllPlain (refuse_if b response)
plain_if true response h = h
plain_if false response h = tt

pub plain_first : (a b : Option Response) → AllPlain a → AllPlain b → AllPlain (first_of a b)
plain_first (Some response) b h k = h
plain_first None b h k = k

pub none_first : (a b : Option Response) → first_of a b ≡ None → (a ≡ None) × (b ≡ None)
none_first (Some response) b e = absurd cc
none_first None b e = (refl, e)

pub none_if : (b : Bool) (response : Response) → refuse_if b response ≡ None → b ≡ false
none_if true response e = absurd cc
none_if false response e = refl

module _ (pod : Pod) (request : Request) (asked : AskedAgent) (seq : ℕ) (stamp : Stamp) where
  pub unless_kind : (o : Option Response) (reply : Reply) → AllPlain o → (o ≡ None → Kind pod request asked seq stamp reply)
      → Kind pod request asked seq stamp (unless_refused o reply)
  unless_kind (Some response) reply h k = refused response h
  unless_kind None reply h k = k refl

  pub change_kind : (response : Response) (entry : Entry) → IsShown pod response → IsMade pod request asked seq stamp entry
      → Kind pod request asked seq stamp (change_reply response entry)
  change_kind response entry shows made_entry = by_test (is_too_large entry)
    where
      by_test : (b : Bool) → Kind pod request asked seq stamp (changed_by response (cond b (Err size_refusal) (Ok entry)))
      by_test true = refused size_refusal (record { status = refl; fields = refl })
      by_test false = made response entry shows made_entry
