-- The reads that bodies of frames are.
use Rattle.std.proofs.Common.{◌≡◌, ◌^◌, ◌<◌, ℕ, List, [], ◌∷◌, ◌++◌, Option, Some, None, Result, Ok, Err, refl, sym, ap, subst, ◌∙◌, append_assoc}
use Rattle.std.specs.Result.{IsErrAnd, IsErrOf}
use Rattle.std.proofs.lemmas.Option.{same_Some}
use Rattle.http_conn.specs.Messages.{Messages}
use Rattle.http_conn.specs.SingleRequest.{IsOneRequest}
use Rattle.pod_base.specs.declared.agent.Agent.{Agent}
use Rattle.pod_base.specs.declared.heard.Heard.{Heard}
use Rattle.pod_base.specs.declared.heard.Heard.TheVariants as heard
use Rattle.pod_base.specs.declared.moment.Moment.{Moment}
use Rattle.pod_base.specs.declared.request.Request.{Request}
use Rattle.stored_forms.specs.Readers.{Fails, after_tag, both, mapped, no_tag, number_at, tagged}
use Rattle.stored_forms.specs.Reading.{agent_at}
use Rattle.stored_forms.specs.Storable.{IsNumber, IsStorableAgent}
use Rattle.stored_forms.specs.StoredForms.{agent_bytes, number_bytes}
use Rattle.stored_forms.specs.declared.read_back.ReadBack.{ReadBack}
use Rattle.stored_forms.specs.declared.read_back.ReadBack.TheVariants as backs
use Rattle.stored_forms.proofs.Forms.{agent_reads}
use Rattle.stored_forms.proofs.ReadLaws.{AfterTags, IsBytes, Reads, both_reads, mapped_again, no_tags, number_reads, tag_case, tagged_reads}
use Rattle.podctl_commands.specs.Heads.{ReadHead, head_of, read_head_at}
use Rattle.podctl_commands.specs.Reads.{IsRead, IsReadRequest}

abbrev IsHead : ReadHead → Type 0
IsHead h = IsStorableAgent h.agent × IsNumber h.seconds

abbrev head_bytes : ReadHead → List ℕ
head_bytes h = 3 ∷ (agent_bytes h.agent ++ number_bytes h.seconds)

head_tags : AfterTags IsHead head_bytes (after_tag 3 (mapped head_of (both agent_at number_at)) no_tag)
head_tags = tag_case 3 head_of (λ _. refl) (λ _ h. h) (both_reads agent_reads number_reads) (no_tags IsHead head_bytes)

head_again : (x : ReadHead) (rest : List ℕ) → IsHead x → tagged (after_tag 3 (mapped head_of (both agent_at number_at)) no_tag) (head_bytes x ++ rest) ≡ Some (x, rest)
head_again x rest is = mapped_again head_of (both_reads agent_reads number_reads) (x.agent, x.seconds) rest is

head_reads : Reads IsHead head_bytes read_head_at
unfolding read_head_at
head_reads = tagged_reads head_tags head_again

-- a head that was read, and a request after it
pub read_is : (body text : List ℕ) (agent : Agent) (seconds : ℕ) (request : Request) → IsBytes body → read_head_at body ≡ Some (head_of (agent, seconds), text) → IsReadRequest text request → IsRead body agent (record { 0 = seconds }) request
read_is body text agent seconds request fits e is =
    let taken = head_reads.takes body (head_of (agent, seconds)) text fits e in
    record {
      text = text;
      form = taken.parts ∙ ap (λ (l : List ℕ). 3 ∷ l) (append_assoc (agent_bytes agent) (number_bytes seconds) text);
      agent_is = taken.is.0;
      moment_is = taken.is.1;
      request_is = is;
    }

-- a read has a head
pub head_of_read : (body : List ℕ) (agent : Agent) (moment : Moment) (request : Request) (r : IsRead body agent moment request) → read_head_at body ≡ Some (head_of (agent, moment.0), r.text)
head_of_read body agent moment request r =
    ap read_head_at (r.form ∙ ap (λ (l : List ℕ). 3 ∷ l) (sym (append_assoc (agent_bytes agent) (number_bytes moment.0) r.text)))
    ∙ head_reads.again (head_of (agent, moment.0)) r.text (r.agent_is, r.moment_is)

-- bytes are one request at most
pub same_request : (text : List ℕ) (one other : Request) → ((text : List ℕ) (a b : List Heard) (rest left : ℕ) → Messages text a rest → Messages text b left → (a ≡ b) × (rest ≡ left)) → IsOneRequest text one → IsOneRequest text other → one ≡ other
same_request text one other law a b = of_lists (law text (heard.Request one ∷ []) (heard.Request other ∷ []) 0 0 a.messages b.messages).0
  where
    of_lists : (heard.Request one ∷ []) ≡ (heard.Request other ∷ []) → one ≡ other
    of_lists e = cc

none_some : {A : Type 0} (found : Option A) (x : A) → found ≡ None → found ≡ Some x → ⊥
none_some None x none some = cc
none_some (Some y) x none some = cc

-- a fault that `?` hands on
pub fault_is : {T E : Type 0} (r : Result T E) (e f : E) → IsErrAnd r (λ x. x ≡ e) → IsErrOf r f → e ≡ f
fault_is (Ok x) e f h k = absurd h
fault_is (Err x) e f h k = cc

pub handed : {S T E : Type 0} (r : Result T E) (e f : E) → IsErrAnd r (λ x. x ≡ e) → IsErrOf r f → IsErrOf {T = S} (Err e) f
handed (Ok x) e f h k = absurd h
handed (Err x) e f h k = let same : e ≡ f = cc in ap (λ y. Err y) same

-- no read where there is no head
pub no_head : (body : List ℕ) (fault : ReadBack) → Fails fault (read_head_at body) → fault ≡ backs.NotCanonical → (agent : Agent) (moment : Moment) (request : Request) → IsRead body agent moment request → ⊥
no_head body fault fails is agent moment request r =
    none_some (read_head_at body) (head_of (agent, moment.0), r.text) (subst (λ (f : ReadBack). Fails f (read_head_at body)) is fails) (head_of_read body agent moment request r)

-- or where what follows it is no request of a read
pub no_request : (body text : List ℕ) (who : Agent) (seconds : ℕ) → read_head_at body ≡ Some (head_of (who, seconds), text) → ((request : Request) → IsReadRequest text request → ⊥) → (agent : Agent) (moment : Moment) (request : Request) → IsRead body agent moment request → ⊥
no_request body text who seconds e none agent moment request r =
    let same = same_Some (head_of (who, seconds), text) (head_of (agent, moment.0), r.text) (sym e ∙ head_of_read body agent moment request r) in
    none request (subst (λ (t : List ℕ). IsReadRequest t request) (sym (ap (λ (q : ReadHead × List ℕ). q.1) same)) r.request_is)
