-- An entry belongs to one item at most.
use Rattle.std.proofs.Common.{◌≡◌, ℕ, zero, suc, ◌+◌, List, [], ◌∷◌, length, map, Option, Some, IfSome, sym, ap, subst, ◌∙◌, arith}
use Rattle.std.specs.Prelude.{slice_get}
use Rattle.std.specs.List.{AllByRecursion, range_with_len}
use Rattle.pod_base.specs.declared.heard.Heard.{Heard}
use Rattle.pod_base.specs.declared.request.Request.{Request}
use Rattle.pod_command.specs.declared.entry.Entry.{Entry}
use Rattle.pod_core.specs.History.{History, entry_at, pod_at}
use Rattle.pod_core.specs.Session.{IsAnswered, IsItem, IsSession, Item, Owes, Session, stamp_of}
use Rattle.reply_laws.specs.Granted.{IsGranted}
use Rattle.reply_laws.specs.Laws.{EntriesHaveBases}
use Rattle.token_table.specs.Credentials.{AskedAgent}
use Rattle.history_laws.specs.Entries.{Makes}

all_found : {A : Type 0} (P : A → Type 0) (xs : List A) (n : ℕ) (x : A) → AllByRecursion P xs → slice_get xs n ≡ Some x → P x
all_found P [] n x h e = absurd (cc e)
all_found P (y ∷ xs) zero x h e = let same : y ≡ x = cc e in subst P same h.0
all_found P (y ∷ xs) (suc n) x h e = all_found P xs n x h.1 e

-- the item at a position has the number after it
number_is : (from : ℕ) (items : List Item) (n : ℕ) (item : Item) → map (λ (i : Item). i.number) items ≡ range_with_len from (length items) → slice_get items n ≡ Some item → item.number ≡ from + n
number_is from [] n item e found = absurd (cc found)
number_is from (one ∷ items) zero item e found =
    let same : one ≡ item = cc found in
    let first : one.number ≡ from = cc e in
    sym (ap (λ (i : Item). i.number) same) ∙ (first ∙ omega arith)
number_is from (one ∷ items) (suc n) item e found =
    let rest : map (λ (i : Item). i.number) items ≡ range_with_len (from + 1) (length items) = cc e in
    number_is (from + 1) items n item rest found ∙ omega arith

module _ (may_give : ℕ → Type 0) (bases : EntriesHaveBases) (asking : Request → AskedAgent) (events : List Heard) (before : ℕ) (session : Session) (after : ℕ) (s : IsSession may_give asking events before session after) (position place : ℕ) (m : Makes session position place) where
  is_answered : IsAnswered may_give session.conn session.history m.item place m.reply
  is_answered = (subst (Owes may_give session.conn session.history m.item) m.outcome (all_found (IsItem may_give session.conn session.history) session.items position m.item s.answers m.is_item)).0

  pub there : entry_at session.history place ≡ Some m.entry
  there = subst (λ (o : Option Entry). IfSome o (λ entry. entry_at session.history place ≡ Some entry)) m.has_entry is_answered.entry

  granted : IsGranted (pod_at session.history place) m.item.request m.item.asked (stamp_of session.conn m.item) m.entry
  granted = bases (pod_at session.history place) m.item.request m.item.asked place (stamp_of session.conn m.item) m.reply m.entry is_answered.reply_is m.has_entry

  pub conn_is : m.entry.conn ≡ session.conn
  conn_is = granted.conn

  pub position_is : m.entry.number ≡ 1 + position
  position_is = granted.number ∙ number_is 1 session.items position m.item s.numbers m.is_item

pub one_maker : (may_give : ℕ → Type 0) (bases : EntriesHaveBases) (asking : Request → AskedAgent) (session other : Session) (events heard : List Heard) (before after start end : ℕ)
    → IsSession may_give asking events before session after → IsSession may_give asking heard start other end → session.history ≡ other.history
    → (position at place : ℕ) → Makes session position place → Makes other at place → (session.conn ≡ other.conn) × (position ≡ at)
one_maker may_give bases asking session other events heard before after start end s t same position at place m k =
    let mine = there may_give bases asking events before session after s position place m in
    let yours = there may_give bases asking heard start other end t at place k in
    let both : Some m.entry ≡ Some k.entry = sym mine ∙ (ap (λ (h : History). entry_at h place) same ∙ yours) in
    let one : m.entry ≡ k.entry = cc both in
    let number : 1 + position ≡ 1 + at = sym (position_is may_give bases asking events before session after s position place m)
    ∙ (ap (λ (e : Entry). e.number) one ∙ position_is may_give bases asking heard start other end t at place k) in (
      sym (conn_is may_give bases asking events before session after s position place m)
          ∙ (ap (λ (e : Entry). e.conn) one ∙ conn_is may_give bases asking heard start other end t at place k),
      omega (arith, number),
    )
