-- Two sessions of the same events at the same moments make the same requests.
use Rattle.std.proofs.Common.{◌≡◌, ℕ, ◌+◌, List, [], ◌∷◌, ◌++◌, length, map, sym, ap, subst, ◌∙◌}
use Rattle.std.specs.List.{AllByRecursion, flat_map, range_with_len}
use Rattle.pod_base.specs.declared.heard.Heard.{Heard}
use Rattle.pod_base.specs.declared.request.Request.{Request}
use Rattle.pod_core.specs.History.{History, end_of}
use Rattle.pod_core.specs.Output.{output, output_of}
use Rattle.pod_core.specs.Session.{IsItem, IsSession, Item, NeverFalls, Session, places_of}
use Rattle.history_laws.specs.Isolated.{AreOnlyItems, IsRunOver, grown, moments_of}
use Rattle.history_laws.specs.SameItems.{AreAnswered, AreItemsAfter, AskSame}
use Rattle.token_table.specs.Credentials.{AskedAgent}

abbrev asked_for : List Item → List Request
asked_for items = map (λ (item : Item). item.request) items

abbrev numbers_of : List Item → List ℕ
numbers_of items = map (λ (item : Item). item.number) items

module _ (asking : Request → AskedAgent) where
  abbrev AreAsked : List Item → Type 0
  AreAsked items = AllByRecursion (λ (item : Item). item.asked ≡ asking item.request) items

  -- items of the first of the same requests, numbered from n on
  asks_same : (n : ℕ) (items others : List Item) (rest more : List Request) → asked_for items ++ rest ≡ asked_for others ++ more → numbers_of items ≡ range_with_len n (length items) → numbers_of others ≡ range_with_len n (length others)
      → AreAsked items → AreAsked others → moments_of others ≡ moments_of items → AskSame items others
  asks_same n [] [] rest more requests numbers counted asked known moments = tt
  asks_same n [] (other ∷ others) rest more requests numbers counted asked known moments = absurd cc
  asks_same n (item ∷ items) [] rest more requests numbers counted asked known moments = absurd cc
  asks_same n (item ∷ items) (other ∷ others) rest more requests numbers counted asked known moments =
      let request : item.request ≡ other.request = cc in
      let requests_then : asked_for items ++ rest ≡ asked_for others ++ more = cc in
      let number : item.number ≡ n = cc in
      let numbered : other.number ≡ n = cc in
      let numbers_then : numbers_of items ≡ range_with_len (n + 1) (length items) = cc in
      let counted_then : numbers_of others ≡ range_with_len (n + 1) (length others) = cc in
      let moment : other.moment ≡ item.moment = cc in
      let moments_then : moments_of others ≡ moments_of items = cc in (
        record {
          request = request;
          number = number ∙ sym numbered;
          asked = asked.0 ∙ ap asking request ∙ sym known.0;
          moment = sym moment;
        },
        asks_same (n + 1) items others rest more requests_then numbers_then counted_then asked.1 known.1 moments_then,
      )

  module _ (may_give : ℕ → Type 0) (events : List Heard) (session run : Session) (other : History) (r : IsRunOver may_give asking events session other run) where
    run_items : AreItemsAfter may_give session.conn other run.items
    run_items =
        let answers : AllByRecursion (IsItem may_give run.conn (grown other run.items)) run.items = subst (λ (h : History). AllByRecursion (IsItem may_give run.conn h) run.items) r.history r.is_session.answers in
        record {
          answers = subst (λ (conn : ℕ). AllByRecursion (IsItem may_give conn (grown other run.items)) run.items) r.conn answers;
          places = subst (λ (h : History). NeverFalls (end_of other) (flat_map places_of run.items) (end_of h)) r.history r.is_session.places;
          answered = r.answered;
        }

    -- so they write the same bytes where their items are determined
    pub writes_same : (before after : ℕ) → IsSession may_give asking events before session after → AreOnlyItems may_give session.conn other session.items → AreAnswered session.items → output events run ≡ output events session
    writes_same before after s only answered =
        let requests = s.requests.1 ∙ sym r.is_session.requests.1 in
        let asks : AskSame session.items run.items = asks_same 1 session.items run.items s.requests.0 r.is_session.requests.0 requests s.numbers r.is_session.numbers s.asked r.is_session.asked r.moments in
        let same : run.items ≡ session.items = only run.items answered run_items asks in
        λ i. output_of events (same i) (r.refusal i)
