-- Alike pods stay alike in paired runs, and the agent has the same replies in both.
use Rattle.std.proofs.Common.{◌≡◌, ◌⊎◌, inl, inr, ℕ, Bool, true, false, true≢false, List, [], ◌∷◌, map, Option, Some, None, refl, sym, ap, subst, ◌∙◌}
use Rattle.std.specs.Prelude.{is_some}
use Rattle.std.specs.Option.{option_map_or}
use Rattle.std.proofs.lemmas.Bool.{or_parts}
use Rattle.pod_base.specs.declared.agent.Agent.{Agent}
use Rattle.pod_command.specs.declared.entry.Entry.{Entry}
use Rattle.pod_edits.proofs.Trees.{container_plain}
use Rattle.pod_path.specs.Hierarchy.{is_acl, is_container, is_meta}
use Rattle.pod_reply.specs.Laws.{HasOneReply}
use Rattle.pod_rows.specs.Apply.{Applies, applied, with_rows, with_rows_if}
use Rattle.pod_rows.specs.Pod.{Pod, row_at}
use Rattle.pod_rows.specs.WellFormed.{WellFormed}
use Rattle.reply_laws.specs.Alike.{Alike, IsHidden, kind_of, path_of}
use Rattle.reply_laws.specs.Isolation.{RepliesAlike}
use Rattle.reply_laws.specs.Laws.{EntriesApply}
use Rattle.refusal_laws.proofs.EditPairs.{ArePairs, paths_after, rows_after}
use Rattle.refusal_laws.proofs.EntryEdits.{Makes, makes}
use Rattle.refusal_laws.proofs.PairedEdits.{puts_pairs, request_pairs}
use Rattle.refusal_laws.specs.Laws.{IsSameReply, PairedRunsStayAlike, PutsChangeOnePath, reply_bytes}
use Rattle.refusal_laws.specs.PairedRuns.{ArePaired, ArePutsOfAnother, ClosesDifferences, IsClosedTo, IsStepReply, IsPairedTurn, Step, Turn, agent_in, next_after, pod_after}

-- a path that is no access list's
abbrev IsNoList : List ℕ → Type 0
IsNoList path = is_acl path ≡ false

container_no_list : (path : List ℕ) → is_container path ≡ true → IsNoList path
container_no_list path closed = (or_parts (is_acl path) (is_meta path) (container_plain path closed)).0

rows_or_no_list : (agent : Agent) (p q : Pod) → Alike agent p q → (path : List ℕ) → (row_at p.rows path ≡ row_at q.rows path) ⊎ IsNoList path
rows_or_no_list agent p q alike path = by_rows (alike.rows path)
  where
    by_rows : (row_at p.rows path ≡ row_at q.rows path) ⊎ (IsHidden agent p path × IsHidden agent q path) → (row_at p.rows path ≡ row_at q.rows path) ⊎ IsNoList path
    by_rows (inl same) = inl same
    by_rows (inr hidden) = inr hidden.0.no_list

list_same : (agent : Agent) (p q : Pod) → Alike agent p q → (path : List ℕ) → is_acl path ≡ true → row_at p.rows path ≡ row_at q.rows path
list_same agent p q alike path list = by_rows (rows_or_no_list agent p q alike path)
  where
    by_rows : (row_at p.rows path ≡ row_at q.rows path) ⊎ IsNoList path → row_at p.rows path ≡ row_at q.rows path
    by_rows (inl same) = same
    by_rows (inr none) = absurd (true≢false (sym list ∙ none))

-- ---- two entries

module _ (p q : Pod) (next : ℕ) (e f : Entry) (a : Applies p next e) (b : Applies q next f) where
  left_is : applied p e ≡ with_rows p a.rows
  left_is = ap (with_rows_if p) a.edits

  right_is : applied q f ≡ with_rows q b.rows
  right_is = ap (with_rows_if q) b.edits

  well_left : WellFormed (applied p e)
  well_left = subst WellFormed (sym left_is) a.well_formed

  well_right : WellFormed (applied q f)
  well_right = subst WellFormed (sym right_is) b.well_formed

  -- what is at a path that may not differ
  same_at : (Differ : List ℕ → Type 0) → ArePairs Differ e.edits.items f.edits.items → (path : List ℕ) → (Differ path → ⊥) → row_at p.rows path ≡ row_at q.rows path
      → row_at (applied p e).rows path ≡ row_at (applied q f).rows path
  same_at Differ pairs path never same =
      ap (λ (pod : Pod). row_at pod.rows path) left_is
      ∙ rows_after Differ path never e.edits.items f.edits.items pairs p.rows q.rows a.rows b.rows a.edits b.edits same
      ∙ sym (ap (λ (pod : Pod). row_at pod.rows path) right_is)

  alike_after : (agent : Agent) → Alike agent p q → ArePairs IsNoList e.edits.items f.edits.items → map kind_of (applied p e).rows ≡ map kind_of (applied q f).rows
      → ClosesDifferences agent (applied p e) (applied q f) → Alike agent (applied p e) (applied q f)
  alike_after agent alike pairs kinds closed = record {
    base = ap (λ (pod : Pod). pod.base) left_is ∙ alike.base ∙ sym (ap (λ (pod : Pod). pod.base) right_is);
    owner = ap (λ (pod : Pod). pod.owner) left_is ∙ alike.owner ∙ sym (ap (λ (pod : Pod). pod.owner) right_is);
    paths = ap (λ (pod : Pod). map path_of pod.rows) left_is
        ∙ paths_after IsNoList e.edits.items f.edits.items pairs p.rows q.rows a.rows b.rows alike.paths a.edits b.edits
        ∙ sym (ap (λ (pod : Pod). map path_of pod.rows) right_is);
    kinds = kinds;
    rows = λ path. by_rows path (closed path);
  }
    where
      by_list : (path : List ℕ) (list : Bool) → is_acl path ≡ list → IsClosedTo agent (applied p e) path × IsClosedTo agent (applied q f) path
          → (row_at (applied p e).rows path ≡ row_at (applied q f).rows path) ⊎ (IsHidden agent (applied p e) path × IsHidden agent (applied q f) path)
      by_list path true is h = inl (same_at IsNoList pairs path (λ none. true≢false (sym is ∙ none)) (list_same agent p q alike path is))
      by_list path false is h = inr (
        record { no_list = is; unread = h.0.unread; no_group = h.0.no_group },
        record { no_list = is; unread = h.1.unread; no_group = h.1.no_group },
      )

      by_rows : (path : List ℕ) → (row_at (applied p e).rows path ≡ row_at (applied q f).rows path) ⊎ (IsClosedTo agent (applied p e) path × IsClosedTo agent (applied q f) path)
          → (row_at (applied p e).rows path ≡ row_at (applied q f).rows path) ⊎ (IsHidden agent (applied p e) path × IsHidden agent (applied q f) path)
      by_rows path (inl same) = inl same
      by_rows path (inr h) = by_list path (is_acl path) refl h

-- ---- one turn

module _ (applies : EntriesApply) (replies : RepliesAlike) (one : HasOneReply) (agent : Agent) (p q : Pod) (next : ℕ) (turn : Turn) (wp : WellFormed p) (wq : WellFormed q) (alike : Alike agent p q) (t : IsPairedTurn agent p q next turn) where
  left_applies : (e : Entry) → turn.left_reply.entry ≡ Some e → Applies p next e
  left_applies e has = applies p turn.left.request turn.left.asked next turn.left.stamp turn.left_reply e wp t.left has

  right_applies : (f : Entry) → turn.right_reply.entry ≡ Some f → Applies q next f
  right_applies f has = applies q turn.right.request turn.right.asked next turn.right.stamp turn.right_reply f wq t.right has

  module _ (e f : Entry) (has_left : turn.left_reply.entry ≡ Some e) (has_right : turn.right_reply.entry ≡ Some f) where
    left_makes : Makes p turn.left.request turn.left.asked turn.left.stamp.moment e.edits.items
    left_makes = makes p turn.left.request turn.left.asked next turn.left.stamp turn.left_reply e t.left has_left

    right_makes : Makes q turn.right.request turn.right.asked turn.right.stamp.moment f.edits.items
    right_makes = makes q turn.right.request turn.right.asked next turn.right.stamp turn.right_reply f t.right has_right

    other_pairs : (Differ : List ℕ → Type 0) (h : ArePutsOfAnother agent p q turn.left turn.right) → Differ h.path
        → ((above : List ℕ) → is_container above ≡ true → (turn.left.stamp.moment ≡ turn.right.stamp.moment) ⊎ Differ above) → ArePairs Differ e.edits.items f.edits.items
    other_pairs Differ h differs above =
        puts_pairs p q alike.base alike.paths Differ h.path turn.left.stamp.moment turn.right.stamp.moment differs above turn.left.request turn.right.request turn.left.asked turn.right.asked
        e.edits.items f.edits.items left_makes right_makes h.left_puts.method h.left_puts.target h.right_puts.method h.right_puts.target

    turn_pairs : ArePaired agent p q turn.left turn.right → ArePairs IsNoList e.edits.items f.edits.items
    turn_pairs (inl same) =
        request_pairs p q alike.base alike.paths IsNoList turn.left.request turn.left.asked turn.left.stamp.moment e.edits.items f.edits.items (rows_or_no_list agent p q alike) left_makes
        (subst (λ (s : Step). Makes q s.request s.asked s.stamp.moment f.edits.items) (sym same) right_makes)
    turn_pairs (inr h) = other_pairs IsNoList h h.left_hidden.no_list (λ above closed. inr (container_no_list above closed))

  -- the pods after it
  pub record Next (p2 q2 : Pod) : Type 0 where
    pub well_left : WellFormed p2
    pub well_right : WellFormed q2
    pub still : Alike agent p2 q2

  by_entries : (o u : Option Entry) → turn.left_reply.entry ≡ o → turn.right_reply.entry ≡ u → is_some o ≡ is_some u
      → map kind_of (option_map_or (applied p) o p).rows ≡ map kind_of (option_map_or (applied q) u q).rows
      → ClosesDifferences agent (option_map_or (applied p) o p) (option_map_or (applied q) u q) → Next (option_map_or (applied p) o p) (option_map_or (applied q) u q)
  by_entries None None ho hu both kinds closed = record { well_left = wp; well_right = wq; still = alike }
  by_entries None (Some f) ho hu both kinds closed = absurd (true≢false (sym both))
  by_entries (Some e) None ho hu both kinds closed = absurd (true≢false both)
  by_entries (Some e) (Some f) ho hu both kinds closed =
      let a = left_applies e ho in
      let b = right_applies f hu in
      record {
        well_left = well_left p q next e f a b;
        well_right = well_right p q next e f a b;
        still = alike_after p q next e f a b agent alike (turn_pairs e f ho hu t.steps) kinds closed;
      }

  pub next_pods : Next (pod_after p turn.left_reply) (pod_after q turn.right_reply)
  next_pods = by_entries turn.left_reply.entry turn.right_reply.entry refl refl t.entries t.kinds t.closed

  -- a step of the agent
  same_reply : turn.left ≡ turn.right → agent_in turn.left ≡ agent → IsSameReply turn
  same_reply same mine =
      let reply : turn.left_reply ≡ turn.right_reply =
      one q turn.left.request turn.left.asked next turn.left.stamp turn.left_reply turn.right_reply
      (replies p q turn.left.request turn.left.asked next turn.left.stamp turn.left_reply wp (subst (λ (x : Agent). Alike x p q) (sym mine) alike) t.left)
      (subst (λ (s : Step). IsStepReply q next s turn.right_reply) (sym same) t.right) in
      record { reply = reply; bytes = λ close i. reply_bytes (same i) (reply i) close }

  pub own_reply : ArePaired agent p q turn.left turn.right → agent_in turn.left ≡ agent → IsSameReply turn
  own_reply (inl same) mine = same_reply same mine
  own_reply (inr h) mine = absurd (h.other mine)

  -- two PUTs of one moment
  module _ (h : ArePutsOfAnother agent p q turn.left turn.right) (moment : turn.left.stamp.moment ≡ turn.right.stamp.moment) (path : List ℕ) (apart : path ≡ h.path → ⊥) (same : row_at p.rows path ≡ row_at q.rows path) where
    by_puts : (o u : Option Entry) → turn.left_reply.entry ≡ o → turn.right_reply.entry ≡ u → is_some o ≡ is_some u
        → row_at (option_map_or (applied p) o p).rows path ≡ row_at (option_map_or (applied q) u q).rows path
    by_puts None None ho hu both = same
    by_puts None (Some f) ho hu both = absurd (true≢false (sym both))
    by_puts (Some e) None ho hu both = absurd (true≢false both)
    by_puts (Some e) (Some f) ho hu both =
        same_at p q next e f (left_applies e ho) (right_applies f hu) (λ x. x ≡ h.path) (other_pairs e f ho hu (λ x. x ≡ h.path) h refl (λ above closed. inl moment)) path apart same

    pub puts_keep : row_at (pod_after p turn.left_reply).rows path ≡ row_at (pod_after q turn.right_reply).rows path
    puts_keep = by_puts turn.left_reply.entry turn.right_reply.entry refl refl t.entries

-- ---- all turns

module _ (applies : EntriesApply) (replies : RepliesAlike) (one : HasOneReply) where
  pub stay_alike : PairedRunsStayAlike
  stay_alike agent p q next [] wp wq alike runs = alike
  stay_alike agent p q next (turn ∷ turns) wp wq alike runs =
      let after = next_pods applies replies one agent p q next turn wp wq alike runs.0 in (
        alike,
        own_reply applies replies one agent p q next turn wp wq alike runs.0 runs.0.steps,
        stay_alike agent (pod_after p turn.left_reply) (pod_after q turn.right_reply) (next_after next turn.left_reply) turns after.well_left after.well_right after.still runs.1,
      )

  pub puts_change_one_path : PutsChangeOnePath
  puts_change_one_path agent p q next turn wp wq alike t h moment path apart same =
      puts_keep applies replies one agent p q next turn wp wq alike t h moment path apart same
