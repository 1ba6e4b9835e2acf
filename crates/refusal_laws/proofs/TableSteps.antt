-- A walk through the table of refusals, and what it comes to.
use Rattle.std.proofs.Common.{◌≡◌, ◌⊎◌, inl, inr, Bool, true, false, cond, List, [], ◌∷◌, ◌++◌, Option, Some, None, Ok, Err, refl, sym, ◌∙◌, subst, append_assoc}
use Rattle.std.proofs.lemmas.List.{append-nil}
use Rattle.pod_base.specs.declared.method.Method.{Method}
use Rattle.pod_base.specs.declared.response.Response.{Response}
use Rattle.pod_command.specs.declared.entry.Entry.{Entry}
use Rattle.pod_reply.specs.EntrySize.{size_refusal}
use Rattle.pod_reply.specs.Obstacles.{first_of, refuse_if}
use Rattle.pod_reply.specs.PutReplies.{unless_refused}
use Rattle.pod_reply.specs.Replies.{Reply, changed_by, unchanged}
use Rattle.refusal_laws.specs.RankConditions.{Situation, success_of}
use Rattle.refusal_laws.specs.RankTable.{Condition, IsFoundFor, IsRefusedAt, IsSuccess, NoneHolds, rank_table, refusal_by}

-- a refusal, or what follows where there is none
abbrev pub Step : Option Response → Reply → Type 0 → Type 0
Step o told Rest = ((r : Response) × (o ≡ Some r) × (told ≡ unchanged r)) ⊎ ((o ≡ None) × Rest)

-- the conditions of a list, one after the other, and then the success
abbrev pub Walk : Method → Situation → Reply → List Condition → Type 0
Walk m s told [] = told ≡ success_of m s
Walk m s told (c ∷ cs) = IsFoundFor m s c × Step (refusal_by m s c) told (Walk m s told cs)

-- ---- steps

-- a condition that the method doesn't look at
pub skip : {Rest : Type 0} {told : Reply} → Rest → Unit {0} × Step None told Rest
skip rest = (tt, inr (refl, rest))

pub refused_at : {Rest : Type 0} {told : Reply} (o : Option Response) (r : Response) → o ≡ Some r → told ≡ unchanged r → Step o told Rest
refused_at o r e is = inl (r, e, is)

pub passed_at : {Rest : Type 0} {told : Reply} (o : Option Response) → o ≡ None → Rest → Step o told Rest
passed_at o e rest = inr (e, rest)

-- the first of two refusals, or else what the second one says
pub next_of : {Rest : Type 0} (o p : Option Response) (told final : Reply) → told ≡ unless_refused (first_of o p) final → (told ≡ unless_refused p final → Rest) → Step o told Rest
next_of (Some r) p told final e k = inl (r, refl, e)
next_of None p told final e k = inr (refl, k e)

pub last_of : {Rest : Type 0} (o : Option Response) (told final : Reply) → told ≡ unless_refused o final → (told ≡ final → Rest) → Step o told Rest
last_of (Some r) told final e k = inl (r, refl, e)
last_of None told final e k = inr (refl, k e)

-- one of two refusals holds
pub one_of : {Rest : Type 0} (o p : Option Response) (r : Response) (told : Reply) → first_of o p ≡ Some r → told ≡ unchanged r → (p ≡ Some r → Rest) → Step o told Rest
one_of (Some q) p r told e is k = inl (r, e, is)
one_of None p r told e is k = inr (refl, k e)

pub same_step : {Rest : Type 0} {told : Reply} (o p : Option Response) → o ≡ p → Step p told Rest → Step o told Rest
same_step {Rest} {told} o p e step = subst (λ (x : Option Response). Step x told Rest) (sym e) step

-- the size of the entry
pub sized_step : {Rest : Type 0} (b : Bool) (told : Reply) (response : Response) (entry : Entry) → told ≡ changed_by response (cond b (Err size_refusal) (Ok entry))
    → (told ≡ record { response = response; entry = Some entry } → Rest) → Step (refuse_if b size_refusal) told Rest
sized_step true told response entry e k = inl (size_refusal, refl, e)
sized_step false told response entry e k = inr (refl, k e)

-- ---- first refusals

pub none_of : (o p : Option Response) → first_of o p ≡ None → (o ≡ None) × (p ≡ None)
none_of (Some r) p e = absurd cc
none_of None p e = (refl, e)

pub first_assoc : (o p q : Option Response) → first_of (first_of o p) q ≡ first_of o (first_of p q)
first_assoc (Some r) p q = refl
first_assoc None p q = refl

-- ---- what a walk comes to

module _ (s : Situation) (told : Reply) where
  none_more : (before : List Condition) (c : Condition) → NoneHolds s before → IsFoundFor s.request.method s c × (refusal_by s.request.method s c ≡ None) → NoneHolds s (before ++ c ∷ [])
  none_more [] c all one = (one, tt)
  none_more (d ∷ ds) c all one = (all.0, none_more ds c all.1 one)

  ends : (before after : List Condition) → before ++ after ≡ rank_table → NoneHolds s before → Walk s.request.method s told after → IsRefusedAt s told ⊎ IsSuccess s told
  ends before [] e none walk = inr (record { none = subst (NoneHolds s) (sym (append-nil before) ∙ e) none; told_is = walk })
  ends before (c ∷ cs) e none (found, inl (r, holds, is)) = inl (record {
    before = before;
    condition = c;
    after = cs;
    table_is = e;
    none_before = none;
    found_out = found;
    response = r;
    holds = holds;
    told_is = is;
  })
  ends before (c ∷ cs) e none (found, inr (passed, rest)) = ends (before ++ c ∷ []) cs (append_assoc before (c ∷ []) cs ∙ e) (none_more before c none (found, passed)) rest

  pub comes_to : Walk s.request.method s told rank_table → IsRefusedAt s told ⊎ IsSuccess s told
  comes_to walk = ends [] rank_table refl tt walk
