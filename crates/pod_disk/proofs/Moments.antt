-- How what holds at each moment goes on from call to call.
use Rattle.std.proofs.Common.{◌≡◌, ◌≤◌, inl, inr, ⊎_elim, ℕ, List, Option, Some, None, refl, sym, ◌∙◌, subst, rules, arith}
use Rattle.std.specs.Option.{option_map}
use Rattle.pod_io.specs.Visible.{IfVisible}
use Rattle.pod_disk.specs.Disk.{EachImage, Passes, LeavesOnly}

module _ {D : Type 0} (image : D → List ℕ → Type 0) (moment : D → ℕ) (left_since : D → ℕ → List ℕ → Type 0) where
  -- one call: what the images have before it and after it, each moment inside has
  pub one_call : (Step : List ℕ → List ℕ → Type 0) (old new : D) (P : List ℕ → Type 0)
      → ((c : List ℕ) → left_since old (moment old) c → image old c)
      → Passes image moment left_since Step old new → EachImage (image old) P → EachImage (image new) P
      → LeavesOnly moment left_since old new P
  one_call Step old new P only_now passes was is = record {
    later = passes.later;
    each = λ c left. ⊎_elim (λ before. was c (only_now c before)) (is c) (passes.nothing_else (moment old) c (omega arith) left);
    before = λ t c le left. ⊎_elim (λ before. inl before) (λ now. inr (is c now)) (passes.nothing_else t c le left);
  }

  -- a step that leads from P to Q leads each image there
  pub stepped : (Step : List ℕ → List ℕ → Type 0) (old new : D) (P Q : List ℕ → Type 0)
      → Passes image moment left_since Step old new → ((d c : List ℕ) → Step d c → P d → Q c) → EachImage (image old) P → EachImage (image new) Q
  stepped Step old new P Q passes leads was c now =
      let from = passes.images c now in
      leads from.0 c from.2 (was from.0 from.1)

  -- one call that leads from P to Q, where both have R
  pub call : (Step : List ℕ → List ℕ → Type 0) (old new : D) (P Q R : List ℕ → Type 0)
      → ((c : List ℕ) → left_since old (moment old) c → image old c)
      → Passes image moment left_since Step old new → ((d c : List ℕ) → Step d c → P d → Q c)
      → ((c : List ℕ) → P c → R c) → ((c : List ℕ) → Q c → R c) → EachImage (image old) P
      → LeavesOnly moment left_since old new R × EachImage (image new) Q
  call Step old new P Q R only_now passes leads before after was =
      let is = stepped Step old new P Q passes leads was in (
        one_call Step old new R only_now passes (λ c now. before c (was c now)) (λ c now. after c (is c now)),
        is,
      )

  -- one run after the other
  pub joined : (old mid new : D) (P : List ℕ → Type 0) → LeavesOnly moment left_since old mid P → LeavesOnly moment left_since mid new P → LeavesOnly moment left_since old new P
  joined old mid new P first second = record {
    later = omega (arith, first.later, second.later);
    each = λ c left. ⊎_elim (first.each c) (λ has. has) (second.before (moment old) c first.later left);
    before = λ t c le left. ⊎_elim (first.before t c le) (λ has. inr has) (second.before t c (omega (arith, le, first.later)) left);
  }

  pub weaker : (old new : D) (P Q : List ℕ → Type 0) → ((c : List ℕ) → P c → Q c) → LeavesOnly moment left_since old new P → LeavesOnly moment left_since old new Q
  weaker old new P Q leads run = record {
    later = run.later;
    each = λ c left. leads c (run.each c left);
    before = λ t c le left. ⊎_elim (λ before. inl before) (λ has. inr (leads c has)) (run.before t c le left);
  }

  -- what holds at every moment holds of the images now
  pub holds_now : (old new : D) (P : List ℕ → Type 0)
      → ((t : ℕ) (c : List ℕ) → t ≤ moment new → image new c → left_since new t c)
      → LeavesOnly moment left_since old new P → EachImage (image new) P
  holds_now old new P counts_now run c now = run.each c (counts_now (moment old) c run.later now)

  -- a run of no call
  pub no_call : (old : D) (P : List ℕ → Type 0) → ((c : List ℕ) → left_since old (moment old) c → image old c) → EachImage (image old) P → LeavesOnly moment left_since old old P
  no_call old P only_now was = record { later = omega arith; each = λ c left. was c (only_now c left); before = λ t c le left. inl left }

  -- the same, where each run has its own
  pub both : (old mid new : D) (P Q R : List ℕ → Type 0) → ((c : List ℕ) → P c → R c) → ((c : List ℕ) → Q c → R c)
      → LeavesOnly moment left_since old mid P → LeavesOnly moment left_since mid new Q → LeavesOnly moment left_since old new R
  both old mid new P Q R leads follows first second = joined old mid new R (weaker old mid P R leads first) (weaker mid new Q R follows second)

none_is : {X : Type 0} {x : X} → Some x ≡ None → ⊥
none_is is = search rules

some_is : {X : Type 0} {x y : X} → Some x ≡ Some y → x ≡ y
some_is is = search rules

visible_from : (f : List ℕ → List ℕ) (o p : Option (List ℕ)) (b : List ℕ) → p ≡ option_map f o → p ≡ Some b → (a : List ℕ) × (o ≡ Some a) × (f a ≡ b)
visible_from f None p b is visible = absurd (none_is (sym visible ∙ is))
visible_from f (Some a) p b is visible = (a, refl, some_is (sym is ∙ visible))

module _ {D : Type 0} (content : D → Option (List ℕ)) (image : D → List ℕ → Type 0) (reads_image : (disk : D) (b : List ℕ) → content disk ≡ Some b → image disk b) where
  -- what a call makes of the content, where each image had P
  pub reads : (f : List ℕ → List ℕ) (old new : D) (P Q : List ℕ → Type 0)
      → content new ≡ option_map f (content old) → ((a : List ℕ) → P a → Q (f a)) → EachImage (image old) P → IfVisible (content new) Q
  reads f old new P Q is leads was b visible =
      let from = visible_from f (content old) (content new) b is visible in
      subst Q from.2 (leads from.0 (was from.0 (reads_image old from.0 from.1)))

  -- after a sync each image is what reads give
  pub synced : (old new : D) (Q : List ℕ → Type 0) → content new ≡ content old → ((c : List ℕ) → image new c → content new ≡ Some c) → IfVisible (content old) Q → EachImage (image new) Q
  synced old new Q same durable reads c now = reads c (sym same ∙ durable c now)

-- what a call makes of what reads give, whatever the images are
pub reads_on : (f : List ℕ → List ℕ) (old new : Option (List ℕ)) (P Q : List ℕ → Type 0) → new ≡ option_map f old → ((a : List ℕ) → P a → Q (f a)) → IfVisible old P → IfVisible new Q
reads_on f old new P Q is leads was b visible =
    let from = visible_from f old new b is visible in
    subst Q from.2 (leads from.0 (was from.0 from.1))
