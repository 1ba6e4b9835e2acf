-- Elements that are appended one by one.
use Rattle.std.proofs.Common.{◌≡◌, List, [], ◌∷◌, ◌++◌, ap, append_assoc, ◌∙◌}

pub two_more : {A : Type 0} (xs ys zs : List A) (a b : A) → ys ≡ xs ++ a ∷ [] → zs ≡ ys ++ b ∷ [] → zs ≡ xs ++ a ∷ b ∷ []
two_more xs ys zs a b h k = k ∙ ap (λ l. l ++ b ∷ []) h ∙ append_assoc xs (a ∷ []) (b ∷ [])

pub three_more : {A : Type 0} (xs ys zs ws : List A) (a b c : A) → ys ≡ xs ++ a ∷ [] → zs ≡ ys ++ b ∷ [] → ws ≡ zs ++ c ∷ [] → ws ≡ xs ++ a ∷ b ∷ c ∷ []
three_more xs ys zs ws a b c h k l = l ∙ ap (λ r. r ++ c ∷ []) (two_more xs ys zs a b h k) ∙ append_assoc xs (a ∷ b ∷ []) (c ∷ [])

pub four_first : {A : Type 0} (vs xs ys zs ws : List A) (a b c d : A) → vs ≡ [] → xs ≡ vs ++ a ∷ [] → ys ≡ xs ++ b ∷ [] → zs ≡ ys ++ c ∷ [] → ws ≡ zs ++ d ∷ [] → ws ≡ a ∷ b ∷ c ∷ d ∷ []
four_first vs xs ys zs ws a b c d none h k l m = three_more xs ys zs ws b c d k l m ∙ ap (λ r. r ++ b ∷ c ∷ d ∷ []) (h ∙ ap (λ r. r ++ a ∷ []) none)
