-- The subjects of access lists are no access lists or descriptions.
use Rattle.std.proofs.Common.{◌≡◌, ℕ, List, [], ◌∷◌, ◌++◌, Option, Some, None, sym}
use Rattle.std.specs.Prelude.{option_to_list, IfSome}
use Rattle.pod_path.specs.Hierarchy.{subject_of}
use Rattle.pod_path.specs.Norm.{IsPath}
use Rattle.access_index.specs.Tables.{ArePlain}
use Rattle.access_index.proofs.Governance.{no_subject, subject_plain}

pub list_plain : (path : List ℕ) (o : Option (List ℕ)) → IsPath path → o ≡ subject_of path → IfSome o (λ t. subject_of t ≡ None)
list_plain path None h e = tt
list_plain path (Some s) h e = no_subject s (subject_plain path s h (sym e))

all_append : (xs ys : List (List ℕ)) → ArePlain xs → ArePlain ys → ArePlain (xs ++ ys)
all_append [] ys a b = b
all_append (x ∷ xs) ys a b = (a.0, all_append xs ys a.1 b)

pub plain_more : (xs : List (List ℕ)) (o : Option (List ℕ)) → ArePlain xs → IfSome o (λ t. subject_of t ≡ None) → ArePlain (xs ++ option_to_list o)
plain_more xs None a h = all_append xs [] a tt
plain_more xs (Some s) a h = all_append xs (s ∷ []) a (h, tt)
