-- The last of the items, and their trail.
use Rattle.std.proofs.Common.{◌≡◌, Bool, false, List, [], ◌∷◌, ◌++◌, refl, ap, ◌∙◌}
use Rattle.std.specs.List.{AllByRecursion}
use Rattle.std.proofs.lemmas.Grind.{flat_map-append}
use Rattle.std.proofs.lemmas.List.{append-nil}
use Rattle.pod_core.specs.Session.{Item, UpgradesLast, ends_upgraded, upgrades}
use Rattle.conn_talk.specs.Talks.{IsPlain}
use Rattle.conn_talk.specs.Trails.{line_of, trail_of}

-- the last of items that switched no protocols before
pub plain_last : (items : List Item) (item : Item) → AllByRecursion IsPlain items → UpgradesLast (items ++ item ∷ [])
plain_last [] item h = tt
plain_last (one ∷ []) item h = (h.0, tt)
plain_last (one ∷ other ∷ items) item h = (h.0, plain_last (other ∷ items) item h.1)

pub last_end : (items : List Item) (item : Item) → ends_upgraded (items ++ item ∷ []) ≡ upgrades item.outcome
last_end [] item = refl
last_end (one ∷ []) item = refl
last_end (one ∷ other ∷ items) item = last_end (other ∷ items) item

pub plain_all : (items : List Item) → AllByRecursion IsPlain items → UpgradesLast items
plain_all [] h = tt
plain_all (item ∷ []) h = tt
plain_all (item ∷ other ∷ items) h = (h.0, plain_all (other ∷ items) h.1)

pub plain_end : (items : List Item) → AllByRecursion IsPlain items → ends_upgraded items ≡ false
plain_end [] h = refl
plain_end (item ∷ []) h = h.0
plain_end (item ∷ other ∷ items) h = plain_end (other ∷ items) h.1

pub trail_append : (trails : Bool) (items : List Item) (item : Item) → trail_of trails (items ++ item ∷ []) ≡ trail_of trails items ++ line_of trails item
trail_append trails items item = flat_map-append (line_of trails) items (item ∷ []) ∙ ap (λ rest. trail_of trails items ++ rest) (append-nil (line_of trails item))
