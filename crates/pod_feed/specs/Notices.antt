-- The text of a notice: an activity of ActivityStreams 2.0 as an object of JSON. No character of an
-- IRI is one that JSON escapes.
use Rattle.std.specs.Prelude.{ℕ, List, ◌++◌, codes, decimal}
use Rattle.pod_path.specs.Hierarchy.{uri_of}
use Rattle.pod_pages.specs.declared.entry_effects.Effect.{Effect}
use Rattle.pod_pages.specs.declared.entry_effects.EffectKind.{EffectKind}
use Rattle.pod_pages.specs.declared.entry_effects.EffectKind.TheVariants.{Create, Update, Delete}

-- the type of the activity
abbrev pub kind_word : EffectKind → List ℕ
kind_word Create = codes "Create"
kind_word Update = codes "Update"
kind_word Delete = codes "Delete"

-- with the number of the entry, the IRI of the row, and the type
abbrev pub notice_text : ℕ → List ℕ → List ℕ → List ℕ
notice_text seq object kind =
    codes "{\"@context\":\"https://www.w3.org/ns/activitystreams\",\"id\":\"urn:pod-entry:"
    ++ (decimal seq ++ (codes "\",\"object\":\"" ++ (object ++ (codes "\",\"type\":\""
    ++ (kind ++ codes "\"}")))))

-- The notice of an effect in the pod with that base.
unfoldable pub notice_of : List ℕ → Effect → List ℕ
notice_of base effect =
    notice_text effect.seq (uri_of base effect.path) (kind_word effect.kind)
