-- The IRIs of the Linked Data Platform that containers use.
use Rattle.std.specs.Prelude.{ℕ, List}
use Rattle.pod_rows.specs.declared.vocabulary.TheConstants.{LDP_BASIC_CONTAINER, LDP_CONTAINER}
use Rattle.pod_rows.specs.declared.vocabulary.TheConstants.{LDP_CONTAINS, LDP_RESOURCE}

unfoldable pub ldp_basic_container : List ℕ
ldp_basic_container = LDP_BASIC_CONTAINER.now

unfoldable pub ldp_container : List ℕ
ldp_container = LDP_CONTAINER.now

unfoldable pub ldp_resource : List ℕ
ldp_resource = LDP_RESOURCE.now

unfoldable pub ldp_contains : List ℕ
ldp_contains = LDP_CONTAINS.now
