-- Who is a member of a group in a case.
use Rattle.std.specs.Prelude.{ℕ, Bool, ◌&&◌, List, bytes_eq, string_bytes}
use Rattle.std.specs.List.{list_any}
use Rattle.rule_cases.specs.declared.groups.Members.{Members}

abbrev pub is_listed : Members → List ℕ → List ℕ → List ℕ → Bool
is_listed members doc group agent = list_any
    (λ m. bytes_eq (string_bytes m.doc) doc && (bytes_eq (string_bytes m.group) group
    && bytes_eq (string_bytes m.agent) agent)) members.list.items
