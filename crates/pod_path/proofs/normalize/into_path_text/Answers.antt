use Rattle.std.proofs.Common.{rules}
use Rattle.std.specs.Prelude.{IsTrue}
use Rattle.std.proofs.lemmas.Str.{IsUtf8-from_ascii}
use Rattle.pod_path.specs.Norm.{has_path_characters}
use Rattle.pod_path.proofs.NormalPaths.{spelled_ascii}
use Rattle.pod_path.proofs.normalize.into_path_text.Goals as goal

pub unwrap-requires : goal.unwrap-requires
unwrap-requires c =
    let characters : IsTrue (has_path_characters c.args.bytes.items) = search rules in
    c.from_utf8.ensures.succeeds (IsUtf8-from_ascii c.args.bytes.items (spelled_ascii c.args.bytes.items characters))
