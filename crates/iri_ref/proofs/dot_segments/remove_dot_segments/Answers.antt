use Rattle.std.proofs.Common.{◌∙◌}
use Rattle.std.specs.Prelude.{string_bytes, option_copied}
use Rattle.iri_ref.specs.Target.{joined_path}
use Rattle.iri_ref.proofs.Dots.{clean_written}
use Rattle.iri_ref.proofs.dot_segments.remove_dot_segments.Goals as goal

pub returns : goal.returns
returns c =
    c.into_text.ensures ∙ clean_written c.new-writer.result c.push_path.new.self (string_bytes c.args.text) (joined_path (option_copied c.args.prefix) c.args.path.now) c.new-writer.ensures.before c.new-writer.ensures.path c.in_ok-push_path.ensures
