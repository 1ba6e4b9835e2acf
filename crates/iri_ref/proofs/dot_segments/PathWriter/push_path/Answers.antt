use Rattle.std.proofs.Common.{◌≡◌, ℕ, List, Option, Some, None, ◌∙◌, ap, sym, subst}
use Rattle.std.specs.Prelude.{OnOk, option_copied}
use Rattle.std.proofs.lemmas.Result.{on_ok_weaker}
use Rattle.iri_ref.specs.Segments.{segments, with_trailing_slash}
use Rattle.iri_ref.specs.Target.{joined_path}
use Rattle.iri_ref.specs.PathWriter.{after_segments}
use Rattle.iri_ref.proofs.PathWriting.{with_path, writes_parts}
use Rattle.iri_ref.proofs.dot_segments.PathWriter.push_path.Goals as goal
use Rattle.iri_ref.proofs.dot_segments.PathWriter.push_path.Goals.{in-Some+in_ok-push_segments, in_default}

pub returns : goal.returns
returns c =
    let old = c.args.self.now in
    let new = c.push_ending.new.self in
    let path = c.args.path.now in
    let Writes : Option (List ℕ) → Type 0 = λ prefix. OnOk c.push_ending.result (new ≡ with_path old (after_segments old.path (with_trailing_slash (segments (joined_path prefix path))))) in
    elim c.match-prefix.branch [
      | in-Some+in_ok-push_segments w ↦ (
          let prefix : option_copied c.args.prefix ≡ Some w.in-Some.prefix.now = ap option_copied w.in-Some.is in
          let first = w.self-is ∙ w.in_ok-push_segments.ensures.written in
          subst Writes (sym prefix) (on_ok_weaker c.push_ending.result (λ second. writes_parts old c.match-prefix.self new w.in-Some.prefix.now path first second) c.push_ending.ensures))
      | in_default w ↦ (
          let prefix : option_copied c.args.prefix ≡ None = ap option_copied w.in_default.is in
          let same = w.self-is in
          subst Writes (sym prefix) (on_ok_weaker c.push_ending.result (λ second. second ∙ ap (λ v. with_path v (after_segments v.path (with_trailing_slash (segments path)))) same) c.push_ending.ensures))
    ]
