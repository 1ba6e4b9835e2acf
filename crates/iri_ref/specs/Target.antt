-- The target of a reference, as slices of the base and of the reference.
use Rattle.std.specs.Prelude.{ℕ, List, ◌∷◌, ◌++◌, Option, Some, None, option_copied}
use Rattle.iri_ref.specs.declared.target_components.TargetPath.{TargetPath}
use Rattle.iri_ref.specs.declared.target_components.TargetPath.TheVariants.{Unchanged, WithoutDots}
use Rattle.iri_ref.specs.declared.target_components.Target.{Target}
use Rattle.iri_ref.specs.Characters.{slash}
use Rattle.iri_ref.specs.Components.{Components}
use Rattle.iri_ref.specs.Segments.{remove_dot_segments}

-- Two texts with a slash between them, or the second alone.
abbrev pub joined_path : Option (List ℕ) → List ℕ → List ℕ
joined_path None path = path
joined_path (Some prefix) path = prefix ++ slash ∷ path

abbrev pub target_path_text : TargetPath → List ℕ
target_path_text (Unchanged path) = path.now
target_path_text (WithoutDots prefix path) = remove_dot_segments
    (joined_path (option_copied prefix) path.now)

abbrev pub target_of : Target → Components
target_of t = record {
  scheme = option_copied t.scheme;
  authority = option_copied t.authority;
  path = target_path_text t.path;
  query = option_copied t.query;
  fragment = option_copied t.fragment;
}
