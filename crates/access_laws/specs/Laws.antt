-- Who may do what in a pod, whatever its state.
use Rattle.std.specs.Prelude.{◌≡◌, ◌↔◌, ℕ, Bool, true, false, IsTrue, bytes_eq, codes, List, Some}
use Rattle.std.specs.Prelude.{filter, is_some, map, zip}
use Rattle.std.specs.List.{list_any}
use Rattle.pod_rows.specs.FirstPods.{first_pod}
use Rattle.pod_access.specs.AllowField.{modes_at}
use Rattle.pod_access.specs.Bases.{basis_of, bases_of, ground_by}
use Rattle.pod_access.specs.PodGrants.{PodGrants}
use Rattle.pod_base.specs.declared.agent.Agent.{Agent}
use Rattle.pod_base.specs.declared.agent.Agent.TheVariants.{Known}
use Rattle.pod_base.specs.declared.agent.Mode.{Mode}
use Rattle.pod_base.specs.declared.agent.Mode.TheVariants.{Append, Control, Read, Write}
use Rattle.pod_base.specs.declared.moment.Moment.{Moment}
use Rattle.pod_path.specs.Hierarchy.{is_acl, root}
use Rattle.pod_path.specs.Norm.{IsPath}
use Rattle.pod_rows.specs.Access.{Governs, effective_of}
use Rattle.pod_rows.specs.Base.{is_base}
use Rattle.pod_rows.specs.Pod.{Pod}
use Rattle.pod_rows.specs.WellFormed.{WellFormed}
use Rattle.pod_access.specs.Allow.{words}
use Rattle.pod_access.specs.Needs.{needs_of}
use Rattle.pod_access.specs.declared.request_needs.Need.{Need}
use Rattle.pod_access.specs.declared.request_needs.Shape.{Shape}

-- ---- the owner

abbrev pub OwnerControlsRoot : Type 0
OwnerControlsRoot = (pod : Pod) → WellFormed pod → PodGrants pod (Known pod.owner) root Control

-- Each request of the owner for the root's access list has a basis for each of its needs.
abbrev pub OwnerChangesRootList : Type 0
OwnerChangesRootList = (pod : Pod) (shape : Shape) → WellFormed pod → shape.path ≡ codes "/.acl"
    → IsTrue (is_some (bases_of pod (Known pod.owner) (needs_of shape)))

-- In a new pod the owner has every mode at every path.
abbrev pub OwnerHasEverything : Type 0
OwnerHasEverything = (base owner : List ℕ) (modified : Moment) (path : List ℕ) (mode : Mode)
    → IsTrue (is_base base) → IsPath path
    → PodGrants (first_pod base owner modified) (Known owner) path mode

-- Whoever has a mode in a new pod is its owner.
abbrev pub OthersHaveNothing : Type 0
OthersHaveNothing = (base owner : List ℕ) (modified : Moment) (path : List ℕ) (mode : Mode)
    (agent : Agent) → IsTrue (is_base base)
    → PodGrants (first_pod base owner modified) agent path mode → agent ≡ Known owner

-- ---- grounds and bases

-- The list that governs a path has a ground exactly where the mode is granted.
abbrev pub GroundsAreGrants : Type 0
GroundsAreGrants = (pod : Pod) (agent : Agent) (path : List ℕ) (mode : Mode) (list : Governs)
    → WellFormed pod → effective_of pod.rows path ≡ Some list
    → IsTrue (is_some (ground_by pod agent mode list)) ↔ PodGrants pod agent path mode

-- A need has a basis exactly where it is granted.
abbrev pub BasesAreGrants : Type 0
BasesAreGrants = (pod : Pod) (agent : Agent) (need : Need) → WellFormed pod
    → IsTrue (is_some (basis_of pod agent need)) ↔ PodGrants pod agent need.path need.mode

-- ---- WAC-Allow

-- The words that are shown, in their order.
abbrev pub shown_words : List Bool → List (List ℕ)
shown_words granted = map (λ pair. pair.1) (filter (λ pair. pair.0) (zip granted words))

-- the word of a mode
abbrev pub word_of : Mode → List ℕ
word_of Read = codes "read"
word_of Write = codes "write"
word_of Append = codes "append"
word_of Control = codes "control"

-- Is the word of the mode shown to the agent at the path?
abbrev pub shows : Pod → Agent → List ℕ → Mode → Bool
shows pod agent path mode =
    list_any (λ word. bytes_eq word (word_of mode)) (shown_words (modes_at pod agent path))

-- A word is shown exactly where its mode is granted. A description has the words of its subject.
abbrev pub WordsAreGrants : Type 0
WordsAreGrants = (pod : Pod) (agent : Agent) (path : List ℕ) (mode : Mode) → WellFormed pod
    → is_acl path ≡ false
    → IsTrue (shows pod agent path mode) ↔ PodGrants pod agent path mode

-- The words of an access list are shown exactly where Control of its subject is granted.
abbrev pub ListWordsAreControl : Type 0
ListWordsAreControl = (pod : Pod) (agent : Agent) (path : List ℕ) (mode : Mode) → WellFormed pod
    → is_acl path ≡ true
    → IsTrue (shows pod agent path mode) ↔ PodGrants pod agent path Control
