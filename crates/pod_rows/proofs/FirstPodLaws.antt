-- The first pod of every owner is well-formed.
use Rattle.std.proofs.Common.{◌≡◌, ℕ, true, List, refl, arith}
use Rattle.std.specs.Prelude.{IsTrue}
use Rattle.std.specs.List.{list_all}
use Rattle.std.specs.List.Sorted.{IsStrictlySortedBy}
use Rattle.std.proofs.lemmas.Bool.{and_from}
use Rattle.pod_base.specs.declared.moment.Moment.{Moment}
use Rattle.pod_command.specs.Encodable.{AreInOrder}
use Rattle.pod_rows.specs.Base.{is_base}
use Rattle.pod_rows.specs.WellFormed.{WellFormed, has_normal_path, has_first_rows, has_parent, lacks_twin, has_subject}
use Rattle.pod_rows.specs.FirstPods.{first_pod, FirstPodsAreWellFormed}
use Rattle.pod_rows.proofs.OwnerTriples.{owner_guards}

module _ (base owner : List ℕ) (modified : Moment) where
  order : AreInOrder (first_pod base owner modified).rows
  unfolding IsStrictlySortedBy
  order = ((refl, tt), (tt, tt))

  paths : IsTrue (list_all has_normal_path (first_pod base owner modified).rows)
  unfolding has_normal_path
  paths = refl

  rows_are_first : IsTrue (has_first_rows (first_pod base owner modified))
  unfolding has_first_rows
  rows_are_first = owner_guards base owner

  parents : IsTrue (list_all (has_parent (first_pod base owner modified).rows) (first_pod base owner modified).rows)
  unfolding has_parent
  parents = refl

  twins : IsTrue (list_all (lacks_twin (first_pod base owner modified).rows) (first_pod base owner modified).rows)
  unfolding lacks_twin
  twins = refl

  subjects : IsTrue (list_all (has_subject (first_pod base owner modified).rows) (first_pod base owner modified).rows)
  unfolding has_subject
  subjects = refl

pub first_pods_well_formed : FirstPodsAreWellFormed
first_pods_well_formed base owner modified form = record {
  order = order base owner modified;
  paths = paths base owner modified;
  first_rows = rows_are_first base owner modified;
  kinds = refl;
  parents = parents base owner modified;
  twins = twins base owner modified;
  subjects = subjects base owner modified;
  containment = refl;
  number = omega arith;
  base = form;
}
