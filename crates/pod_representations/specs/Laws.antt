-- What is shown of a row depends on the base and the row, of a container also on its children.
use Rattle.std.specs.Prelude.{◌≡◌, ℕ, false, List, Some}
use Rattle.conditional_req.specs.Conditions.{needs_read}
use Rattle.pod_base.specs.declared.field.Field.{Field}
use Rattle.pod_base.specs.declared.method.Method.{Method}
use Rattle.pod_command.specs.declared.row.Row.{Row}
use Rattle.pod_rows.specs.Pod.{Pod, row_at}
use Rattle.pod_rows.specs.Tree.{children_of}
use Rattle.pod_rows.specs.WellFormed.{is_container_kind}
use Rattle.pod_representations.specs.Preconditions.{change_verdict}
use Rattle.pod_representations.specs.Representations.{represented}
use Rattle.pod_representations.specs.declared.row_offers.Media.{Media}

-- Two pods have the same base, the same row at a path and the same children there.
pub record AgreeAt (p q : Pod) (path : List ℕ) : Type 0 where
  pub base : p.base ≡ q.base
  pub row : row_at p.rows path ≡ row_at q.rows path
  pub children : children_of p.rows path ≡ children_of q.rows path

-- Of a row that is no container, nothing of the pod but the row is shown.
abbrev pub ShowsRowAlone : Type 0
ShowsRowAlone = (p q : Pod) (row : Row) (media : Media) → is_container_kind row.kind ≡ false
    → represented p row media ≡ represented q row media

-- Pods that agree at the path of a row show it alike.
abbrev pub ShowsAlike : Type 0
ShowsAlike = (p q : Pod) (row : Row) (media : Media) → AgreeAt p q row.path
    → represented p row media ≡ represented q row media

-- They come to the same verdicts.
abbrev pub JudgeAlike : Type 0
JudgeAlike = (p q : Pod) (row : Row) (fields : List Field) (method : Method)
    → AgreeAt p q row.path
    → change_verdict p (Some row) fields method ≡ change_verdict q (Some row) fields method

-- Fields that need no reader come to the same verdict on any two rows of any pods.
abbrev pub JudgeUnread : Type 0
JudgeUnread = (p q : Pod) (row other : Row) (fields : List Field) (method : Method)
    → needs_read fields ≡ false
    → change_verdict p (Some row) fields method ≡ change_verdict q (Some other) fields method
