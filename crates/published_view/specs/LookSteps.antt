-- What the steps of a looker and of a publisher record.
use Rattle.std.specs.Prelude.{ℕ, ◌≡◌, ◌+◌, Option, List, []}
use Rattle.atomic_table.specs.declared.shared.Seat.{Seat}
use Rattle.left_right.specs.declared.board.Doing.{Doing}
use Rattle.left_right.specs.declared.part.Part.{Part}
use Rattle.left_right.specs.Sides.{view}
use Rattle.published_view.specs.declared.look_counter.LookRecord.{LookRecord}

module _ {I : Type 0} where
  -- one look more was made, and this list was published then
  abbrev pub RecordsLook : LookRecord I → List I → LookRecord I → Type 0
  RecordsLook v list w = (w.count ≡ v.count + 1) × (w.given ≡ list)

  abbrev pub no_looks : LookRecord I
  no_looks = record { count = 0; given = [] }

  module _ {T : Type 0} where
    -- how many looks were made from a place
    abbrev pub looks_of : Seat (Option (Part T)) (Doing T (LookRecord I)) → ℕ
    looks_of place = (view place).count

    -- the list that was published at the last look from a place
    abbrev pub given_of : Seat (Option (Part T)) (Doing T (LookRecord I)) → List I
    given_of place = (view place).given
