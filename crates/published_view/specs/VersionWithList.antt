-- What is published, and what contracts see of a publisher.
use Rattle.std.specs.Prelude.{List, Option}
use Rattle.atomic_table.specs.Seated.{TableId}

-- a version, with the list that it stands for
pub record VersionWithList (V I : Type 0) : Type 0 where
  pub version : V
  pub list : List I

-- what a publisher shows, the version that it would publish next, and the table through which
-- readers read
pub record PublisherState (V I : Type 0) : Type 0 where
  pub version : V
  pub list : List I
  pub next : Option V
  pub table : TableId
