use Rattle.std.proofs.Common.{[]}
use Rattle.bench.proofs.view_versions.follow_versions.Given as goal

abbrev pub ghosts-follow_beside : goal.ghosts-follow_beside
ghosts-follow_beside g a = record { book = a.list; first_number = 0; opening = [] }
