use Rattle.std.proofs.Common.{[]}
use Rattle.bench.proofs.view_versions.look_at_versions.Given as goal

abbrev pub ghosts-look : goal.ghosts-look
ghosts-look g a = record { book = a.list; first_number = 0; opening = [] }
