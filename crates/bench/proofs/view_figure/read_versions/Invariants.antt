use Rattle.std.proofs.Common.{[]}
use Rattle.bench.proofs.view_figure.read_versions.Given as goal

abbrev pub ghosts-measure : goal.ghosts-measure
ghosts-measure g a = record { book = a.list; first_number = 0; opening = [] }
