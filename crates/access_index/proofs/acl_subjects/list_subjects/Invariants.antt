use Rattle.std.proofs.Common.{◌≡◌, take}
use Rattle.std.specs.List.{filter_map}
use Rattle.access_index.specs.Tables.{list_subject}
use Rattle.access_index.specs.Tables.{ArePlain}
use Rattle.access_index.proofs.acl_subjects.list_subjects.Given as goal

abbrev pub invariant-loop-path : goal.invariant-loop-path
invariant-loop-path l = record {
  subjects : l.subjects.items ≡ filter_map list_subject (take l.path-index l.paths);
  plain : ArePlain l.subjects.items;
}
