-- Entries and snapshots without the spare room of their lists. Two that agree in all else are equal
-- values, and have one bare form.
use Rattle.std.specs.Prelude.{[]}
use Rattle.pod_base.specs.Listed.{Listed, listed}
use Rattle.pod_command.specs.declared.entry.Entry.{Entry}
use Rattle.pod_command.specs.declared.snapshot.Snapshot.{Snapshot}

-- the list without its spare room
abbrev pub bare : {X : Type 0} → Listed X → Listed X
bare list = listed list.items 0

abbrev pub bare_entry : Entry → Entry
bare_entry e = record {
  seq = e.seq;
  conn = e.conn;
  number = e.number;
  agent = e.agent;
  moment = e.moment;
  method = e.method;
  path = e.path;
  edits = bare e.edits;
  bases = bare e.bases;
}

-- what format 1 has of an entry: all but its bases
abbrev pub without_bases : Entry → Entry
without_bases e = record {
  seq = e.seq;
  conn = e.conn;
  number = e.number;
  agent = e.agent;
  moment = e.moment;
  method = e.method;
  path = e.path;
  edits = bare e.edits;
  bases = listed [] 0;
}

abbrev pub bare_snapshot : Snapshot → Snapshot
bare_snapshot s = record { seq = s.seq; base = s.base; owner = s.owner; rows = bare s.rows }
