-- The token table, as a run reads it.
use Rattle.std.specs.Prelude.{◌≡◌, ◌⊎◌, ℕ, ◌^◌, ◌≤◌, Bool, true, false, List, codes, length, Option}
use Rattle.pod_base.specs.Counts.{CountIncreased}
use Rattle.pod_io.specs.Writing.{number_line}
use Rattle.pod_io.specs.Counts.{next_count}
use Rattle.pod_pipe.specs.Streams.{AddsAllReads, AtEnd, Reads}
use Rattle.conn_talk.specs.declared.agents.Agents.{Agents}
use Rattle.conn_talk.specs.declared.agents.Agents.TheVariants.{Owner, Table}
use Rattle.token_table.specs.TableLines.{AreSound, IsFirstFault, entries, lines_of}
use Rattle.token_table.specs.declared.table_line.TokenEntry.{TokenEntry}
use Rattle.pod_pipe.specs.declared.token_file.TableFault.{TableFault}
use Rattle.pod_pipe.specs.declared.token_file.TableFault.TheVariants.{Line, NoMemory, ReadFault}
use Rattle.pod_pipe.specs.declared.token_file.TableFault.TheVariants.{ReadLimit}

-- what the source of the token table was before a run and after it, and its counts
pub record TokenSource : Type 0 where
  pub old : Option (List ℕ)
  pub new : Option (List ℕ)
  pub old_faults : ℕ
  pub new_faults : ℕ
  pub old_reads : ℕ
  pub new_reads : ℕ
  pub old_ends : ℕ
  pub new_ends : ℕ

-- that of a source before a run and after it
abbrev pub tokens_of : {T : Type 0} → (T → Option (List ℕ)) → (T → ℕ) → (T → ℕ) → (T → ℕ) → T
    → T → TokenSource
tokens_of rest faults reads ends tokens tokens_new = record {
  old = rest tokens;
  new = rest tokens_new;
  old_faults = faults tokens;
  new_faults = faults tokens_new;
  old_reads = reads tokens;
  new_reads = reads tokens_new;
  old_ends = ends tokens;
  new_ends = ends tokens_new;
}

-- nothing was read of a source
pub record IsUnread (source : TokenSource) : Type 0 where
  pub rest : source.new ≡ source.old
  pub faults : source.new_faults ≡ source.old_faults
  pub reads : source.new_reads ≡ source.old_reads
  pub ends : source.new_ends ≡ source.old_ends

-- A source was read to its end, and this is its text. One read found the end, and nothing was read
-- after it.
pub record IsTableRead (text : List ℕ) (source : TokenSource) : Type 0 where
  pub reads : Reads text source.old source.new
  pub all : AtEnd source.new
  pub once : source.new_ends ≡ next_count source.old_ends

-- A source was read 2^40 times, and each read returned a byte: none found the end.
pub record IsReadToLimit (source : TokenSource) : Type 0 where
  pub text : List ℕ
  pub reads : Reads text source.old source.new
  pub long : 2 ^ 40 ≤ length text
  pub counted : AddsAllReads source.old_reads source.new_reads
  pub no_end : source.new_ends ≡ source.old_ends

-- the table of the lines of the source's text, none of which is faulty
pub record IsTable (tokens : List TokenEntry) (source : TokenSource) : Type 0 where
  pub text : List ℕ
  pub read : IsTableRead text source
  pub table : tokens ≡ entries (lines_of text)
  pub sound : AreSound (lines_of text)

-- the status of a run that found no table
abbrev pub table_status : TableFault → ℕ
table_status ReadFault = 3
table_status NoMemory = 7
table_status (Line number) = 9
table_status ReadLimit = 14

-- Why there is no table: the first faulty line of the source's text; a read failed; or the limit on
-- reads was reached.
abbrev pub HasTableCause : TableFault → TokenSource → Type 0
HasTableCause (Line number) source = (text : List ℕ) × IsTableRead text source
    × IsFirstFault (lines_of text) number
HasTableCause ReadFault source = CountIncreased source.old_faults source.new_faults
    × (source.new_ends ≡ source.old_ends)
HasTableCause ReadLimit source = IsReadToLimit source
HasTableCause NoMemory source =
    (source.new_ends ≡ source.old_ends) ⊎ (source.new_ends ≡ next_count source.old_ends)

-- Why agents aren't known: there is no table; or, where none is read, out of memory.
abbrev pub HasAgentsCause : Bool → TableFault → TokenSource → Type 0
HasAgentsCause false fault source = (fault ≡ NoMemory) × IsUnread source
HasAgentsCause true fault source = HasTableCause fault source

-- the line of a fault of the table; of another refusal there is none
abbrev pub table_line : ℕ → List ℕ
table_line number = number_line (codes "tokens line ") number

-- How requests are authenticated: every request is this owner's, and no table is read; or by the
-- table.
abbrev pub IsAsked : Bool → List ℕ → Agents → TokenSource → Type 0
IsAsked false owner agents source = (agents ≡ Owner owner) × IsUnread source
IsAsked true owner agents source =
    (tokens : List TokenEntry) × (agents ≡ Table tokens) × IsTable tokens source

-- internal: the first faulty line of these lines, or out of memory
abbrev pub IsFaultOf : TableFault → List (List ℕ) → Type 0
IsFaultOf (Line number) lines = IsFirstFault lines number
IsFaultOf NoMemory lines = Unit {0}
IsFaultOf ReadFault lines = ⊥
IsFaultOf ReadLimit lines = ⊥
