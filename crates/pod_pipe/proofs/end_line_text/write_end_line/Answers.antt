use Rattle.std.proofs.Common.{inl, refl}
use Rattle.pod_pipe.proofs.end_line_text.write_end_line.Goals as goal

-- a write failed before, and nothing is said here
pub returns-in-WriteFault-clause-told : goal.returns-in-WriteFault-clause-told
returns-in-WriteFault-clause-told g c = inl refl
