-- What the streams of a run were before it and after it.
use Rattle.std.specs.Prelude.{ℕ, List, Option}

-- The input, the output and the error sink before a run and after it, where they show that, and
-- their counts: of faults, and of the input also of reads and of those that found its end.
pub record Streams : Type 0 where
  pub old_input : Option (List ℕ)
  pub new_input : Option (List ℕ)
  pub old_output : Option (List ℕ)
  pub new_output : Option (List ℕ)
  pub old_errors : Option (List ℕ)
  pub new_errors : Option (List ℕ)
  pub old_input_faults : ℕ
  pub new_input_faults : ℕ
  pub old_output_faults : ℕ
  pub new_output_faults : ℕ
  pub old_error_faults : ℕ
  pub new_error_faults : ℕ
  pub old_reads : ℕ
  pub new_reads : ℕ
  pub old_ends : ℕ
  pub new_ends : ℕ

-- those of a source and two sinks
abbrev pub streams_of : {S K E : Type 0} → (S → Option (List ℕ)) → (S → ℕ) → (S → ℕ) → (S → ℕ)
    → (K → Option (List ℕ)) → (K → ℕ) → (E → Option (List ℕ)) → (E → ℕ) → S → S → K → K → E → E
    → Streams
streams_of rest input_faults reads ends taken output_faults told error_faults input input_new
    output output_new errors errors_new = record {
      old_input = rest input;
      new_input = rest input_new;
      old_output = taken output;
      new_output = taken output_new;
      old_errors = told errors;
      new_errors = told errors_new;
      old_input_faults = input_faults input;
      new_input_faults = input_faults input_new;
      old_output_faults = output_faults output;
      new_output_faults = output_faults output_new;
      old_error_faults = error_faults errors;
      new_error_faults = error_faults errors_new;
      old_reads = reads input;
      new_reads = reads input_new;
      old_ends = ends input;
      new_ends = ends input_new;
    }
