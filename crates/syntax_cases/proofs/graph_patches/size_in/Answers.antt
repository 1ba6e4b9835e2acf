use Rattle.std.proofs.Common.{inl, inr}
use Rattle.syntax_cases.proofs.graph_patches.size_in.Goals as goal

pub show_size-requires : goal.show_size-requires
show_size-requires c =
    record {
      deletions = λ name h. (c.in-Ok.ensures.mapping.solution.variables name).1 (c.requires name (inl h));
      insertions = λ name h. (c.in-Ok.ensures.mapping.solution.variables name).1 (c.requires name (inr h));
    }
