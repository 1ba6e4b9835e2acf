use Rattle.std.proofs.Common.{rules, ◌≡◌, true, false, Some, take, drop, subst, sym, length, ◌-◌}
use Rattle.std.specs.Ordering.{is_lt, is_le}
use Rattle.std.specs.List.Sorted.{IsPartitionPoint, IsPartitionedBy}
use Rattle.std.proofs.lemmas.List.{take_rest}
use Rattle.std.proofs.lemmas.List.Sorted.{IsPartitionPoint-from_clause}
use Rattle.rdf_graph.specs.SubjectRange.{IsSubjectRange}
use Rattle.rdf_graph.specs.Triple.{line, subject_prefix, prefix_cmp, triple_cmp}
use Rattle.rdf_graph.proofs.Sorted.{sorted_drop}
use Rattle.rdf_graph.proofs.SubjectRanges.{range_between, lines_before, lines_upto}
use Rattle.rdf_graph.proofs.matching.subject_lines.Goals as goal

pub returns : goal.returns
returns c =
    let rest : take (length c.args.triples.now - c.partition_point-low.result) (drop c.partition_point-low.result c.args.triples.now) ≡ drop c.partition_point-low.result c.args.triples.now =
    take_rest c.args.triples.now c.partition_point-low.result in
    let before : IsPartitionPoint (λ t. is_lt (prefix_cmp (line t) (subject_prefix c.args.subject.now)) ≡ true) (λ t. is_lt (prefix_cmp (line t) (subject_prefix c.args.subject.now)) ≡ false) c.args.triples.now c.partition_point-low.result =
    IsPartitionPoint-from_clause (λ t. is_lt (prefix_cmp (line t) (subject_prefix c.args.subject.now))) c.args.triples.now c.partition_point-low.result c.partition_point-low.ensures.partitioned
    (lines_before c.args.triples.now c.args.subject.now c.requires) (λ a r f' called. search rules) in
    let upto : IsPartitionPoint (λ t. is_le (prefix_cmp (line t) (subject_prefix c.args.subject.now)) ≡ true) (λ t. is_le (prefix_cmp (line t) (subject_prefix c.args.subject.now)) ≡ false)
    (take (length c.args.triples.now - c.partition_point-low.result) (drop c.partition_point-low.result c.args.triples.now)) c.partition_point-count.result =
    IsPartitionPoint-from_clause (λ t. is_le (prefix_cmp (line t) (subject_prefix c.args.subject.now))) _ c.partition_point-count.result c.partition_point-count.ensures.partitioned
    (subst (IsPartitionedBy (λ t. is_le (prefix_cmp (line t) (subject_prefix c.args.subject.now)))) (sym rest)
    (lines_upto (drop c.partition_point-low.result c.args.triples.now) c.args.subject.now (sorted_drop triple_cmp c.partition_point-low.result c.args.triples.now c.requires)))
    (λ a r f' called. search rules) in
    record {
      subject_range = subst (λ ys. IsSubjectRange (Some c.args.subject.now) c.args.triples.now (take c.partition_point-count.result ys)) (sym rest)
          (range_between c.args.triples.now c.args.subject.now c.requires c.partition_point-low.result c.partition_point-count.result before
          (subst (λ ys. IsPartitionPoint (λ t. is_le (prefix_cmp (line t) (subject_prefix c.args.subject.now)) ≡ true) (λ t. is_le (prefix_cmp (line t) (subject_prefix c.args.subject.now)) ≡ false) ys c.partition_point-count.result) rest upto));
    }
