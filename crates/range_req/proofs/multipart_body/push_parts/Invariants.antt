use Rattle.std.proofs.Common.{◌≡◌, true, ◌++◌, length}
use Rattle.std.specs.List.{flat_map, list_all}
use Rattle.range_req.specs.RangeSets.{is_within}
use Rattle.range_req.specs.Multipart.{part_text}
use Rattle.range_req.proofs.multipart_body.push_parts.Given as goal

-- the parts that are left are inside of the body, and make the rest of the text
abbrev pub invariant-loop-part : goal.invariant-loop-part
invariant-loop-part l = record {
  within : list_all (is_within (length l.body)) l.rest ≡ true;
  text : l.text ++ flat_map (part_text l.boundary l.ctype l.body) l.rest ≡ l.fn.text ++ flat_map (part_text l.boundary l.ctype l.body) l.parts;
}

abbrev pub decreases-loop-part : goal.decreases-loop-part
decreases-loop-part l = length l.rest
