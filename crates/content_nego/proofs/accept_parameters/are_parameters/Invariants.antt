use Rattle.std.proofs.Common.{◌≡◌, length, map}
use Rattle.std.specs.List.{list_all}
use Rattle.httparse.specs.Grammar.{trim_ows}
use Rattle.field_list.specs.Parts.{parts_rest}
use Rattle.content_nego.specs.Parameters.{is_parameter}
use Rattle.content_nego.proofs.accept_parameters.are_parameters.Given as goal

abbrev pub invariant-loop-part : goal.invariant-loop-part
invariant-loop-part l =
    list_all is_parameter (map trim_ows (parts_rest l.parts)) ≡ list_all is_parameter (map trim_ows (parts_rest l.initial.parts))

abbrev pub decreases-loop-part : goal.decreases-loop-part
decreases-loop-part l = length (parts_rest l.parts)
