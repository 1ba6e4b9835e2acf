use Rattle.std.proofs.Common.{sym, ◌∙◌}
use Rattle.jsonld_expanded.proofs.Adding.{adds_object_as_type, adds_object_as_value, on_ok}
use Rattle.jsonld_expanded.proofs.value_writing.put_object.Goals as goal

pub returns-then-is_type : goal.returns-then-is_type
returns-then-is_type c = on_ok c.put_name.result _ _ (adds_object_as_type c.args.writer.now c.put_name.new.writer c.args.triple.now (sym c.is_type.ensures ∙ c.if-is_type.true)) c.put_name.ensures

pub returns-else-is_type : goal.returns-else-is_type
returns-else-is_type c = on_ok c.put_value.result _ _ (adds_object_as_value c.args.writer.now c.put_value.new.writer c.args.triple.now (sym c.is_type.ensures ∙ c.if-is_type.false)) c.put_value.ensures
