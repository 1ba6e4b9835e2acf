use Rattle.std.proofs.Common.{◌≡◌, ◌-◌}
use Rattle.stored_forms.specs.Readers.{times_at}
use Rattle.stored_forms.proofs.Loops.{with_front}
use Rattle.stored_forms.proofs.list_form.items_of.Given as goal

abbrev pub invariant-loop : goal.invariant-loop
invariant-loop g l = with_front l.items.items (times_at g.T.Stored.reads (l.count - l.counter) l.rest) ≡ times_at g.T.Stored.reads l.count l.bytes
