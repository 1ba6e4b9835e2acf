use Rattle.std.proofs.Common.{Option, IfSome, map, subst, sym}
use Rattle.std.specs.String.{string_bytes}
use Rattle.program_words.specs.declared.podd_reader.Settings.{Settings}
use Rattle.program_words.proofs.Limits.{AreWithin, port_is, reading_within, workers_is}
use Rattle.program_words.proofs.podd_reader.read_settings.Goals as goal

pub returns-clause-port : goal.returns-clause-port
returns-clause-port c =
    port_is c.settings_in.result (subst (λ (o : Option Settings). IfSome o AreWithin) (sym c.settings_in.ensures) (reading_within (map string_bytes c.args.words.now)))

pub returns-clause-workers : goal.returns-clause-workers
returns-clause-workers c =
    workers_is c.settings_in.result (subst (λ (o : Option Settings). IfSome o AreWithin) (sym c.settings_in.ensures) (reading_within (map string_bytes c.args.words.now)))
