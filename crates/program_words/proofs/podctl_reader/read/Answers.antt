use Rattle.std.proofs.Common.{map}
use Rattle.std.proofs.lemmas.Result.{IfOk-weaker}
use Rattle.std.specs.String.{string_bytes}
use Rattle.program_words.proofs.Soundness.{sound_named}
use Rattle.program_words.proofs.podctl_reader.read.Goals as goal

pub returns-in-Some-clause-sound : goal.returns-in-Some-clause-sound
returns-in-Some-clause-sound c = IfOk-weaker c.command_named.result _ _ (λ found e. sound_named c.as_str.result.now (map string_bytes c.in-Some.rest.now) found e) c.command_named.ensures.command
