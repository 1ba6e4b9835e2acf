use Rattle.std.proofs.Common.{Err, ap, subst}
use Rattle.token_table.specs.Credentials.{asked_view}
use Rattle.pod_pipe.specs.Holders.{AdvancesUnanswered, CountsUnanswered, faults_in, out_of_memory_in}
use Rattle.pod_pipe.specs.declared.holder.HolderFault.{HolderFault}
use Rattle.pod_pipe.proofs.HolderLemmas.{came_answered, came_faulted, came_out_of_memory}
use Rattle.pod_pipe.proofs.held_answers.HeldAnswers.answer.Goals as goal

pub returns-in-Ok-clause-turned : goal.returns-in-Ok-clause-turned
returns-in-Ok-clause-turned g c =
    came_answered g.H.PodHolder.stands g.H.PodHolder.faults g.H.PodHolder.takes c.args.self.now.holder c.answer.new.self c.args.request.now (asked_view c.args.asked.now) c.args.stamp c.in-Ok.answer c.in-Ok.ensures.answered c.in-Ok.ensures.faults

pub returns-in-Err-NoMemory-clause-turned : goal.returns-in-Err-NoMemory-clause-turned
returns-in-Err-NoMemory-clause-turned g c =
    came_out_of_memory g.H.PodHolder.stands g.H.PodHolder.faults g.H.PodHolder.takes c.args.self.now.holder c.answer.new.self c.args.request.now (asked_view c.args.asked.now) c.args.stamp (subst (AdvancesUnanswered g.H.PodHolder.stands g.H.PodHolder.takes c.args.self.now.holder c.answer.new.self c.args.request.now (asked_view c.args.asked.now) c.args.stamp) c.in-Err-NoMemory.field-0-is c.in-Err-NoMemory.ensures.kept)
    (subst (λ (f : HolderFault). CountsUnanswered (faults_in {T = Unit {0}} (Err f)) (out_of_memory_in {T = Unit {0}} (Err f)) (g.H.PodHolder.faults c.args.self.now.holder) (g.H.PodHolder.faults c.answer.new.self)) c.in-Err-NoMemory.field-0-is c.in-Err-NoMemory.ensures.faults)

pub returns-in-Err-DiskFault-clause-turned : goal.returns-in-Err-DiskFault-clause-turned
returns-in-Err-DiskFault-clause-turned g c =
    came_faulted g.H.PodHolder.stands g.H.PodHolder.faults g.H.PodHolder.takes c.args.self.now.holder c.answer.new.self c.args.request.now (asked_view c.args.asked.now) c.args.stamp (subst (AdvancesUnanswered g.H.PodHolder.stands g.H.PodHolder.takes c.args.self.now.holder c.answer.new.self c.args.request.now (asked_view c.args.asked.now) c.args.stamp) c.in-Err-DiskFault.field-0-is c.in-Err-DiskFault.ensures.kept) (c.in-Err-DiskFault.ensures.change (ap Err c.in-Err-DiskFault.field-0-is))
    (subst (λ (f : HolderFault). CountsUnanswered (faults_in {T = Unit {0}} (Err f)) (out_of_memory_in {T = Unit {0}} (Err f)) (g.H.PodHolder.faults c.args.self.now.holder) (g.H.PodHolder.faults c.answer.new.self)) c.in-Err-DiskFault.field-0-is c.in-Err-DiskFault.ensures.faults)
