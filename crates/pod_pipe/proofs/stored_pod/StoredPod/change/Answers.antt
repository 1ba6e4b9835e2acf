use Rattle.std.proofs.Common.{Err, ap, refl, subst, sym, ◌∙◌}
use Rattle.token_table.specs.Credentials.{asked_view}
use Rattle.pod_core.specs.declared.request_answer.Answer.{Answer}
use Rattle.pod_reply.specs.Replies.{Reply}
use Rattle.pod_pipe.proofs.StoredLemmas.{IsAnsweredBy, committed, faulted, out_of_memory, same_reply}
use Rattle.pod_pipe.proofs.stored_pod.StoredPod.change.Goals as goal

pub commit-requires-clause-stands : goal.commit-requires-clause-stands
commit-requires-clause-stands g c =
    let held = c.requires.stands in
    (held.0, held.2.place, held.2.doubt, held.2.kept)

-- the reply at the end of one history is that of each
pub returns-in-Ok-clause-answered : goal.returns-in-Ok-clause-answered
returns-in-Ok-clause-answered g c =
    let some = c.requires.stands in
    let request = c.args.request.now in
    let asked = asked_view c.args.asked.now in
    let answer : Answer = record { response = c.in-Ok.done.response; place = c.in-Ok.done.place; moment = c.change_moment-moment.result } in
    let first = c.in-Ok.ensures.done some.0 some.2.place some.2.doubt some.2.kept in (
      first.reply,
      first.response_is,
      λ history doubt stands.
          let moments = c.change_moment-moment.ensures history doubt stands in
          let done = c.in-Ok.ensures.done history stands.place stands.doubt stands.kept in
          subst (λ (r : Reply). IsAnsweredBy g.D.Disk.image g.D.Disk.moment g.D.Disk.left_since c.args.self.now.keeper c.commit.new.self history doubt request asked c.args.stamp answer r)
          (same_reply g.D.Disk.image c.args.self.now.keeper request asked c.args.stamp history some.0 doubt some.1 stands some.2 done.reply first.reply done.is first.is)
          (committed g.D.Disk.image g.D.Disk.moment g.D.Disk.left_since c.args.self.now.keeper c.commit.new.self history doubt request asked c.args.stamp g.D.Disk.only_now stands
          (λ place d kept. c.commit.ensures.pairs history place d kept) c.commit.ensures.sure c.commit.ensures.long c.requires.change answer c.change_moment-moment.result.0 refl moments done),
    )

pub returns-in-Err-NoMemory-clause-kept : goal.returns-in-Err-NoMemory-clause-kept
returns-in-Err-NoMemory-clause-kept g c = λ history doubt stands.
    out_of_memory g.D.Disk.image g.D.Disk.moment g.D.Disk.left_since c.args.self.now.keeper c.commit.new.self history doubt c.args.request.now (asked_view c.args.asked.now) c.args.stamp g.D.Disk.only_now stands
    (c.commit.ensures.memory (c.in-Err-NoMemory.is ∙ ap Err c.in-Err-NoMemory.field-0-is))

pub returns-in-Err-NoMemory-clause-memory : goal.returns-in-Err-NoMemory-clause-memory
returns-in-Err-NoMemory-clause-memory g c = λ is. c.commit.ensures.memory (c.in-Err-NoMemory.is ∙ ap Err c.in-Err-NoMemory.field-0-is)

pub returns-in-Err-DiskFault-clause-kept : goal.returns-in-Err-DiskFault-clause-kept
returns-in-Err-DiskFault-clause-kept g c = λ history doubt stands.
    faulted g.D.Disk.image g.D.Disk.moment g.D.Disk.left_since c.args.self.now.keeper c.commit.new.self history doubt c.args.request.now (asked_view c.args.asked.now) c.args.stamp g.D.Disk.only_now stands
    (λ place d kept. c.commit.ensures.pairs history place d kept) c.commit.ensures.sure c.commit.ensures.long
    (c.commit.ensures.fault (c.in-Err-DiskFault.is ∙ ap Err c.in-Err-DiskFault.field-0-is) history stands.place stands.doubt stands.kept)
