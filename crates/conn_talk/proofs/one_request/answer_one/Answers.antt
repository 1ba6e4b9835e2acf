use Rattle.std.proofs.Common.{◌==◌, false, [], if◌then◌else◌, refl, subst}
use Rattle.http_out.specs.Text.{memory_text, disk_text}
use Rattle.pod_core.specs.Session.{Item}
use Rattle.pod_io.specs.Writing.{Writes}
use Rattle.token_table.specs.Credentials.{AskedAgent, asked_view}
use Rattle.conn_talk.specs.Steps.{IsTurn, entry_line}
use Rattle.conn_talk.proofs.TurnLemmas.{answered_so, answered_turn, came_disk_fault, came_no_memory, came_no_place, faulted_turn, out_of_memory_turn}
use Rattle.conn_talk.proofs.WritesLemmas.{both_of}
use Rattle.conn_talk.proofs.one_request.answer_one.Goals as goal

-- the request was answered
pub returns-in-Ok-clause-came : goal.returns-in-Ok-clause-came
returns-in-Ok-clause-came g c =
    let request = c.args.request.now in
    let stamp = c.args.stamp in
    let trail = c.args.setting.now.trail in
    let asked = asked_view c.asked-asked.result in
    let told = c.in-Ok.ensures.turned in
    let made = c.answer_out-answered in
    let turned : Item → Type 0 = λ item. g.A.Answers.turns stamp.conn stamp.moment.0 c.args.answers.now item c.answer.new.self in
    let line = if trail then entry_line request asked made.result.entry else [] in
    let upgraded = made.result.entry.status == 101 in
    answered_so c.write_answered.result _ _ c.write_answered.ensures.fails (
      made.result.out,
      line,
      upgraded,
      subst (λ (a : AskedAgent). IsTurn turned trail request a stamp made.result.out line upgraded) c.asked-asked.ensures
          (answered_turn turned trail request asked stamp told.0 told.1 told.3 c.in-Ok.answer told.2 made.result.out made.result.entry made.ensures.out made.ensures.place made.ensures.moment made.ensures.status),
      c.write_answered.ensures.writes,
      c.write_answered.ensures.upgraded,
    )

-- no memory was left for it
pub returns-in-Err-NoMemory-clause-came : goal.returns-in-Err-NoMemory-clause-came
returns-in-Err-NoMemory-clause-came g c =
    let request = c.args.request.now in
    let stamp = c.args.stamp in
    let trail = c.args.setting.now.trail in
    let asked = asked_view c.asked-asked.result in
    let turned : Item → Type 0 = λ item. g.A.Answers.turns stamp.conn stamp.moment.0 c.args.answers.now item c.answer.new.self in
    let told = came_no_memory c.in-Err-NoMemory.field-0 turned _ request asked stamp c.in-Err-NoMemory.field-0-is c.in-Err-NoMemory.ensures.turned in
    let wrote = c.write_fixed in
    answered_so wrote.result _ _ wrote.ensures.fails (
      memory_text,
      [],
      false,
      subst (λ (a : AskedAgent). IsTurn turned trail request a stamp memory_text [] false) c.asked-asked.ensures
          (out_of_memory_turn turned trail request asked stamp told.0 told.1 told.3 told.2),
      both_of wrote.result memory_text _ _ _ (subst (λ text. Writes wrote.result text (g.K.Output.taken c.args.output.now) (g.K.Output.taken wrote.new.output)) c.memory_text.ensures wrote.ensures.writes),
      wrote.ensures.upgraded,
    )

-- a disk failed at a change
pub returns-in-Err-DiskFault-clause-came : goal.returns-in-Err-DiskFault-clause-came
returns-in-Err-DiskFault-clause-came g c =
    let request = c.args.request.now in
    let stamp = c.args.stamp in
    let trail = c.args.setting.now.trail in
    let asked = asked_view c.asked-asked.result in
    let turned : Item → Type 0 = λ item. g.A.Answers.turns stamp.conn stamp.moment.0 c.args.answers.now item c.answer.new.self in
    let told = came_disk_fault c.in-Err-DiskFault.field-0 turned _ request asked stamp c.in-Err-DiskFault.field-0-is c.in-Err-DiskFault.ensures.turned in
    let wrote = c.write_fixed-in-Err-DiskFault in
    answered_so wrote.result _ _ wrote.ensures.fails (
      disk_text,
      [],
      false,
      subst (λ (a : AskedAgent). IsTurn turned trail request a stamp disk_text [] false) c.asked-asked.ensures
          (faulted_turn turned trail request asked stamp told.0 told.1 told.3 told.2),
      both_of wrote.result disk_text _ _ _ (subst (λ text. Writes wrote.result text (g.K.Output.taken c.args.output.now) (g.K.Output.taken wrote.new.output)) c.disk_text.ensures wrote.ensures.writes),
      wrote.ensures.upgraded,
    )

-- it had no place
pub returns-in-Err-NoPlace-clause-came : goal.returns-in-Err-NoPlace-clause-came
returns-in-Err-NoPlace-clause-came g c =
    let stamp = c.args.stamp in
    let turned : Item → Type 0 = λ item. g.A.Answers.turns stamp.conn stamp.moment.0 c.args.answers.now item c.answer.new.self in (
      came_no_place c.in-Err-NoPlace.field-0 turned _ c.args.request.now (asked_view c.asked-asked.result) stamp c.in-Err-NoPlace.field-0-is c.in-Err-NoPlace.ensures.turned,
      record { output = refl; errors = refl },
    )
