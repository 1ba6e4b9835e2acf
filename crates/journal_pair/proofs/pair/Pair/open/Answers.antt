use Rattle.std.proofs.lemmas.Result.{IfErr-weaker}
use Rattle.std.proofs.Common.{inl, subst}
use Rattle.journal_log.specs.declared.fault.Side.TheVariants.{First}
use Rattle.journal_pair.specs.Choices.{IsChosenBy}
use Rattle.journal_pair.specs.declared.disk_choice.Choice.{Choice}
use Rattle.journal_pair.proofs.PairOpening.{cause_before, chosen_damaged, chosen_empty, opened_first, opened_second, opened_disk, opened_pairs}
use Rattle.journal_pair.proofs.pair.Pair.open.Goals as goal

pub returns-in-Take-clause-first : goal.returns-in-Take-clause-first
returns-in-Take-clause-first g c =
    opened_disk g.D.Disk.image g.D.Disk.moment g.D.Disk.left_since _ _ _ c.choose_disk.ensures.first c.choose_disk.ensures.first_images
    (opened_first g.D.Disk.image g.D.Disk.moment g.D.Disk.left_since c.in-Take.side c.choose_disk.new.first c.choose_disk.new.second c.open_on.new.first c.open_on.new.second
    (g.D.Disk.only_now _) c.open_on.ensures.moments c.open_on.ensures.other)

pub returns-in-Take-clause-second : goal.returns-in-Take-clause-second
returns-in-Take-clause-second g c =
    opened_disk g.D.Disk.image g.D.Disk.moment g.D.Disk.left_since _ _ _ c.choose_disk.ensures.second c.choose_disk.ensures.second_images
    (opened_second g.D.Disk.image g.D.Disk.moment g.D.Disk.left_since c.in-Take.side c.choose_disk.new.first c.choose_disk.new.second c.open_on.new.first c.open_on.new.second
    (g.D.Disk.only_now _) c.open_on.ensures.moments c.open_on.ensures.other)

pub returns-in-Take-clause-pairs : goal.returns-in-Take-clause-pairs
returns-in-Take-clause-pairs g c =
    opened_pairs g.D.Disk.image g.D.Disk.moment g.D.Disk.left_since c.in-Take.side c.args.first.now c.args.second.now c.choose_disk.new.first c.choose_disk.new.second c.open_on.new.first c.open_on.new.second
    c.choose_disk.ensures.first c.choose_disk.ensures.second
    (opened_disk g.D.Disk.image g.D.Disk.moment g.D.Disk.left_since _ _ _ c.choose_disk.ensures.first c.choose_disk.ensures.first_images
    (opened_first g.D.Disk.image g.D.Disk.moment g.D.Disk.left_since c.in-Take.side c.choose_disk.new.first c.choose_disk.new.second c.open_on.new.first c.open_on.new.second
    (g.D.Disk.only_now _) c.open_on.ensures.moments c.open_on.ensures.other))
    (opened_disk g.D.Disk.image g.D.Disk.moment g.D.Disk.left_since _ _ _ c.choose_disk.ensures.second c.choose_disk.ensures.second_images
    (opened_second g.D.Disk.image g.D.Disk.moment g.D.Disk.left_since c.in-Take.side c.choose_disk.new.first c.choose_disk.new.second c.open_on.new.first c.open_on.new.second
    (g.D.Disk.only_now _) c.open_on.ensures.moments c.open_on.ensures.other))
    c.open_on.ensures.other

pub returns-in-Take-clause-cause : goal.returns-in-Take-clause-cause
returns-in-Take-clause-cause g c = IfErr-weaker c.open_on.result _ _ (λ fault cause.
    cause_before _ _ _ _ _ _ _ _ _ _ fault c.in-Ok.ensures.first_content c.in-Ok.ensures.second_content
    c.in-Ok.ensures.faults.no_fewer_first c.in-Ok.ensures.faults.no_fewer_second cause) c.open_on.ensures.cause

pub returns-in-Damaged-clause-cause : goal.returns-in-Damaged-clause-cause
returns-in-Damaged-clause-cause g c =
    chosen_damaged (g.D.Disk.content c.args.first.now) (g.D.Disk.content c.args.second.now) (g.D.Disk.image c.choose_disk.new.first) (g.D.Disk.image c.choose_disk.new.second) c.in-Damaged.side c.in-Damaged.at
    (subst (λ (k : Choice). IsChosenBy (g.D.Disk.content c.args.first.now) (g.D.Disk.content c.args.second.now) (g.D.Disk.image c.choose_disk.new.first) (g.D.Disk.image c.choose_disk.new.second) k) c.in-Damaged.is c.in-Ok.ensures.chosen)

pub returns-in-Empty-clause-cause : goal.returns-in-Empty-clause-cause
returns-in-Empty-clause-cause g c =
    chosen_empty (g.D.Disk.content c.args.first.now) (g.D.Disk.content c.args.second.now) (g.D.Disk.image c.choose_disk.new.first) (g.D.Disk.image c.choose_disk.new.second)
    (subst (λ (k : Choice). IsChosenBy (g.D.Disk.content c.args.first.now) (g.D.Disk.content c.args.second.now) (g.D.Disk.image c.choose_disk.new.first) (g.D.Disk.image c.choose_disk.new.second) k) c.in-Empty.is c.in-Ok.ensures.chosen)

pub returns-in-Err-clause-pairs : goal.returns-in-Err-clause-pairs
returns-in-Err-clause-pairs g c = λ c' d left left_2. (First, inl (c.choose_disk.ensures.first.each c' left), c.choose_disk.ensures.second.each d left_2)
