use Rattle.std.proofs.Common.{◌≡◌, filter, map, take}
use Rattle.pod_feed.specs.News.{is_news}
use Rattle.pod_feed.specs.Notices.{notice_of}
use Rattle.pod_feed.proofs.notices_due.notices.Given as goal

abbrev pub invariant-loop-effect : goal.invariant-loop-effect
invariant-loop-effect l =
    l.texts.items ≡ map (notice_of l.base) (filter (is_news l.last l.topic) (take l.effect-index l.effects))
