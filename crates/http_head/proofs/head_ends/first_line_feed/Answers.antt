use Rattle.http_head.proofs.LineFeeds.{feed_within, feed_skips, feed_none}
use Rattle.http_head.proofs.head_ends.first_line_feed.Goals as goal

pub returns : goal.returns
returns c = record {
  within = feed_within c.args.bytes.now c.memchr.result c.memchr.ensures;
  skips = feed_skips c.args.bytes.now c.memchr.result c.memchr.ensures;
  none = feed_none c.args.bytes.now c.memchr.result c.memchr.ensures;
}
