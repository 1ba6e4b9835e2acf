pub mod EntryLemmas
pub mod RankLemmas
pub mod MemberLemmas
pub mod BodyLemmas
pub mod DispatchLemmas
pub mod OneReply
