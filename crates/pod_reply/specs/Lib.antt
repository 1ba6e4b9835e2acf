-- what a pod replies to a request, by the method, and what is decided before it; a law
pub mod Replies
pub mod Reply
pub mod ReadReplies
pub mod PutReplies
pub mod PostReplies
pub mod PatchReplies
pub mod DeleteReplies
pub mod Obstacles
pub mod Shapes
pub mod AccessRank
pub mod MemberNames
pub mod EntrySize
pub mod Laws
-- internal: cited by private clauses alone
pub mod Ranks
