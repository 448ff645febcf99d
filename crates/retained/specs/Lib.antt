pub mod Member
pub mod Changes
pub mod Groups
pub mod MemberLaws
pub mod PresenceLaws
pub mod SupportLaws
pub mod QueueLaws
