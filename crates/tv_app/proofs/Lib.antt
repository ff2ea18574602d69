mod SettingLemmas
-- members that are made, and what they outline
pub mod MemberLemmas
-- that a checked description's views can be made
pub mod BuildableLemmas
-- that views as declared are refused by no session
pub mod DeclaredLemmas
-- Where panes stand
mod PaneLemmas
