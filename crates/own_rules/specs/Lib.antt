pub mod Few
pub mod FewLaws
