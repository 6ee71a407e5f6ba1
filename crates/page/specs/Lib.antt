-- What a page is, what its bytes spell, and what writing leaves; then the laws of pages.
pub mod Page
pub mod Writing
pub mod Laws
