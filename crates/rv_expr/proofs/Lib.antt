pub mod Depths
pub mod Fitting
pub mod OpenAtOnceLemmas
pub mod ReadIsSpelled
pub mod Refusals
pub mod RoleGrammar
pub mod Runs
pub mod SpelledIsRead
pub mod Waits
mod Examples
