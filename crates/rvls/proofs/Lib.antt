pub mod QuickFixes
