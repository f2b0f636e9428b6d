-- The callback that honours ignore files, as values.
pub mod EntryRules
pub mod Failed
mod FailedRows
pub mod Given
pub mod IgnoreFiles
pub mod IgnoreViews
pub mod Settings
mod SettingsRows
pub mod MadeDepths
pub mod Places
pub mod Sources
pub mod States
pub mod Excluding
pub mod Kept
