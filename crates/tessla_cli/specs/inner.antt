pub mod RunPhases
pub mod FileLaws
pub mod SavedLaws
