pub mod App
pub mod SubcommandRows
pub mod Subjects
pub mod Requests
pub mod ExitStatus
pub mod inner
