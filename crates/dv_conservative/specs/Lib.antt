-- What a reader believes: links and events, a flat model and its shares, a process, and processes that exchange packets.
pub mod Links
pub mod Flat
pub mod Events
pub mod Promise
pub mod Process
pub mod Turn
pub mod World
pub mod Channels
pub mod Responses
pub mod Alike
-- What laws use.
pub mod Sound
pub mod True
pub mod Rounds
-- Worked rows.
pub mod Rows
