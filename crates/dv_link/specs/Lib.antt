-- What an end of a link knows, and the rule of its queue.
pub mod Views
pub mod Carries
-- The two ends of a link.
pub mod Ends
