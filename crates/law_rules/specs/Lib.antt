-- What a reader believes: a text with its inputs as a job for processes, by the rules of its models.
pub mod Jobs
