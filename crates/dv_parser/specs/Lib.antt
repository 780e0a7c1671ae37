-- How tokens are read by recursive descent, and the refusal where they spell no file. No statement about a run rests on it: there a
-- refusal is a dead end of the grammar.
pub mod Reading
