-- Where parts come from: a path, in which '.' and '..' mean something, or the site directory.
pub data Source : Type 0 where
  Path : Source
  Directory : Source
