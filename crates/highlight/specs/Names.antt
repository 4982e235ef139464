-- The kinds of TOML's styles, by their names.
use Rattle.std.specs.Prelude.{ℕ, cond, List, Some, None, codes, Option}
use Rattle.std.specs.Str.{bytes_eq}
use Rattle.highlight.specs.declared.token.Kind.{Kind}
use Rattle.highlight.specs.declared.token.Kind.TheVariants.{Comment, Table, String, Digit, Keyword, Boolean}

-- the kind that has a name, and none for any other name
abbrev pub style_named : List ℕ → Option Kind
style_named name =
    cond (bytes_eq name (codes "comment")) (Some Comment)
    (cond (bytes_eq name (codes "table")) (Some Table)
    (cond (bytes_eq name (codes "string")) (Some String)
    (cond (bytes_eq name (codes "digit")) (Some Digit)
    (cond (bytes_eq name (codes "keyword")) (Some Keyword)
    (cond (bytes_eq name (codes "boolean")) (Some Boolean) None)))))
