-- The segments that a path leads to: the directory's parts, then the path's, one after the other.
use Rattle.std.specs.Prelude.{ℕ, ◌-◌, Bool, cond, ◌&&◌, ◌||◌, List, [], ◌∷◌, ◌++◌, length, take, drop, Some, None, codes, Option, nat_le}
use Rattle.chars.specs.Parts.{parts_at}
use Rattle.std.specs.Str.{bytes_eq}
use Rattle.address.specs.Sources.{Source, Path, Directory}
use Rattle.address.specs.declared.path.Step.{Step}
use Rattle.address.specs.declared.path.Step.TheVariants.{Stay, Up, Down}

-- the parts between slashes
abbrev pub parts_of : List ℕ → List (List ℕ)
parts_of text = parts_at 47 text

-- the part behind the last slash, and those before it
abbrev pub last_of : List (List ℕ) → List ℕ
last_of [] = []
last_of (part ∷ []) = part
last_of (part ∷ (next ∷ parts)) = last_of (next ∷ parts)

abbrev pub leading_of : List (List ℕ) → List (List ℕ)
leading_of [] = []
leading_of (part ∷ []) = []
leading_of (part ∷ (next ∷ parts)) = part ∷ leading_of (next ∷ parts)

-- what a part does: an empty part vanishes, and in a path '.' does too and '..' goes up; any other goes down into a segment
abbrev pub step_of : Source → List ℕ → Step
step_of Path part =
    cond (bytes_eq part [] || bytes_eq part (codes ".")) Stay (cond (bytes_eq part (codes "..")) Up Down)
step_of Directory part = cond (bytes_eq part []) Stay Down

-- the segments so far, the last first; none where a step went up with no segment left
abbrev pub Stack : Type 0
Stack = Option (List (List ℕ))

abbrev pub parent : List (List ℕ) → Stack
parent [] = None
parent (segment ∷ segments) = Some segments

abbrev pub entered : Stack → Step → List ℕ → Stack
entered None step part = None
entered (Some segments) Stay part = Some segments
entered (Some segments) Up part = parent segments
entered (Some segments) Down part = Some (part ∷ segments)

abbrev pub walked : Source → Stack → List (List ℕ) → Stack
walked source stack [] = stack
walked source stack (part ∷ parts) = walked source (entered stack (step_of source part) part) parts

-- the last part of a path: a page's name
abbrev pub is_page : List ℕ → Bool
is_page part = nat_le 3 (length part) && bytes_eq (drop (length part - 3) part) (codes ".md")

-- a page is the directory of its name without '.md', the page 'index.md' the directory that it stands in
abbrev pub last_entered : Stack → List ℕ → Stack
last_entered stack part =
    cond (bytes_eq part (codes "index.md")) stack
    (cond (is_page part) (entered stack Down (take (length part - 3) part)) (entered stack (step_of Path part) part))

-- a slash follows all but another name
abbrev pub slash_after : Step → List ℕ
slash_after Stay = 47 ∷ []
slash_after Up = 47 ∷ []
slash_after Down = []

abbrev pub end_of : List ℕ → List ℕ
end_of part = cond (is_page part) (47 ∷ []) (slash_after (step_of Path part))

-- the segments, each behind a slash
abbrev pub path_text : List (List ℕ) → List ℕ
path_text [] = []
path_text (segment ∷ segments) = path_text segments ++ 47 ∷ segment
