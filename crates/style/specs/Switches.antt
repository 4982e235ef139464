-- The switches of the palette: ECMA-48's "select graphic rendition".
use Rattle.std.specs.Prelude.{ℕ, List, [], ◌∷◌, ◌++◌, decimal}
use Rattle.style.specs.declared.palette.Style.{Style}
use Rattle.style.specs.declared.palette.Style.TheVariants.{Heading, Emphasis, Strong, Strikethrough, Code, Term, Link, Comment, Table, Text, Number}

-- the numbers of a style: 1 bold, 2 faint, 3 italic, 4 underlined, 9 crossed out, 30 to 37 a colour
abbrev pub numbers_of : Style → List ℕ
numbers_of Heading = 1 ∷ 4 ∷ []
numbers_of Emphasis = 3 ∷ []
numbers_of Strong = 1 ∷ []
numbers_of Strikethrough = 9 ∷ []
numbers_of Code = 36 ∷ []
numbers_of Term = 32 ∷ 1 ∷ []
numbers_of Link = 34 ∷ 4 ∷ []
numbers_of Comment = 2 ∷ []
numbers_of Table = 35 ∷ 1 ∷ []
numbers_of Text = 32 ∷ []
numbers_of Number = 33 ∷ []

-- numbers in decimal digits, apart by ';'
abbrev pub listed : List ℕ → List ℕ
listed [] = []
listed (n ∷ []) = decimal n
listed (n ∷ (m ∷ ns)) = decimal n ++ 59 ∷ listed (m ∷ ns)

-- ESC, '[', the numbers and 'm'
abbrev pub sequence : List ℕ → List ℕ
sequence numbers = 27 ∷ 91 ∷ (listed numbers ++ 109 ∷ [])

abbrev pub switch_of : Style → List ℕ
switch_of style = sequence (numbers_of style)

-- the number 0 turns all off
abbrev pub reset_bytes : List ℕ
reset_bytes = sequence (0 ∷ [])
