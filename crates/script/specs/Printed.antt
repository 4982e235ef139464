-- How bytes are printed as a string.
use Rattle.std.specs.Prelude.{◌≡◌, ℕ, zero, suc, ◌-◌, ◌/◌, ◌%◌, ◌<◌, ◌≤◌, Bool, cond, ◌||◌, List, [], ◌∷◌, ◌++◌, length, take, drop, IsUtf8, Some, None, Option, ◌==◌}
use Rattle.std.specs.Char.{len_utf8}
use Rattle.std.specs.List.{AllByRecursion}
use Rattle.chars.specs.Begins.{char_at}
use Rattle.chars.specs.Controls.{control}
use Rattle.chars.specs.Hex.{hex_digit}
use Rattle.script.specs.Strings.{string_of}

-- a character does not stand as it is if it is a control character, the quote or the backslash
abbrev pub special : ℕ → Bool
special c = control c || (c == 34 || c == 92)

-- how many bytes of a character stand as they are: all or none
abbrev pub plain_bytes : Option ℕ → ℕ
plain_bytes None = 0
plain_bytes (Some c) = cond (special c) 0 (len_utf8 c)

-- how many bytes at the front stand as they are: those of the well-formed character there, unless it is special
abbrev pub plain : List ℕ → ℕ
plain bs = plain_bytes (char_at bs)

-- a byte that does not stand as it is: \" \\ \n \t, and all others as \xNN
abbrev pub escaped : ℕ → List ℕ
escaped b =
    cond (b == 34) (92 ∷ 34 ∷ [])
    (cond (b == 92) (92 ∷ 92 ∷ [])
    (cond (b == 10) (92 ∷ 110 ∷ [])
    (cond (b == 9) (92 ∷ 116 ∷ []) (92 ∷ 120 ∷ hex_digit (b / 16) ∷ hex_digit (b % 16) ∷ []))))

-- the bytes between the quotes; the first k bytes go on with a character that stands as it is
abbrev pub inner : ℕ → List ℕ → List ℕ
inner k [] = []
inner zero (b ∷ bs) = cond (plain (b ∷ bs) == 0) (escaped b ++ inner 0 bs) (b ∷ inner (plain (b ∷ bs) - 1) bs)
inner (suc k) (b ∷ bs) = b ∷ inner k bs

-- the first n bytes are whole characters that stand as they are
abbrev pub Stands : List ℕ → ℕ → Type 0
Stands bs n = (n ≤ length bs) × IsUtf8 (take n bs) × (inner 0 bs ≡ take n bs ++ inner 0 (drop n bs))

-- the printed form of bytes
abbrev pub printed : List ℕ → List ℕ
printed bs = 34 ∷ (inner 0 bs ++ 34 ∷ [])

-- what is printed of bytes reads back as the same bytes
abbrev pub ReadsBack : Type 0
ReadsBack = (bs : List ℕ) → AllByRecursion (λ b. b < 256) bs → string_of (printed bs) ≡ Some bs
