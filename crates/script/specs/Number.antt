-- Numbers: decimal digits, from 0 to 4294967295.
use Rattle.std.specs.Prelude.{ℕ, ◌+◌, ◌-◌, ◌*◌, Bool, cond, ◌&&◌, List, [], ◌∷◌, Some, None, Option, nat_le}

-- a byte from one to another
abbrev pub within : ℕ → ℕ → ℕ → Bool
within low b high = nat_le low b && nat_le b high

-- the number as far as it goes, or none
abbrev pub in_range : ℕ → Option ℕ
in_range n = cond (nat_le n 4294967295) (Some n) None

-- the number n with the digit b behind it
abbrev pub grown : ℕ → ℕ → Option ℕ
grown n b = cond (within 48 b 57) (in_range (n * 10 + (b - 48))) None

-- the number that n becomes with all these digits behind it
abbrev pub go_on : Option ℕ → List ℕ → Option ℕ
go_on None bs = None
go_on (Some n) [] = Some n
go_on (Some n) (b ∷ bs) = go_on (grown n b) bs

-- the number that a word spells: nothing is no number
abbrev pub number_of : List ℕ → Option ℕ
number_of [] = None
number_of (b ∷ bs) = go_on (grown 0 b) bs
