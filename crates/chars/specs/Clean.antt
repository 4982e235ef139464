-- Clean texts, and the first place at which bytes are none.
use Rattle.std.specs.Prelude.{◌≡◌, ℕ, zero, suc, ◌-◌, ◌<◌, Bool, true, false, cond, ◌&&◌, List, [], ◌∷◌, ◌++◌, length, take, drop, Some, None, Option, ◌≢◌}
use Rattle.std.proofs.Math.Utf8.{scalar, scalars, encode, encodes}
use Rattle.std.specs.Char.{len_utf8}
use Rattle.chars.specs.Begins.{char_at}
use Rattle.chars.specs.Controls.{allowed}

-- there is a character, and it may stand in a text
abbrev pub stands : Bool → Option ℕ → Bool
stands breaks None = false
stands breaks (Some c) = allowed breaks c

-- how many bytes the character has after its first
abbrev pub tail_bytes : Option ℕ → ℕ
tail_bytes None = 0
tail_bytes (Some c) = len_utf8 c - 1

-- the first place, counted from p, at which no character starts that may stand in a text; the first n bytes belong to the character before
abbrev pub bad_from : Bool → ℕ → ℕ → List ℕ → Option ℕ
bad_from breaks n p [] = None
bad_from breaks zero p (b ∷ bs) = cond (stands breaks (char_at (b ∷ bs))) (bad_from breaks (tail_bytes (char_at (b ∷ bs))) (suc p) bs) (Some p)
bad_from breaks (suc n) p (b ∷ bs) = bad_from breaks n (suc p) bs

-- the place of the first bad character: of the first byte that starts no well-formed character, or one that may not stand in a text
abbrev pub first_bad : Bool → List ℕ → Option ℕ
first_bad breaks bs = bad_from breaks 0 0 bs

-- each of the characters may stand in a text
abbrev pub all_allowed : Bool → List ℕ → Bool
all_allowed breaks [] = true
all_allowed breaks (c ∷ cs) = allowed breaks c && all_allowed breaks cs

-- the bytes are some characters in a row, each of which may stand in a text
pub record Clean (breaks : Bool) (bs : List ℕ) : Type 0 where
  pub chars : List ℕ
  pub sound : scalars chars ≡ true
  pub stand : all_allowed breaks chars ≡ true
  pub spell : encodes chars ≡ bs

-- the bytes are clean up to p, and at p, which is one of their places, no character starts that may stand in a text
pub record FirstBad (breaks : Bool) (bs : List ℕ) (p : ℕ) : Type 0 where
  pub inside : p < length bs
  pub before : Clean breaks (take p bs)
  pub here : (c : ℕ) (rest : List ℕ) → scalar c ≡ true → allowed breaks c ≡ true → drop p bs ≢ encode c ++ rest
