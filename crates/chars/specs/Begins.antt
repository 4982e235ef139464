-- The character that bytes begin with.
use Rattle.std.specs.Prelude.{◌≡◌, ℕ, Bool, true, false, cond, ◌&&◌, List, [], ◌∷◌, ◌++◌, drop, Some, None, Option, ◌==◌}
use Rattle.std.proofs.Math.Utf8.{scalar, encode}
use Rattle.std.specs.Char.{len_utf8}
use Rattle.std.specs.Str.{chars}

-- the second list begins with the first
abbrev pub begins : List ℕ → List ℕ → Bool
begins [] bs = true
begins (x ∷ xs) [] = false
begins (x ∷ xs) (b ∷ bs) = x == b && begins xs bs

-- the first of the codes, if it is a character's and the bytes begin with that character's bytes
abbrev pub confirmed : List ℕ → List ℕ → Option ℕ
confirmed [] bs = None
confirmed (c ∷ cs) bs = cond (scalar c && begins (encode c) bs) (Some c) None

-- the well-formed character that the bytes begin with, if there is one: what stands behind it may be anything
abbrev pub char_at : List ℕ → Option ℕ
char_at bs = confirmed (chars bs) bs

-- the bytes are those of the character and what follows
pub record Begins (c : ℕ) (bs : List ℕ) : Type 0 where
  pub sound : scalar c ≡ true
  pub spell : bs ≡ encode c ++ drop (len_utf8 c) bs
