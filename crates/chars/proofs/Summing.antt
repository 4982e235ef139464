-- The width of a text, character by character.
use Rattle.std.proofs.Common.{◌≡◌, ℕ, ◌+◌, ◌*◌, ◌<◌, ◌≤◌, ◌^◌, List, [], ◌∷◌, ◌++◌, length, IsUtf8, sym, refl, ap, ◌∙◌, add_assoc, zero-add, arith}
use Rattle.std.specs.List.{sum_by}
use Rattle.std.specs.Str.{chars}
use Rattle.std.proofs.lemmas.List.Sums.{sum_by-cons}
use Rattle.std.proofs.lemmas.Str.{length-le-encodes, encodes-chars, chars-append}
use Rattle.chars.specs.Widths.{total_columns, text_width}

-- the width of two texts in a row
pub width_append : (columns : ℕ → ℕ) (xs ys : List ℕ) → IsUtf8 xs → text_width columns (xs ++ ys) ≡ text_width columns xs + text_width columns ys
width_append columns xs ys u = ap (total_columns columns) (chars-append xs ys u) ∙ total_append (chars xs)
  where
    total_append : (cs : List ℕ) → total_columns columns (cs ++ chars ys) ≡ total_columns columns cs + total_columns columns (chars ys)
    total_append [] = sym (zero-add (total_columns columns (chars ys)))
    total_append (c ∷ cs) = ap (λ n. columns c + n) (total_append cs) ∙ sym (add_assoc (columns c) (total_columns columns cs) (total_columns columns (chars ys)))

-- the width is a sum over the characters
pub sum_columns : (columns : ℕ → ℕ) (cs : List ℕ) → sum_by columns cs ≡ total_columns columns cs
sum_columns columns [] = refl
sum_columns columns (c ∷ cs) = sum_by-cons columns c cs ∙ ap (λ n. columns c + n) (sum_columns columns cs)

-- and fits a word, where no character takes more than two columns
pub columns_fit : (columns : ℕ → ℕ) (text : List ℕ) → ((c : ℕ) → columns c ≤ 2) → IsUtf8 text → length text < 2 ^ 63 → sum_by columns (chars text) < 2 ^ 64
columns_fit columns text few u l =
    omega (arith, twice (chars text), length-le-encodes (chars text), ap length (encodes-chars text u))
  where
    twice : (cs : List ℕ) → sum_by columns cs ≤ 2 * length cs
    twice [] = omega arith
    twice (c ∷ cs) = omega (arith, sum_by-cons columns c cs, few c, twice cs)
