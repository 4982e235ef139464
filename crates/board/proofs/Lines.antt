-- The bytes before the first 10. Assumes nothing.
use Rattle.std.proofs.Common.{◌≡◌, ℕ, ◌≤◌, cond, min, Bool, true, false, not, eqb, leb, List, [], ◌∷◌, length, take, refl, ap, ◌∙◌, arith}
use Rattle.std.specs.List.{take_while, prefix_len}
use Rattle.std.proofs.lemmas.List.Folds.{length-prefix_len}
use Rattle.std.proofs.lemmas.List.Sums.{prefix_len-le-length, take_while-cons}
use Rattle.std.proofs.lemmas.Bool.{le-leb, and_from}
use Rattle.board.specs.Row.{goes_on, first_line, unbroken, is_row}

pub line_while : (bs : List ℕ) → take_while goes_on bs ≡ first_line bs
line_while [] = refl
line_while (b ∷ bs) = take_while-cons goes_on b bs ∙ go (eqb b 10) (line_while bs)
  where
    go : (t : Bool) → take_while goes_on bs ≡ first_line bs → cond (not t) (b ∷ take_while goes_on bs) [] ≡ cond t [] (b ∷ first_line bs)
    go true e = refl
    go false e = ap (λ xs. b ∷ xs) e

-- as many bytes as go on from the front are the line, and they are within the bytes
pub line_taken : (bs : List ℕ) (n : ℕ) → n ≡ length (take_while goes_on bs) → (take n bs ≡ first_line bs) × (n ≡ length (first_line bs)) × (n ≤ length bs)
line_taken bs n e =
    let k : n ≡ prefix_len goes_on bs = e ∙ length-prefix_len goes_on bs in
    (ap (λ i. take i bs) k ∙ line_while bs, e ∙ ap length (line_while bs), omega (arith, k, prefix_len-le-length goes_on bs))

pub line_unbroken : (bs : List ℕ) → unbroken (first_line bs) ≡ true
line_unbroken [] = refl
line_unbroken (b ∷ bs) = go (eqb b 10) refl (line_unbroken bs)
  where
    go : (t : Bool) → eqb b 10 ≡ t → unbroken (first_line bs) ≡ true → unbroken (first_line (b ∷ bs)) ≡ true
    go true e ih = rw e
    go false e ih = rw e (and_from (not (eqb b 10)) (unbroken (first_line bs)) (ap not e) ih)

-- a margin within the line makes a row of it
pub line_row : (bs row : List ℕ) (margin m : ℕ) → row ≡ first_line bs → m ≡ min margin (length (first_line bs)) → is_row m row ≡ true
line_row bs row margin m e k =
    let l : m ≤ length row = omega (arith, ap length e) in
    and_from (leb m (length row)) (unbroken row) (le-leb m (length row) l) (ap unbroken e ∙ line_unbroken bs)
