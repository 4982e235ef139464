-- A board's bytes, row by row. Assumes nothing.
use Rattle.std.specs.Prelude.{◌≡◌, ℕ, zero, suc, ◌+◌, ◌-◌, ◌<◌, List, [], ◌∷◌, ◌++◌, length, drop, Some, refl}
use Rattle.std.proofs.Common.{sym, ap, ◌∙◌, add-one, arith, length-append}
use Rattle.std.proofs.lemmas.List.{append_assoc}
use Rattle.std.proofs.lemmas.List.Sums.{sum_by-cons}
use Rattle.std.specs.Option.{unwrap_or}
use Rattle.std.specs.List.{slice_get, sum_by, range_with_len}
use Rattle.board.specs.Row.{Row, length_at, lengths_of, byte_of, bytes_of}

-- the bytes of rows behind rows
pub bytes_append : (rows more : List Row) → bytes_of (rows ++ more) ≡ bytes_of rows ++ bytes_of more
bytes_append [] more = refl
bytes_append (r ∷ rs) more = ap (λ bs. r.bytes ++ 10 ∷ bs) (bytes_append rs more) ∙ sym (append_assoc r.bytes (10 ∷ bytes_of rs) (bytes_of more))

-- the bytes of rows and one more
pub bytes_push : (rows : List Row) (row : Row) → length (bytes_of (rows ++ row ∷ [])) ≡ length (bytes_of rows) + (length row.bytes + 1)
bytes_push rows row =
    omega (arith, ap length (bytes_append rows (row ∷ [])), length-append (bytes_of rows) (row.bytes ++ 10 ∷ []), length-append row.bytes (10 ∷ []))

-- the bytes from a row on: the row, its end, and the bytes from the next row on
abbrev pub From : List Row → ℕ → ℕ → Type 0
From rows n k = (row : Row) × (length row.bytes ≡ k) × (bytes_of (drop n rows) ≡ row.bytes ++ 10 ∷ bytes_of (drop (n + 1) rows)) × ((place : ℕ) → byte_of rows n place ≡ slice_get row.bytes place)

pub bytes_from : (rows : List Row) (n k : ℕ) → length_at rows n ≡ Some k → From rows n k
bytes_from [] n k e = let z : ◌≡◌ {A = ℕ} 0 1 = cc in absurd (omega arith)
bytes_from (r ∷ rs) zero k e = (r, (let j : length r.bytes ≡ k = cc in j), refl, λ place. refl)
bytes_from (r ∷ rs) (suc n) k e =
    let f = bytes_from rs n k e in
    (f.0, f.1, f.2 ∙ ap (λ m. f.0.bytes ++ 10 ∷ bytes_of m) (ap (λ i. drop i rs) (add-one n) ∙ sym (ap (λ i. drop i (r ∷ rs)) (add-one (suc n)))), f.3)

nth_front : (xs ys : List ℕ) (i : ℕ) → i < length xs → slice_get (xs ++ ys) i ≡ slice_get xs i
nth_front [] ys i h = absurd (omega arith)
nth_front (x ∷ xs) ys zero h = refl
nth_front (x ∷ xs) ys (suc i) h = nth_front xs ys i (omega arith)

nth_back : (xs ys : List ℕ) (i : ℕ) → slice_get (xs ++ ys) (length xs + i) ≡ slice_get ys i
nth_back [] ys i = let e : 0 + i ≡ i = omega arith in ap (slice_get ys) e
nth_back (x ∷ xs) ys i = let e : suc (length xs) + i ≡ suc (length xs + i) = omega arith in ap (slice_get (x ∷ (xs ++ ys))) e ∙ nth_back xs ys i

-- a place within the row, at its end, and beyond it
pub within_row : (rows : List Row) (n k place : ℕ) → length_at rows n ≡ Some k → place < k → slice_get (bytes_of (drop n rows)) place ≡ byte_of rows n place
within_row rows n k place e h =
    let f = bytes_from rows n k e in
    ap (λ bs. slice_get bs place) f.2 ∙ nth_front f.0.bytes _ place (omega (arith, f.1)) ∙ sym (f.3 place)

pub at_row_end : (rows : List Row) (n k : ℕ) → length_at rows n ≡ Some k → slice_get (bytes_of (drop n rows)) k ≡ Some 10
at_row_end rows n k e =
    let f = bytes_from rows n k e in
    let j : k ≡ length f.0.bytes + 0 = omega (arith, f.1) in
    ap (λ bs. slice_get bs k) f.2 ∙ ap (slice_get (f.0.bytes ++ 10 ∷ bytes_of (drop (n + 1) rows))) j ∙ nth_back f.0.bytes _ 0

pub beyond_row : (rows : List Row) (n k place : ℕ) → length_at rows n ≡ Some k → k < place → slice_get (bytes_of (drop n rows)) place ≡ slice_get (bytes_of (drop (n + 1) rows)) (place - (k + 1))
beyond_row rows n k place e h =
    let f = bytes_from rows n k e in
    let j : place ≡ length f.0.bytes + suc (place - (k + 1)) = omega (arith, f.1) in
    ap (λ bs. slice_get bs place) f.2 ∙ ap (slice_get (f.0.bytes ++ 10 ∷ bytes_of (drop (n + 1) rows))) j ∙ nth_back f.0.bytes _ (suc (place - (k + 1)))

-- the row behind others
length_behind : (front : List Row) (r : Row) (rs : List Row) → length_at (front ++ r ∷ rs) (length front) ≡ Some (length r.bytes)
length_behind [] r rs = refl
length_behind (f ∷ fs) r rs = length_behind fs r rs

lengths_behind : (front rows : List Row) → sum_by (λ n. unwrap_or (length_at (front ++ rows) n) 0) (range_with_len (length front) (length rows)) + length rows ≡ length (bytes_of rows)
lengths_behind front [] = refl
lengths_behind front (r ∷ rs) =
    let f : ℕ → ℕ = λ n. unwrap_or (length_at (front ++ r ∷ rs) n) 0 in
    let ih = lengths_behind (front ++ r ∷ []) rs in
    let all : (front ++ r ∷ []) ++ rs ≡ front ++ r ∷ rs = append_assoc front (r ∷ []) rs in
    let next : sum_by f (range_with_len (length front + 1) (length rs)) + length rs ≡ length (bytes_of rs) = rw (← length-append front (r ∷ [])) (rw (← all) ih) in
    omega (arith, sum_by-cons f (length front) (range_with_len (length front + 1) (length rs)), ap (λ o. unwrap_or o 0) (length_behind front r rs), next, length-append r.bytes (10 ∷ bytes_of rs))

-- the lengths of all rows, and a byte behind each, are the bytes
pub lengths_bytes : (rows : List Row) (n : ℕ) → n ≡ length rows → lengths_of rows n + n ≡ length (bytes_of rows)
lengths_bytes rows n e = ap (λ k. lengths_of rows k + k) e ∙ lengths_behind [] rows
