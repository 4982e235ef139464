-- What a grid holds, read from its strips. Assumes nothing.
use Rattle.std.specs.Prelude.{◌≡◌, ℕ, ◌*◌, ◌^◌, ◌<◌, ◌≤◌, true, List, [], ◌∷◌, ◌++◌, map, length, take}
use Rattle.std.proofs.Common.{sym, ap, ◌∙◌, arith, length-append}
use Rattle.std.proofs.lemmas.List.{length-map, length-take-le, take-map, take-take}
use Rattle.std.proofs.lemmas.Bool.{and_from, lt-ltb, le-leb}
use Rattle.board.specs.Row.{Row, bytes_of}
use Rattle.board.specs.Grids.{strip_row, grid_rows, grid_fits}
use Rattle.board.specs.declared.grid.Strip.{Strip}
use Rattle.board.specs.declared.grid.Grid.{Grid}

pub grid_count : (g : Grid) → length (grid_rows g) ≡ g.count
grid_count g =
    length-map (take g.count g.strips) strip_row ∙ length-take-le g.count g.strips (omega (arith, g.places, g.few))

pub grid_cut : (g : Grid) (n : ℕ) → n ≤ g.count → map strip_row (take n g.strips) ≡ take n (grid_rows g)
grid_cut g n h = ap (map strip_row) (sym (take-take n g.count g.strips h)) ∙ sym (take-map strip_row n (take g.count g.strips))

-- the bytes of a grid are few
strips_few : (ss : List Strip) → length (bytes_of (map strip_row ss)) ≤ length ss * 257
strips_few [] = omega arith
strips_few (s ∷ ss) = omega (arith, length-append s.bytes.items (10 ∷ bytes_of (map strip_row ss)), s.short, strips_few ss)

pub grid_countable : (g : Grid) → length (bytes_of (grid_rows g)) < 2 ^ 64
grid_countable g =
    omega (arith, strips_few (take g.count g.strips), length-take-le g.count g.strips (omega (arith, g.places, g.few)), g.few)

-- no row of a grid is longer than a strip
row_short : (ss : List Strip) (front : List Row) (row : Row) (rest : List Row) → map strip_row ss ≡ front ++ row ∷ rest → length row.bytes ≤ 256
row_short [] [] row rest e = let z : ◌≡◌ {A = ℕ} 0 1 = cc in absurd (omega arith)
row_short [] (r ∷ rs) row rest e = let z : ◌≡◌ {A = ℕ} 0 1 = cc in absurd (omega arith)
row_short (s ∷ ss) [] row rest e = let k : strip_row s ≡ row = cc in omega (arith, s.short, ap (λ r. length r.bytes) k)
row_short (s ∷ ss) (r ∷ rs) row rest e = let k : map strip_row ss ≡ rs ++ row ∷ rest = cc in row_short ss rs row rest k

-- each row of a grid would fit behind those before it again
pub grid_regains_each : (g : Grid) (front : List Row) (row : Row) (rest : List Row) → grid_rows g ≡ front ++ row ∷ rest → grid_fits front (length row.bytes) ≡ true
grid_regains_each g front row rest e =
    let n = ap length e ∙ length-append front (row ∷ rest) in
    and_from _ _ (lt-ltb (length front) 64 (omega (arith, grid_count g, g.few))) (le-leb (length row.bytes) 256 (row_short (take g.count g.strips) front row rest e))
