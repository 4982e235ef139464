-- What a list of puts and cuts leaves of rows.
use Rattle.std.specs.Prelude.{◌≡◌, ℕ, min, Bool, cond, List, [], ◌∷◌, ◌++◌, length, take, drop}
use Rattle.board.specs.Row.{Row, mk_row, first_line}
use Rattle.board.specs.declared.history.Change.{Change}
use Rattle.board.specs.declared.history.Change.TheVariants.{Put, Cut}

-- the row that a margin and bytes make
abbrev pub row_from : ℕ → List ℕ → Row
row_from margin bytes = mk_row (min margin (length (first_line bytes))) (first_line bytes)

-- a row behind the others, if it fits
abbrev pub put_on : (List Row → ℕ → Bool) → List Row → Row → List Row
put_on fits rows row = cond (fits rows (length row.bytes)) (rows ++ row ∷ []) rows

-- one row behind the other, each if it fits
abbrev pub put_all : (List Row → ℕ → Bool) → List Row → List Row → List Row
put_all fits rows [] = rows
put_all fits rows (row ∷ more) = put_all fits (put_on fits rows row) more

abbrev pub changed : (List Row → ℕ → Bool) → List Row → Change → List Row
changed fits rows (Put margin bytes) = put_on fits rows (row_from margin bytes.now)
changed fits rows (Cut number) = take number rows

-- one change after another
abbrev pub history : (List Row → ℕ → Bool) → List Row → List Change → List Row
history fits rows [] = rows
history fits rows (change ∷ changes) = history fits (changed fits rows change) changes

-- a cut, and then what it took away put back, leaves the rows as they were
abbrev pub GivesBack : (List Row → ℕ → Bool) → List Row → Type 0
GivesBack fits rows = (front : List Row) (row : Row) → rows ≡ front ++ row ∷ [] → put_on fits (take (length front) rows) row ≡ rows

-- a cut to any number of rows, and then all that it took away put back in order, leaves the rows as they were
abbrev pub GivesAllBack : (List Row → ℕ → Bool) → List Row → Type 0
GivesAllBack fits rows = (n : ℕ) → put_all fits (take n rows) (drop n rows) ≡ rows
