-- Puts and cuts, one after another. Assumes nothing.
use Rattle.std.proofs.Common.{◌≡◌, ℕ, Bool, true, cond, List, [], ◌∷◌, ◌++◌, length, take, drop, sym, refl, ap, ◌∙◌}
use Rattle.std.proofs.lemmas.List.{append_assoc, append-nil, take-append-drop, take_at, drop_at}
use Rattle.board.specs.Row.{Row}
use Rattle.board.specs.History.{put_on, put_all, GivesBack, GivesAllBack}

-- what held its last row takes it back
pub gives_back : (fits : List Row → ℕ → Bool) (rows : List Row) → ((front : List Row) (row : Row) → rows ≡ front ++ row ∷ [] → fits front (length row.bytes) ≡ true) → GivesBack fits rows
gives_back fits rows h front row e =
    ap (λ rs. put_on fits (take (length front) rs) row) e
    ∙ ap (λ rs. put_on fits rs row) (take_at front (row ∷ []) (length front) refl)
    ∙ ap (λ t. cond t (front ++ row ∷ []) front) (h front row e)
    ∙ sym e

-- each row would fit behind those before it
abbrev Regains : (List Row → ℕ → Bool) → List Row → Type 0
Regains fits rows = (front : List Row) (row : Row) (rest : List Row) → rows ≡ front ++ row ∷ rest → fits front (length row.bytes) ≡ true

-- rows that a board held, put behind those before them, are all taken
all_taken : (fits : List Row → ℕ → Bool) (rows : List Row) → Regains fits rows → (front more : List Row) → front ++ more ≡ rows → put_all fits front more ≡ rows
all_taken fits rows h front [] e = sym (append-nil front) ∙ e
all_taken fits rows h front (row ∷ more) e =
    ap (λ t. put_all fits (cond t (front ++ row ∷ []) front) more) (h front row more (sym e))
    ∙ all_taken fits rows h (front ++ row ∷ []) more (append_assoc front (row ∷ []) more ∙ e)

pub gives_all_back : (fits : List Row → ℕ → Bool) (rows : List Row) → Regains fits rows → GivesAllBack fits rows
gives_all_back fits rows h n = all_taken fits rows h (take n rows) (drop n rows) (take-append-drop n rows)

-- and so the last row alone is taken back
pub gives_last_back : (fits : List Row → ℕ → Bool) (rows : List Row) → GivesAllBack fits rows → GivesBack fits rows
gives_last_back fits rows all front row e =
    ap (put_all fits (take (length front) rows)) (sym (ap (drop (length front)) e ∙ drop_at front (row ∷ []) (length front) refl)) ∙ all (length front)
