-- What the code's page is given, as what it means.
use Rattle.std.specs.Prelude.{ℕ, Bool, List, Option}
use Rattle.board.specs.Row.{Row}
use Rattle.highlight.specs.declared.token.Token.{Token}
use Rattle.page.specs.Hands.{Desk}

abbrev pub desk_of : {S : Type 0} → (ℕ → ℕ) → (ℕ → Bool) → (List ℕ → Option S) → (S → List ℕ → List Token) → (S → List ℕ → S) → List (List ℕ) → (List Row → ℕ → Bool) → Desk S
desk_of columns blank first falls next addresses fits =
    record { columns = columns; blank = blank; first = first; falls = falls; next = next; addresses = addresses; fits = fits }
