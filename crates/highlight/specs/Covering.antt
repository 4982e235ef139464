-- What it means that tokens cover a line. Assumes nothing.
use Rattle.std.specs.Prelude.{◌≡◌, ℕ, ◌≤◌, Bool, true, false, cond, List, [], ◌∷◌, ◌++◌, length, take, drop, IsUtf8, ◌==◌, refl}
use Rattle.std.proofs.Common.{sym, ap, ◌∙◌, arith, length-drop}
use Rattle.std.proofs.lemmas.List.{take_all, drop_all, take-append-drop}
use Rattle.std.proofs.lemmas.Bool.{eqb-true}
use Rattle.highlight.specs.declared.token.Kind.{Kind}
use Rattle.highlight.specs.declared.token.Kind.TheVariants.{InForce}
use Rattle.highlight.specs.declared.token.Token.{Token}
use Rattle.highlight.specs.Lines.{Covers, joined, lengths}
use Rattle.highlight.specs.Plain.{plain_tokens}

-- joined in order, the texts of tokens that cover a line are the line
pub covers_joined : (tokens : List Token) (line : List ℕ) → Covers tokens line → joined tokens line ≡ line
covers_joined [] line c = sym c
covers_joined (token ∷ tokens) line c =
    ap (λ rest. take token.length line ++ rest) (covers_joined tokens (drop token.length line) c.3) ∙ take-append-drop token.length line

-- and their lengths sum to its length
pub covers_lengths : (tokens : List Token) (line : List ℕ) → Covers tokens line → lengths tokens ≡ length line
covers_lengths [] line c = sym (ap length c)
covers_lengths (token ∷ tokens) line c =
    omega (arith, covers_lengths tokens (drop token.length line) c.3, length-drop token.length line, c.1)

-- so a line has no more tokens than bytes
pub covers_count : (tokens : List Token) (line : List ℕ) → Covers tokens line → length tokens ≤ length line
covers_count [] line c = omega arith
covers_count (token ∷ tokens) line c =
    omega (arith, covers_count tokens (drop token.length line) c.3, length-drop token.length line, c.0, c.1)

-- a token as long as the line covers it
pub one_token_covers : (kind : Kind) (line : List ℕ) → 1 ≤ length line → IsUtf8 line → Covers (record { kind = kind; length = length line } ∷ []) line
one_token_covers kind line some text = (
  some,
  omega arith,
  rw (take_all (length line) line (omega arith)) text,
  drop_all (length line) line (omega arith),
)

pub plain_covers : (line : List ℕ) → IsUtf8 line → Covers (plain_tokens line) line
plain_covers [] text = refl
plain_covers (b ∷ bs) text = go (length (b ∷ bs) == 0) refl
  where
    go : (t : Bool) → (length (b ∷ bs) == 0) ≡ t → Covers (cond t [] (record { kind = InForce; length = length (b ∷ bs) } ∷ [])) (b ∷ bs)
    go true e = absurd (omega (arith, eqb-true (length (b ∷ bs)) 0 e))
    go false e = one_token_covers InForce (b ∷ bs) (omega arith) text
