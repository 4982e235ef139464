-- Schemes, as code reads them: the first byte, and those up to the first that is none of a scheme's. Assumes nothing.
use Rattle.std.proofs.Common.{◌≡◌, ℕ, Bool, true, false, not, eqb, List, [], ◌∷◌, Some, None, Option, Bor, sym, refl, ap, ◌∙◌}
use Rattle.std.specs.Option.{option_map, option_eq}
use Rattle.std.specs.List.{find}
use Rattle.std.proofs.lemmas.Bool.{eqb-true}
use Rattle.address.specs.Reference.{scheme_byte, scheme_ends}

-- a scheme ends in its ':', which is no byte of a scheme
abbrev pub ends_at : Option ℕ → Bool
ends_at None = false
ends_at (Some b) = eqb b 58

pub scheme_stop : (bs : List ℕ) → scheme_ends bs ≡ ends_at (find (λ b. not (scheme_byte b)) bs)
scheme_stop [] = refl
scheme_stop (b ∷ bs) = go (eqb b 58) (scheme_byte b) refl refl (scheme_stop bs)
  where
    go : (c s : Bool) → eqb b 58 ≡ c → scheme_byte b ≡ s → scheme_ends bs ≡ ends_at (find (λ b. not (scheme_byte b)) bs) → scheme_ends (b ∷ bs) ≡ ends_at (find (λ b. not (scheme_byte b)) (b ∷ bs))
    go true s e f ih = let k : b ≡ 58 = eqb-true b 58 e in rw k refl
    go false true e f ih = rw (e, f) ih
    go false false e f ih = rw (e, f) (sym e)

-- so it ends where the first byte that is none of a scheme's is a ':'
pub scheme_found : (bs : List ℕ) (r : Option (Bor ℕ)) (colon : Bor ℕ) → colon.now ≡ 58 → option_map (λ b. b.now) r ≡ find (λ b. not (scheme_byte b)) bs →
    option_eq (λ x y. eqb x.now y.now) r (Some colon) ≡ scheme_ends bs
scheme_found bs None colon c e = ap ends_at e ∙ sym (scheme_stop bs)
scheme_found bs (Some x) colon c e = ap (eqb x.now) c ∙ ap ends_at e ∙ sym (scheme_stop bs)
