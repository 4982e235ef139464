-- An address written from its end: what a text put before it leaves. Assumes nothing.
use Rattle.std.proofs.Common.{◌≡◌, ℕ, ◌+◌, Bool, true, false, cond, leb, List, ◌++◌, length, Some, None, Option, refl, ap, ◌∙◌, arith, length-append}
use Rattle.std.proofs.lemmas.List.{append_assoc}
use Rattle.std.proofs.lemmas.Bool.{lt-leb, leb-false}
use Rattle.address.specs.Buffer.{prepended}

-- a text put before another is one text
pub prepended-append : (x y : List ℕ) (m : Option (List ℕ)) → prepended (x ++ y) m ≡ prepended x (prepended y m)
prepended-append x y None = refl
prepended-append x y (Some t) = go (leb (length y + length t) 512) refl
  where
    sum : length (x ++ y) + length t ≡ length x + length (y ++ t)
    sum = omega (arith, length-append x y, length-append y t)

    go : (b : Bool) → leb (length y + length t) 512 ≡ b → prepended (x ++ y) (Some t) ≡ prepended x (prepended y (Some t))
    go true e =
        rw e (ap (λ n. cond (leb n 512) (Some ((x ++ y) ++ t)) None) sum ∙ ap (λ ys. cond (leb (length x + length (y ++ t)) 512) (Some ys) None) (append_assoc x y t))
    go false e = rw (e, lt-leb (length (x ++ y) + length t) 512 (omega (arith, leb-false (length y + length t) 512 e, length-append x y)))
