-- A string many times.
use Rattle.std.proofs.Common.{◌≡◌, ℕ, zero, suc, ◌+◌, List, [], ◌++◌, length, sym, refl, ap, ◌∙◌, append_assoc, append-nil, add-one}
use Rattle.std.proofs.lemmas.List.{nil_from_length}
use Rattle.script.specs.Joins.{repeated}

repeated_suc : (n : ℕ) (bs : List ℕ) → repeated (suc n) bs ≡ repeated n bs ++ bs
repeated_suc zero bs = append-nil bs
repeated_suc (suc n) bs = ap (λ r. bs ++ r) (repeated_suc n bs) ∙ sym (append_assoc bs (repeated n bs) bs)

pub repeated_more : (n : ℕ) (bs : List ℕ) → repeated (n + 1) bs ≡ repeated n bs ++ bs
repeated_more n bs = ap (λ k. repeated k bs) (add-one n) ∙ repeated_suc n bs

pub nothing_repeated : (n : ℕ) (bs : List ℕ) → length bs ≡ 0 → repeated n bs ≡ []
nothing_repeated zero bs e = refl
nothing_repeated (suc n) bs e = ap (λ b. b ++ repeated n bs) (nil_from_length bs e) ∙ nothing_repeated n bs e

pub appended_more : (d e f bs : List ℕ) (n : ℕ) → e ≡ d ++ repeated n bs → f ≡ e ++ bs → f ≡ d ++ repeated (n + 1) bs
appended_more d e f bs n inv more =
    more ∙ ap (λ l. l ++ bs) inv ∙ append_assoc d (repeated n bs) bs ∙ ap (λ l. d ++ l) (sym (repeated_more n bs))
