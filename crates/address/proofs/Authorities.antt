-- What stands before the first '//'. Assumes nothing.
use Rattle.std.proofs.Common.{◌≡◌, ℕ, zero, suc, ◌+◌, ◌<◌, ◌≤◌, Bor, MatchOption, Option, sym, Bool, true, false, ◌&&◌, eqb, List, [], ◌∷◌, ◌++◌, length, take, drop, Some, None, codes, refl, ap, ◌∙◌, arith}
use Rattle.std.specs.Str.Pattern.{LacksTextAt, FindsText}
use Rattle.std.proofs.lemmas.Bool.{eqb-true, and_parts}
use Rattle.address.specs.Resolved.{onto, slash_here, before_authority, or_nothing}

here_not : (b : ℕ) (bs : List ℕ) → LacksTextAt (codes "//") (b ∷ bs) 0 → (eqb b 47 && slash_here bs) ≡ false
here_not b bs h = go (eqb b 47 && slash_here bs) refl
  where
    second : (cs : List ℕ) → slash_here cs ≡ true → (rest : List ℕ) × (cs ≡ 47 ∷ rest)
    second [] e = let z : ◌≡◌ {A = ℕ} 0 1 = cc in absurd (omega arith)
    second (c ∷ cs) e = (cs, ap (λ x. x ∷ cs) (eqb-true c 47 e))

    go : (t : Bool) → (eqb b 47 && slash_here bs) ≡ t → t ≡ false
    go true e =
        let p = and_parts (eqb b 47) (slash_here bs) e in
        let q = second bs p.1 in
        absurd (h q.0 (ap (λ x. x ∷ bs) (eqb-true b 47 p.0) ∙ ap (λ x. 47 ∷ x) q.1))
    go false e = refl

pub authority_none : (bs : List ℕ) → ((i : ℕ) → i ≤ length bs → LacksTextAt (codes "//") bs i) → before_authority bs ≡ None
authority_none [] h = refl
authority_none (b ∷ bs) h =
    rw (here_not b bs (h 0 (omega arith))) (ap (onto b) (authority_none bs (λ i l. h (suc i) (omega arith))))

pub authority_first : (bs rest : List ℕ) (k : ℕ) → drop k bs ≡ codes "//" ++ rest → ((i : ℕ) → i < k → LacksTextAt (codes "//") bs i) → before_authority bs ≡ Some (take k bs)
authority_first [] rest zero e h = let z : ◌≡◌ {A = ℕ} 0 1 = cc in absurd (omega arith)
authority_first [] rest (suc k) e h = let z : ◌≡◌ {A = ℕ} 0 1 = cc in absurd (omega arith)
authority_first (b ∷ bs) rest zero e h =
    let p : b ≡ 47 = cc in
    let q : bs ≡ 47 ∷ rest = cc in
    rw (p, q) refl
authority_first (b ∷ bs) rest (suc k) e h =
    rw (here_not b bs (h 0 (omega arith))) (ap (onto b) (authority_first bs rest k e (λ i l. h (suc i) (omega arith))))

-- the front that a split at '//' leaves, and nothing where there is none
pub authority_of : (bs : List ℕ) (r : Option (Bor (List ℕ) × Bor (List ℕ))) (front d : Bor (List ℕ)) {P : Bor (List ℕ) × Bor (List ℕ) → Type 0} →
    MatchOption r (FindsText (codes "//") bs None) (λ x. (i : ℕ) × (j : ℕ) × FindsText (codes "//") bs (Some (i, j)) × (x.0.now ≡ take i bs) × (x.1.now ≡ drop j bs) × (i ≤ j) × (length x.0.now ≡ i) × (length x.1.now + j ≡ length bs)) →
    MatchOption r (front ≡ d) P → d.now ≡ [] → ((x : Bor (List ℕ) × Bor (List ℕ)) → P x → front.now ≡ x.0.now) → front.now ≡ or_nothing (before_authority bs)
authority_of bs None front d h m n f = ap (λ x. x.now) m ∙ n ∙ ap or_nothing (sym (authority_none bs h))
authority_of bs (Some x) front d h m n f =
    f x m ∙ h.3 ∙ ap or_nothing (sym (authority_first bs (drop h.1 bs) h.0 h.2.1.split h.2.0))
