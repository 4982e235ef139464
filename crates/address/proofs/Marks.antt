-- Where a text is cut at a mark. Assumes nothing.
use Rattle.std.proofs.Common.{◌≡◌, ℕ, zero, suc, ◌<◌, false, eqb, List, [], ◌∷◌, length, get_or, take, drop, Some, None, Option, MatchOption, sym, refl, ap, ◌∙◌, le_of_suc-le-suc, arith}
use Rattle.std.specs.Option.{unwrap_or}
use Rattle.std.proofs.lemmas.List.{take_all, drop_all}
use Rattle.std.proofs.lemmas.Bool.{eq-eqb, ne_eqb}
use Rattle.address.specs.Reference.{before, since}

-- no byte of a text is the mark
abbrev pub Lacks : ℕ → List ℕ → Type 0
Lacks mark bs = (i : ℕ) → i < length bs → get_or bs i 0 ≡ mark → ⊥

pub lacks_tail : (mark b : ℕ) (bs : List ℕ) → Lacks mark (b ∷ bs) → Lacks mark bs
lacks_tail mark b bs h i l e = h (suc i) (omega arith) e

pub lacks_head : (mark b : ℕ) (bs : List ℕ) → Lacks mark (b ∷ bs) → eqb b mark ≡ false
lacks_head mark b bs h = ne_eqb b mark (h 0 (omega arith))

pub before_none : (mark : ℕ) (bs : List ℕ) → Lacks mark bs → before mark bs ≡ bs
before_none mark [] h = refl
before_none mark (b ∷ bs) h = rw (lacks_head mark b bs h) (ap (λ l. b ∷ l) (before_none mark bs (lacks_tail mark b bs h)))

pub since_none : (mark : ℕ) (bs : List ℕ) → Lacks mark bs → since mark bs ≡ []
since_none mark [] h = refl
since_none mark (b ∷ bs) h = rw (lacks_head mark b bs h) (since_none mark bs (lacks_tail mark b bs h))

-- the first mark
abbrev pub FirstAt : ℕ → List ℕ → ℕ → Type 0
FirstAt mark bs k = (k < length bs) × (get_or bs k 0 ≡ mark) × ((i : ℕ) → i < k → get_or bs i 0 ≡ mark → ⊥)

first_tail : (mark b : ℕ) (bs : List ℕ) (k : ℕ) → FirstAt mark (b ∷ bs) (suc k) → FirstAt mark bs k
first_tail mark b bs k h = (le_of_suc-le-suc h.0, h.1, λ i l e. h.2 (suc i) (omega arith) e)

pub before-first : (mark : ℕ) (bs : List ℕ) (k : ℕ) → FirstAt mark bs k → before mark bs ≡ take k bs
before-first mark [] k h = absurd (omega (arith, h.0))
before-first mark (b ∷ bs) zero h = rw (eq-eqb b mark h.1)
before-first mark (b ∷ bs) (suc k) h =
    rw (ne_eqb b mark (h.2 0 (omega arith))) (ap (λ l. b ∷ l) (before-first mark bs k (first_tail mark b bs k h)))

pub since-first : (mark : ℕ) (bs : List ℕ) (k : ℕ) → FirstAt mark bs k → since mark bs ≡ drop k bs
since-first mark [] k h = absurd (omega (arith, h.0))
since-first mark (b ∷ bs) zero h = rw (eq-eqb b mark h.1)
since-first mark (b ∷ bs) (suc k) h =
    rw (ne_eqb b mark (h.2 0 (omega arith))) (since-first mark bs k (first_tail mark b bs k h))

-- a text that is cut at its first mark, or at its end
pub cut_found : (mark : ℕ) (bs : List ℕ) (r : Option ℕ) → MatchOption r (Lacks mark bs) (FirstAt mark bs) →
    (take (unwrap_or r (length bs)) bs ≡ before mark bs) × (drop (unwrap_or r (length bs)) bs ≡ since mark bs)
cut_found mark bs None h = (take_all _ bs (omega arith) ∙ sym (before_none mark bs h), drop_all _ bs (omega arith) ∙ sym (since_none mark bs h))
cut_found mark bs (Some k) h = (sym (before-first mark bs k h), sym (since-first mark bs k h))
