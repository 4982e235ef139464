-- Where marks stand, by what searches answer. Assumes nothing.
use Rattle.std.specs.Prelude.{◌≡◌, ℕ, zero, suc, ◌+◌, ◌<◌, ◌≤◌, Bool, true, false, List, [], ◌∷◌, ◌++◌, length, drop, Some, None, Option, ◌==◌, ◌≢◌, refl}
use Rattle.std.proofs.Common.{sym, ap, ◌∙◌, arith, length-append, length-drop}
use Rattle.std.specs.Str.Pattern.{LacksTextAt}
use Rattle.std.specs.Option.{option_map}
use Rattle.std.proofs.lemmas.Bool.{eqb-true, eq-eqb, and_parts, cond-true, cond-false}
use Rattle.highlight.specs.Marks.{begins, through}

-- what begins with a mark is the mark and what follows
pub begins_mark : (mark rest : List ℕ) → begins mark (mark ++ rest) ≡ true
begins_mark [] rest = refl
begins_mark (m ∷ mark) rest = rw (eq-eqb m m refl) (begins_mark mark rest)

pub begins-split : (mark text : List ℕ) → begins mark text ≡ true → text ≡ mark ++ drop (length mark) text
begins-split [] text e = refl
begins-split (m ∷ mark) [] e = let z : ◌≡◌ {A = ℕ} 0 1 = cc in absurd (omega arith)
begins-split (m ∷ mark) (b ∷ text) e =
    let p = and_parts (m == b) (begins mark text) e in
    ap (λ x. x ∷ text) (sym (eqb-true m b p.0)) ∙ ap (λ x. m ∷ x) (begins-split mark text p.1)

pub begins_not : (mark text : List ℕ) → ((rest : List ℕ) → text ≢ mark ++ rest) → begins mark text ≡ false
begins_not mark text h = go (begins mark text) refl
  where
    go : (t : Bool) → begins mark text ≡ t → t ≡ false
    go true e = absurd (h (drop (length mark) text) (begins-split mark text e))
    go false e = refl

-- a mark that stands nowhere
pub through_none : (mark text : List ℕ) → ((i : ℕ) → i ≤ length text → LacksTextAt mark text i) → through mark text ≡ None
through_none mark [] h = refl
through_none mark (b ∷ text) h =
    cond-false (begins mark (b ∷ text)) (Some (length mark)) (option_map suc (through mark text)) (begins_not mark (b ∷ text) (h 0 (omega arith)))
    ∙ ap (option_map suc) (through_none mark text (λ i l rest e. h (suc i) (omega arith) rest e))

-- a mark that stands at i, and at no place before
pub through_some : (mark text : List ℕ) (i : ℕ) → 0 < length mark → ((k : ℕ) → k < i → LacksTextAt mark text k) → (rest : List ℕ) → drop i text ≡ mark ++ rest → through mark text ≡ Some (i + length mark)
through_some mark [] i some h rest e = absurd (omega (arith, ap length e, length-append mark rest, length-drop {A = ℕ} i []))
through_some mark (b ∷ text) zero some h rest e =
    cond-true (begins mark (b ∷ text)) (Some (length mark)) (option_map suc (through mark text)) (ap (begins mark) e ∙ begins_mark mark rest)
    ∙ ap Some (omega arith)
through_some mark (b ∷ text) (suc i) some h rest e =
    cond-false (begins mark (b ∷ text)) (Some (length mark)) (option_map suc (through mark text)) (begins_not mark (b ∷ text) (h 0 (omega arith)))
    ∙ ap (option_map suc) (through_some mark text i some (λ k l r f. h (suc k) (omega arith) r f) rest e)
    ∙ ap Some (omega arith)

-- where a mark is found, it stands
pub through_place : (mark text : List ℕ) (n : ℕ) → through mark text ≡ Some n → (k : ℕ) × (rest : List ℕ) × (n ≡ k + length mark) × (drop k text ≡ mark ++ rest)
through_place mark [] n e = let z : ◌≡◌ {A = ℕ} 0 1 = cc in absurd (omega arith)
through_place mark (b ∷ text) n e = go (begins mark (b ∷ text)) refl (through mark text) refl (through_place mark text)
  where
    go : (t : Bool) → begins mark (b ∷ text) ≡ t → (o : Option ℕ) → through mark text ≡ o → ((m : ℕ) → through mark text ≡ Some m → (k : ℕ) × (rest : List ℕ) × (m ≡ k + length mark) × (drop k text ≡ mark ++ rest)) → (k : ℕ) × (rest : List ℕ) × (n ≡ k + length mark) × (drop k (b ∷ text) ≡ mark ++ rest)
    go true t o q ih =
        let f : Some n ≡ Some (length mark) = sym e ∙ cond-true (begins mark (b ∷ text)) (Some (length mark)) (option_map suc (through mark text)) t in
        let m : n ≡ length mark = cc in (0, drop (length mark) (b ∷ text), omega arith, begins-split mark (b ∷ text) t)
    go false t None q ih =
        let f : Some n ≡ None = sym e ∙ cond-false (begins mark (b ∷ text)) (Some (length mark)) (option_map suc (through mark text)) t ∙ ap (option_map suc) q in
        let z : ◌≡◌ {A = ℕ} 0 1 = cc in absurd (omega arith)
    go false t (Some m) q ih =
        let f : Some n ≡ Some (suc m) = sym e ∙ cond-false (begins mark (b ∷ text)) (Some (length mark)) (option_map suc (through mark text)) t ∙ ap (option_map suc) q in
        let g : n ≡ suc m = cc in
        let r = ih m q in (suc r.0, r.1, omega (arith, r.2), r.3)

-- and so within the text
pub through_within : (mark text : List ℕ) (n : ℕ) → 0 < length mark → through mark text ≡ Some n → n ≤ length text
through_within mark text n some e =
    let r = through_place mark text n e in
    omega (arith, r.2, ap length r.3, length-drop r.0 text, length-append mark r.1)
