-- Schemes and bases: what was found resolves to itself. Assumes nothing.
use Rattle.std.proofs.Common.{◌≡◌, ℕ, Bool, true, false, cond, ◌&&◌, ◌||◌, eqb, List, [], ◌∷◌, ◌++◌, Some, None, Ok, Option, sym, refl, ap, ◌∙◌, arith}
use Rattle.std.proofs.lemmas.Bool.{eqb-true, and_parts, and_from, or_left, or_right, false≢true}
use Rattle.address.specs.declared.reference.Form.{Form}
use Rattle.address.specs.declared.reference.Form.TheVariants.{Scheme, Anchor, Network, Absolute, Relative}
use Rattle.address.specs.Reference.{letter, scheme_byte, scheme_ends, has_scheme, slash_form, relative_form, form_of}
use Rattle.address.specs.Segments.{Stack, path_text}
use Rattle.address.specs.Resolved.{Outcome, onto, slash_here, before_authority, or_nothing, joined_up, resolved_by, resolved, limited, rewritten}
use Rattle.address.specs.Laws.{is_relative, SchemeStays, BeginsWithBase, SameAgain}
use Rattle.address.proofs.Limits.{found_before, passes_again}

-- a scheme does not change with what follows it
ends_append : (bs ys : List ℕ) → scheme_ends bs ≡ true → scheme_ends (bs ++ ys) ≡ true
ends_append [] ys e = absurd (false≢true e)
ends_append (b ∷ bs) ys e = go (eqb b 58) refl (ends_append bs ys)
  where
    go : (t : Bool) → eqb b 58 ≡ t → (scheme_ends bs ≡ true → scheme_ends (bs ++ ys) ≡ true) → scheme_ends ((b ∷ bs) ++ ys) ≡ true
    go true h ih = rw h
    go false h ih =
        let k : (scheme_byte b && scheme_ends bs) ≡ true = sym (rw h) ∙ e in
        let p = and_parts (scheme_byte b) (scheme_ends bs) k in
        rw h (and_from (scheme_byte b) (scheme_ends (bs ++ ys)) p.0 (ih p.1))

pub scheme_append : (bs ys : List ℕ) → has_scheme bs ≡ true → has_scheme (bs ++ ys) ≡ true
scheme_append [] ys e = absurd (false≢true e)
scheme_append (b ∷ bs) ys e =
    let p = and_parts (letter b) (scheme_ends bs) e in
    and_from (letter b) (scheme_ends (bs ++ ys)) p.0 (ends_append bs ys p.1)

-- a byte of a scheme is no slash, and so '//' comes behind it
not_here : (b : ℕ) (bs : List ℕ) → (eqb b 58 || scheme_byte b) ≡ true → (eqb b 47 && slash_here bs) ≡ false
not_here b bs e = go (eqb b 47) refl
  where
    go : (t : Bool) → eqb b 47 ≡ t → (eqb b 47 && slash_here bs) ≡ false
    go true h =
        let k : b ≡ 47 = eqb-true b 47 h in
        let z : false ≡ true = sym (ap (λ x. eqb x 58 || scheme_byte x) k) ∙ e in absurd (false≢true z)
    go false h = rw h

ends_authority : (bs ys front : List ℕ) → scheme_ends bs ≡ true → before_authority bs ≡ Some front → scheme_ends (front ++ ys) ≡ true
ends_authority [] ys front e a = absurd (false≢true e)
ends_authority (b ∷ bs) ys front e a = go (eqb b 58) refl (ends_authority bs ys)
  where
    behind : (o : Option (List ℕ)) → onto b o ≡ Some front → (rest : List ℕ) × (o ≡ Some rest) × (front ≡ b ∷ rest)
    behind None k = let z : ◌≡◌ {A = ℕ} 0 1 = cc in absurd (omega arith)
    behind (Some rest) k = (rest, refl, cc)

    colon : (rest : List ℕ) → eqb b 58 ≡ true → scheme_ends ((b ∷ rest) ++ ys) ≡ true
    colon rest h = rw h

    more : (rest : List ℕ) → eqb b 58 ≡ false → scheme_byte b ≡ true → scheme_ends (rest ++ ys) ≡ true → scheme_ends ((b ∷ rest) ++ ys) ≡ true
    more rest h s k = rw h (and_from (scheme_byte b) (scheme_ends (rest ++ ys)) s k)

    go : (t : Bool) → eqb b 58 ≡ t → ((front : List ℕ) → scheme_ends bs ≡ true → before_authority bs ≡ Some front → scheme_ends (front ++ ys) ≡ true) → scheme_ends (front ++ ys) ≡ true
    go true h ih =
        let n : (eqb b 47 && slash_here bs) ≡ false = not_here b bs (rw h) in
        let r = behind (before_authority bs) (sym (rw n) ∙ a) in
        ap (λ f. scheme_ends (f ++ ys)) r.2 ∙ colon r.0 h
    go false h ih =
        let k : (scheme_byte b && scheme_ends bs) ≡ true = sym (rw h) ∙ e in
        let p = and_parts (scheme_byte b) (scheme_ends bs) k in
        let n : (eqb b 47 && slash_here bs) ≡ false = not_here b bs (rw (h, p.0)) in
        let r = behind (before_authority bs) (sym (rw n) ∙ a) in
        ap (λ f. scheme_ends (f ++ ys)) r.2 ∙ more r.0 h p.0 (ih r.0 p.1 r.1)

letter_in_scheme : (b : ℕ) → letter b ≡ true → (eqb b 58 || scheme_byte b) ≡ true
letter_in_scheme b h = or_right (eqb b 58) (scheme_byte b) (or_left (letter b) _ h)

pub scheme_authority : (bs ys front : List ℕ) → has_scheme bs ≡ true → before_authority bs ≡ Some front → has_scheme (front ++ ys) ≡ true
scheme_authority [] ys front e a = absurd (false≢true e)
scheme_authority (b ∷ bs) ys front e a =
    let p = and_parts (letter b) (scheme_ends bs) e in
    let n : (eqb b 47 && slash_here bs) ≡ false = not_here b bs (letter_in_scheme b p.0) in
    behind (before_authority bs) refl (sym (rw n) ∙ a) p.0 p.1
  where
    behind : (o : Option (List ℕ)) → before_authority bs ≡ o → onto b o ≡ Some front → letter b ≡ true → scheme_ends bs ≡ true → has_scheme (front ++ ys) ≡ true
    behind None k j l s = let z : ◌≡◌ {A = ℕ} 0 1 = cc in absurd (omega arith)
    behind (Some rest) k j l s =
        let f : front ≡ b ∷ rest = cc in
        ap (λ f. has_scheme (f ++ ys)) f ∙ and_from (letter b) (scheme_ends (rest ++ ys)) l (ends_authority bs ys rest s k)

-- an address with a scheme resolves to itself
pub scheme_resolved : (address base directory : List ℕ) → has_scheme address ≡ true → resolved address base directory ≡ Ok (Some address)
scheme_resolved address base directory e = rw e

pub scheme_stays_lem : (address base directory : List ℕ) → SchemeStays address base (rewritten address base directory)
scheme_stays_lem address base directory e = ap (limited base) (scheme_resolved address base directory e)

joined_found : (base found end : List ℕ) (stack : Stack) → joined_up base stack end ≡ Ok (Some found) → (rest : List ℕ) × (found ≡ base ++ rest)
joined_found base found end None e = let z : ◌≡◌ {A = ℕ} 0 1 = cc in absurd (omega arith)
joined_found base found end (Some ss) e = (path_text ss ++ end, cc)

relative_found : (form : Form) (address base directory found : List ℕ) → is_relative form ≡ true → resolved_by form address base directory ≡ Ok (Some found) → (rest : List ℕ) × (found ≡ base ++ rest)
relative_found Scheme address base directory found h e = absurd (false≢true h)
relative_found Anchor address base directory found h e = absurd (false≢true h)
relative_found Network address base directory found h e = absurd (false≢true h)
relative_found Absolute address base directory found h e = joined_found base found _ _ e
relative_found Relative address base directory found h e = joined_found base found _ _ e

pub begins_with_base_lem : (address base directory : List ℕ) → BeginsWithBase address base (rewritten address base directory)
begins_with_base_lem address base directory h found e =
    relative_found (form_of address) address base directory found h (found_before base found (resolved address base directory) e).outcome

-- what was found from a base with a scheme resolves to itself
same_found : (form : Form) (address base directory found again : List ℕ) → form_of address ≡ form → has_scheme base ≡ true → resolved_by form address base directory ≡ Ok (Some found) → resolved found base again ≡ Ok (Some found)
same_found Scheme address base directory found again f h e =
    let k : address ≡ found = cc in
    let s : has_scheme address ≡ true = scheme_form (has_scheme address) refl in
    scheme_resolved found base again (ap has_scheme (sym k) ∙ s)
  where
    scheme_form : (t : Bool) → has_scheme address ≡ t → t ≡ true
    scheme_form true j = refl
    scheme_form false j = absurd (no_scheme address (sym (rw j) ∙ f))
      where
        slash_form_lem : (bs : List ℕ) → slash_form bs ≡ Scheme → ⊥
        slash_form_lem [] j = let z : ◌≡◌ {A = ℕ} 0 1 = cc in omega arith
        slash_form_lem (b ∷ bs) j = go (eqb b 47) j
          where
            go : (t : Bool) → cond t Network Absolute ≡ Scheme → ⊥
            go true k = let z : ◌≡◌ {A = ℕ} 0 1 = cc in omega arith
            go false k = let z : ◌≡◌ {A = ℕ} 0 1 = cc in omega arith

        no_scheme : (bs : List ℕ) → relative_form bs ≡ Scheme → ⊥
        no_scheme [] j = let z : ◌≡◌ {A = ℕ} 0 1 = cc in omega arith
        no_scheme (b ∷ bs) j = go (eqb b 35) (eqb b 47) j
          where
            go : (s t : Bool) → cond s Anchor (cond t (slash_form bs) Relative) ≡ Scheme → ⊥
            go true t k = let z : ◌≡◌ {A = ℕ} 0 1 = cc in omega arith
            go false true k = slash_form_lem bs k
            go false false k = let z : ◌≡◌ {A = ℕ} 0 1 = cc in omega arith
same_found Anchor address base directory found again f h e = let z : ◌≡◌ {A = ℕ} 0 1 = cc in absurd (omega arith)
same_found Network address base directory found again f h e = authority (before_authority base) refl e
  where
    authority : (o : Option (List ℕ)) → before_authority base ≡ o → ◌≡◌ {A = Outcome} (Ok (Some (or_nothing o ++ address))) (Ok (Some found)) → resolved found base again ≡ Ok (Some found)
    authority None k j =
        let s : address ≡ found = cc in
        ap (λ a. resolved a base again) (sym s) ∙ ap (λ form. resolved_by form address base again) f ∙ ap (λ o. Ok (Some (or_nothing o ++ address))) k ∙ j
    authority (Some front) k j =
        let s : front ++ address ≡ found = cc in
        scheme_resolved found base again (ap has_scheme (sym s) ∙ scheme_authority base address front h k)
same_found Absolute address base directory found again f h e =
    let r = joined_found base found _ _ e in
    scheme_resolved found base again (ap has_scheme r.1 ∙ scheme_append base r.0 h)
same_found Relative address base directory found again f h e =
    let r = joined_found base found _ _ e in
    scheme_resolved found base again (ap has_scheme r.1 ∙ scheme_append base r.0 h)

pub same_again_lem : (address base directory : List ℕ) → SameAgain base (rewritten address base directory)
same_again_lem address base directory h found again e =
    let f = found_before base found (resolved address base directory) e in
    passes_again base found (resolved address base directory) (resolved found base again) f (same_found (form_of address) address base directory found again refl h f.outcome)
