-- Bytes put in parts are bytes put at once. Assumes nothing.
use Rattle.std.proofs.Common.{◌≡◌, ℕ, ◌+◌, ◌-◌, ◌<◌, ◌≤◌, Bool, true, false, cond, List, [], ◌∷◌, ◌++◌, length, get_or, drop, Some, None, Ok, Err, Option, sym, refl, ap, ◌∙◌, ⊎_elim, append_assoc, append-nil, arith, length-append}
use Rattle.std.proofs.lemmas.List.{at_drop_more, at_drop_all}
use Rattle.std.proofs.lemmas.Bool.{le-leb, lt-leb, cases_lt, eq-eqb}
use Rattle.style.specs.Switches.{switch_of, reset_bytes}
use Rattle.style.specs.declared.palette.Style.{Style}
use Rattle.paint.specs.declared.fault.RowFault.{RowFault}
use Rattle.paint.specs.declared.link.LinkTarget.{LinkTarget}
use Rattle.paint.specs.declared.link.LinkTarget.TheVariants.{Unlinked, Linked}
use Rattle.paint.specs.Switching.{rank, same, beyond, switches, turned, restyled}
use Rattle.paint.specs.Linking.{same_link, left, entered, relinked}
use Rattle.paint.specs.Rows.{put}
use Rattle.paint.proofs.Likeness.{same_is}

abbrev full : RowFault
full = record {}

pub put_long : (xs row : List ℕ) → 8192 - length row < length xs → put xs row ≡ Err full
put_long xs row h = ap (λ t. cond t (Ok (row ++ xs)) (Err full)) (lt-leb (length xs) (8192 - length row) h)

pub put_fits : (xs row : List ℕ) → length xs ≤ 8192 - length row → put xs row ≡ Ok (row ++ xs)
put_fits xs row h = ap (λ t. cond t (Ok (row ++ xs)) (Err full)) (le-leb (length xs) (8192 - length row) h)

-- a part that is refused, and one that is put
pub put_first : (a b row : List ℕ) (e : RowFault) → put a row ≡ Err e → put (a ++ b) row ≡ Err e
put_first a b row e h =
    ⊎_elim (λ lt. let k = put_long a row lt in let l = put_long (a ++ b) row (omega (arith, length-append a b)) in cc)
    (λ le. absurd (let k = put_fits a row le in let z : ◌≡◌ {A = ℕ} 0 1 = cc in omega arith))
    (cases_lt (8192 - length row) (length a))

pub put_then : (a b row out : List ℕ) → put a row ≡ Ok out → put (a ++ b) row ≡ put b out
put_then a b row out h =
    ⊎_elim (λ lt. absurd (let k = put_long a row lt in let z : ◌≡◌ {A = ℕ} 0 1 = cc in omega arith))
    (λ le. let k = put_fits a row le in let e : out ≡ row ++ a = cc in go le e)
    (cases_lt (8192 - length row) (length a))
  where
    go : length a ≤ 8192 - length row → out ≡ row ++ a → put (a ++ b) row ≡ put b out
    go le e =
        ⊎_elim (λ long. put_long (a ++ b) row (omega (arith, length-append a b, length-append row a, ap length e)) ∙ sym (put_long b out long))
        (λ fits.
        put_fits (a ++ b) row (omega (arith, length-append a b, length-append row a, ap length e))
        ∙ ap Ok (sym (append_assoc row a b) ∙ ap (λ xs. xs ++ b) (sym e))
        ∙ sym (put_fits b out fits))
        (cases_lt (8192 - length out) (length b))

pub put_none : (row : List ℕ) → put [] row ≡ Ok row
put_none row = put_fits [] row (omega arith) ∙ ap Ok (append-nil row)

-- a turn of the loop over styles, its refusal and its end
switches_next : (styles : List Style) (i : ℕ) (d : Style) → i < length styles → switches (drop i styles) ≡ switch_of (get_or styles i d) ++ switches (drop (i + 1) styles)
unfolding switches
switches_next styles i d h = at_drop_more switches styles i d h

pub styles_stop : (styles : List Style) (i : ℕ) (d : Style) (sw row start : List ℕ) (e : RowFault) → i < length styles → put (switches styles) start ≡ put (switches (drop i styles)) row → sw ≡ switch_of (get_or styles i d) → Err e ≡ put sw row → Err e ≡ put (switches styles) start
styles_stop styles i d sw row start e lt h k r =
    sym (h ∙ ap (λ xs. put xs row) (switches_next styles i d lt ∙ ap (λ xs. xs ++ switches (drop (i + 1) styles)) (sym k)) ∙ put_first sw (switches (drop (i + 1) styles)) row e (sym r))

pub styles_again : (styles : List Style) (i : ℕ) (d : Style) (sw row start out : List ℕ) → i < length styles → put (switches styles) start ≡ put (switches (drop i styles)) row → sw ≡ switch_of (get_or styles i d) → Ok out ≡ put sw row → put (switches styles) start ≡ put (switches (drop (i + 1) styles)) out
styles_again styles i d sw row start out lt h k r =
    h ∙ ap (λ xs. put xs row) (switches_next styles i d lt ∙ ap (λ xs. xs ++ switches (drop (i + 1) styles)) (sym k)) ∙ put_then sw (switches (drop (i + 1) styles)) row out (sym r)

switches_none : (styles : List Style) (i : ℕ) → length styles ≤ i → switches (drop i styles) ≡ []
unfolding switches
switches_none styles i h = at_drop_all switches styles i h

pub styles_end : (styles : List Style) (i : ℕ) (row start : List ℕ) → length styles ≤ i → put (switches styles) start ≡ put (switches (drop i styles)) row → Ok row ≡ put (switches styles) start
styles_end styles i row start le h = sym (h ∙ ap (λ xs. put xs row) (switches_none styles i le) ∙ put_none row)

-- tests on styles
same_self : (x : Style) → same x x ≡ true
same_self x = eq-eqb (rank x) (rank x) refl

beyond_some : (e r : List Style) → beyond e (e ++ r) ≡ Some r
beyond_some [] r = refl
beyond_some (x ∷ e) r = ap (λ t. cond t (beyond e (e ++ r)) None) (same_self x) ∙ beyond_some e r

beyond_splits : (e d r : List Style) → beyond e d ≡ Some r → d ≡ e ++ r
beyond_splits [] d r h = cc
beyond_splits (x ∷ e) [] r h = absurd (let z : ◌≡◌ {A = ℕ} 0 1 = cc in omega arith)
beyond_splits (x ∷ e) (y ∷ d) r h = go (λ k. beyond_splits e d r k) (same x y) refl h
  where
    go : (beyond e d ≡ Some r → d ≡ e ++ r) → (t : Bool) → same x y ≡ t → cond t (beyond e d) None ≡ Some r → y ∷ d ≡ x ∷ (e ++ r)
    go ih true k h = let p = same_is x y k in let q = ih h in cc
    go ih false k h = absurd (let z : ◌≡◌ {A = ℕ} 0 1 = cc in omega arith)

-- further styles alone, or a reset and all
pub restyled_further : (e d r : List Style) → d ≡ e ++ r → restyled e d ≡ switches r
unfolding restyled
restyled_further e d r h = ap (λ o. turned o d) (ap (λ xs. beyond e xs) h ∙ beyond_some e r)

pub restyled_anew : (e d : List Style) → ((r : List Style) → d ≡ e ++ r → ⊥) → restyled e d ≡ reset_bytes ++ switches d
unfolding restyled
restyled_anew e d h = go (beyond e d) refl
  where
    go : (o : Option (List Style)) → beyond e d ≡ o → turned o d ≡ reset_bytes ++ switches d
    go (Some r) k = absurd (h r (beyond_splits e d r k))
    go None k = refl

-- links
pub relinked_none : (e d : LinkTarget) (a : List ℕ) → same_link e d ≡ true → relinked e d a ≡ []
unfolding relinked
relinked_none e d a h = ap (λ t. cond t [] (left e ++ entered d a)) h

left_by_none : (e : LinkTarget) → left e ≡ entered e []
left_by_none Unlinked = refl
left_by_none (Linked n) = refl

pub relinked_both : (e d : LinkTarget) (a : List ℕ) → same_link e d ≡ false → relinked e d a ≡ entered e [] ++ entered d a
unfolding relinked
relinked_both e d a h =
    ap (λ t. cond t [] (left e ++ entered d a)) h ∙ ap (λ xs. xs ++ entered d a) (left_by_none e)
