-- A path's last part, whatever stack stands before it. Assumes nothing.
use Rattle.std.proofs.Common.{◌≡◌, ℕ, ◌-◌, Bool, true, false, leb, List, [], ◌∷◌, ◌++◌, length, take, drop, Some, None, codes, Option, sym, refl, ap, ◌∙◌, arith, length-append}
use Rattle.std.specs.Str.{bytes_eq}
use Rattle.std.proofs.lemmas.Slice.Eq.{bytes_eq-Decides}
use Rattle.std.proofs.lemmas.List.Prefix.{end_rest}
use Rattle.std.proofs.lemmas.List.{append-nil, take-append-drop}
use Rattle.std.proofs.lemmas.Bool.{le-leb, and_parts, and_from}
use Rattle.address.specs.Sources.{Path}
use Rattle.address.specs.declared.path.Step.{Step}
use Rattle.address.specs.declared.path.Step.TheVariants.{Stay, Up, Down}
use Rattle.address.specs.Buffer.{prepended}
use Rattle.address.specs.Segments.{Stack, step_of, entered, is_page, last_entered, slash_after, end_of, path_text}
use Rattle.address.specs.Laying.{laid}
use Rattle.address.proofs.Parts.{bytes_same, bytes_differ}
use Rattle.address.proofs.Writing.{prepended-append}
use Rattle.address.proofs.Climbing.{laid_up, laid_down}

-- what ends with '.md', and what does not
pub page_ends : (part front : List ℕ) → part ≡ front ++ codes ".md" → is_page part ≡ true
page_ends part front e =
    and_from (leb 3 (length part)) (bytes_eq (drop (length part - 3) part) (codes ".md"))
    (le-leb 3 (length part) (omega (arith, ap length e, length-append front (codes ".md"))))
    (bytes_same (drop (length part - 3) part) (codes ".md") (end_rest part (codes ".md") front e))

pub page_parts : (part : List ℕ) → is_page part ≡ true → part ≡ take (length part - 3) part ++ codes ".md"
page_parts part e =
    let p = and_parts (leb 3 (length part)) (bytes_eq (drop (length part - 3) part) (codes ".md")) e in
    sym (take-append-drop (length part - 3) part) ∙ ap (λ t. take (length part - 3) part ++ t) ((bytes_eq-Decides (drop (length part - 3) part) (codes ".md")).0 p.1)

pub page_not : (part : List ℕ) → ((front : List ℕ) → part ≡ front ++ codes ".md" → ⊥) → is_page part ≡ false
page_not part h = go (is_page part) refl
  where
    go : (t : Bool) → is_page part ≡ t → t ≡ false
    go true e = absurd (h (take (length part - 3) part) (page_parts part e))
    go false e = refl

-- the page 'index.md'
pub last_index : (stack : Stack) (part : List ℕ) (v w : Option (List ℕ)) → part ≡ codes "index.md" → v ≡ prepended (47 ∷ []) w →
    laid 0 stack v ≡ laid 0 (last_entered stack part) (prepended (end_of part) w)
last_index stack part v w e k = rw e (ap (laid 0 stack) k)

-- another page
pub last_page : (stack : Stack) (part name : List ℕ) (v w : Option (List ℕ)) → (part ≡ codes "index.md" → ⊥) → is_page part ≡ true → name ≡ take (length part - 3) part →
    v ≡ prepended (47 ∷ []) (prepended name (prepended (47 ∷ []) w)) → laid 0 stack v ≡ laid 0 (last_entered stack part) (prepended (end_of part) w)
last_page stack part name v w n p e k =
    rw (bytes_differ part (codes "index.md") n, p, ← e) (ap (laid 0 stack) k ∙ laid_down stack name (prepended (47 ∷ []) w))

-- what is no page
abbrev pub LastBy : Step → ℕ → Stack → List ℕ → Option (List ℕ) → Option (List ℕ) → Type 0
LastBy step n stack part v w = laid n stack v ≡ laid 0 (entered stack step part) (prepended (slash_after step) w)

pub last_other : (n : ℕ) (stack : Stack) (part : List ℕ) (v w : Option (List ℕ)) → (part ≡ codes "index.md" → ⊥) → is_page part ≡ false →
    LastBy (step_of Path part) n stack part v w → laid n stack v ≡ laid 0 (last_entered stack part) (prepended (end_of part) w)
last_other n stack part v w i p h = rw (bytes_differ part (codes "index.md") i, p) h

pub last_stay : (stack : Stack) (part : List ℕ) (v w : Option (List ℕ)) → v ≡ prepended (47 ∷ []) w → LastBy Stay 0 stack part v w
last_stay None part v w k = refl
last_stay (Some ss) part v w k = ap (laid 0 (Some ss)) k

pub last_up : (stack : Stack) (part : List ℕ) (v w : Option (List ℕ)) → v ≡ prepended (47 ∷ []) w → LastBy Up 1 stack part v w
last_up stack part v w k = ap (laid 1 stack) k ∙ laid_up 0 stack part (prepended (47 ∷ []) w)

pub last_down : (stack : Stack) (part : List ℕ) (v w : Option (List ℕ)) → v ≡ prepended (47 ∷ []) (prepended part w) → LastBy Down 0 stack part v w
last_down None part v w k = refl
last_down (Some ss) part v w k =
    ap (laid 0 (Some ss)) k ∙ laid_down (Some ss) part w
    ∙ ap Some (ap (λ t. prepended t w) (sym (append-nil (path_text (part ∷ ss)))) ∙ prepended-append (path_text (part ∷ ss)) [] w)
