-- A detour in a path leads nowhere. Assumes nothing.
use Rattle.std.proofs.Common.{◌≡◌, ℕ, Bool, true, false, not, eqb, ◌⊎◌, List, [], ◌∷◌, ◌++◌, Some, None, codes, sym, refl, ap, ◌∙◌, inl, inr, ⊎_elim, arith}
use Rattle.std.proofs.lemmas.List.{append_assoc}
use Rattle.std.proofs.lemmas.Bool.{eqb-true, and_parts, not-true, false≢true}
use Rattle.address.specs.Sources.{Source, Path, Directory}
use Rattle.address.specs.declared.path.Step.TheVariants.{Up, Down}
use Rattle.address.specs.declared.reference.Form.{Form}
use Rattle.address.specs.declared.reference.Form.TheVariants.{Scheme, Anchor, Network, Absolute, Relative}
use Rattle.address.specs.Reference.{path_of, query_of, anchor_of, form_of}
use Rattle.chars.specs.Parts.{on_first}
use Rattle.address.specs.Segments.{Stack, parts_of, step_of, entered, walked, leading_of, last_of, last_entered, end_of}
use Rattle.address.specs.Resolved.{Outcome, joined_up, below, resolved_by, limited, rewritten}
use Rattle.address.specs.Laws.{is_relative, lacks, stays_in_path, whole_parts, Detour, DetourVanishes}
use Rattle.address.proofs.Cuts.{path_append, query_append, anchor_append, in_path_append}
use Rattle.address.proofs.Splitting.{on_first_append, some_part}

-- whole parts before a text come before its parts
parts_slash : (xs ys : List ℕ) → parts_of (xs ++ (47 ∷ ys)) ≡ parts_of xs ++ parts_of ys
parts_slash [] ys = refl
parts_slash (b ∷ bs) ys = go (eqb b 47) refl (parts_slash bs ys)
  where
    go : (t : Bool) → eqb b 47 ≡ t → parts_of (bs ++ (47 ∷ ys)) ≡ parts_of bs ++ parts_of ys → parts_of ((b ∷ bs) ++ (47 ∷ ys)) ≡ parts_of (b ∷ bs) ++ parts_of ys
    go true e ih = rw e (ap (λ ps. [] ∷ ps) ih)
    go false e ih = rw e (ap (on_first b) ih ∙ on_first_append b (parts_of bs) (parts_of ys) bs refl)

parts_name : (name : List ℕ) → lacks 47 name ≡ true → parts_of name ≡ name ∷ []
parts_name [] h = refl
parts_name (b ∷ bs) h =
    let p = and_parts (not (eqb b 47)) (lacks 47 bs) h in
    rw (not-true (eqb b 47) p.0) (ap (on_first b) (parts_name bs p.1))

walked-append : (source : Source) (stack : Stack) (ps qs : List (List ℕ)) → walked source stack (ps ++ qs) ≡ walked source (walked source stack ps) qs
walked-append source stack [] qs = refl
walked-append source stack (p ∷ ps) qs = walked-append source (entered stack (step_of source p) p) ps qs

-- the last part and those before it, behind others
last_behind : (ps : List (List ℕ)) (q : List ℕ) (qs : List (List ℕ)) → last_of (ps ++ (q ∷ qs)) ≡ last_of (q ∷ qs)
last_behind [] q qs = refl
last_behind (p ∷ []) q qs = refl
last_behind (p ∷ (r ∷ ps)) q qs = last_behind (r ∷ ps) q qs

leading_behind : (ps : List (List ℕ)) (q : List ℕ) (qs : List (List ℕ)) → leading_of (ps ++ (q ∷ qs)) ≡ ps ++ leading_of (q ∷ qs)
leading_behind [] q qs = refl
leading_behind (p ∷ []) q qs = refl
leading_behind (p ∷ (r ∷ ps)) q qs = ap (λ l. p ∷ l) (leading_behind (r ∷ ps) q qs)

-- parts that lead back to where they began
abbrev Back : List (List ℕ) → Type 0
Back ps = (stack : Stack) → walked Path stack ps ≡ stack

back_dot : Back (codes "." ∷ [])
back_dot None = refl
back_dot (Some ss) = refl

back_name : (name : List ℕ) → step_of Path name ≡ Down → Back (name ∷ (codes ".." ∷ []))
back_name name e None = refl
back_name name e (Some ss) = ap (λ s. entered (entered (Some ss) s name) Up (codes "..")) e

-- what such parts leave of a path
record Vanishes (more less : List (List ℕ)) : Type 0 where
  last : last_of more ≡ last_of less
  leading : (stack : Stack) → walked Path stack (leading_of more) ≡ walked Path stack (leading_of less)

vanish : (front back : List (List ℕ)) (q : List ℕ) (qs : List (List ℕ)) → Back back → Vanishes (front ++ (back ++ (q ∷ qs))) (front ++ (q ∷ qs))
vanish front back q qs h = record { last = lasts; leading = leads }
  where
    group : front ++ (back ++ (q ∷ qs)) ≡ (front ++ back) ++ (q ∷ qs)
    group = sym (append_assoc front back (q ∷ qs))

    lasts : last_of (front ++ (back ++ (q ∷ qs))) ≡ last_of (front ++ (q ∷ qs))
    lasts = ap last_of group ∙ last_behind (front ++ back) q qs ∙ sym (last_behind front q qs)

    leads : (stack : Stack) → walked Path stack (leading_of (front ++ (back ++ (q ∷ qs)))) ≡ walked Path stack (leading_of (front ++ (q ∷ qs)))
    leads stack =
        ap (λ ps. walked Path stack (leading_of ps)) group
        ∙ ap (walked Path stack) (leading_behind (front ++ back) q qs)
        ∙ walked-append Path stack (front ++ back) (leading_of (q ∷ qs))
        ∙ ap (λ s. walked Path s (leading_of (q ∷ qs))) (walked-append Path stack front back ∙ h (walked Path stack front))
        ∙ sym (walked-append Path stack front (leading_of (q ∷ qs)))
        ∙ ap (walked Path stack) (sym (leading_behind front q qs))

-- whole parts: nothing, or a text and a slash
whole_cases : (front : List ℕ) → whole_parts front ≡ true → (front ≡ []) ⊎ ((text : List ℕ) × (front ≡ text ++ (47 ∷ [])))
whole_cases [] h = inl refl
whole_cases (b ∷ []) h = inr ([], ap (λ x. x ∷ []) (eqb-true b 47 h))
whole_cases (b ∷ (c ∷ bs)) h =
    ⊎_elim (λ e. let z : ◌≡◌ {A = ℕ} 0 1 = cc in absurd (omega arith)) (λ p. inr (b ∷ p.0, ap (λ l. b ∷ l) p.1)) (whole_cases (c ∷ bs) h)

-- the parts of a path behind whole parts
parts_behind : (front : List ℕ) → whole_parts front ≡ true → (fs : List (List ℕ)) × ((path : List ℕ) → parts_of (front ++ path) ≡ fs ++ parts_of path)
parts_behind front h =
    ⊎_elim
    (λ e. ([], λ path. ap (λ f. parts_of (f ++ path)) e))
    (λ p. (parts_of p.0, λ path. ap (λ f. parts_of (f ++ path)) p.1 ∙ ap parts_of (append_assoc p.0 (47 ∷ []) path) ∙ parts_slash p.0 path))
    (whole_cases front h)

-- the parts of a detour
parts_detour : (detour : List ℕ) → Detour detour → (back : List (List ℕ)) × Back back × ((path : List ℕ) → parts_of (detour ++ path) ≡ back ++ parts_of path)
parts_detour detour d =
    ⊎_elim
    (λ e. (codes "." ∷ [], back_dot, λ path. ap (λ t. parts_of (t ++ path)) e))
    (λ n. (
      n.0 ∷ (codes ".." ∷ []),
      back_name n.0 n.1.segment,
      λ path.
          ap (λ t. parts_of (t ++ path)) n.2 ∙ ap parts_of (append_assoc n.0 (codes "/../") path) ∙ parts_slash n.0 (codes "../" ++ path)
          ∙ ap (λ ps. ps ++ (codes ".." ∷ parts_of path)) (parts_name n.0 n.1.one_part),
    ))
    d

detour_in_path : (detour : List ℕ) → Detour detour → stays_in_path detour ≡ true
detour_in_path detour d =
    ⊎_elim (λ e. ap stays_in_path e) (λ n. ap stays_in_path n.2 ∙ in_path_append n.0 (codes "/../") n.1.in_path refl) d

path_vanishes : (front detour path : List ℕ) → whole_parts front ≡ true → Detour detour → Vanishes (parts_of (front ++ (detour ++ path))) (parts_of (front ++ path))
path_vanishes front detour path w d =
    let f = parts_behind front w in
    let b = parts_detour detour d in
    let q = some_part path in
    let more : parts_of (front ++ (detour ++ path)) ≡ f.0 ++ (b.0 ++ (q.0 ∷ q.1)) =
    f.1 (detour ++ path) ∙ ap (λ ps. f.0 ++ ps) (b.2 path ∙ ap (λ ps. b.0 ++ ps) q.2) in
    let less : parts_of (front ++ path) ≡ f.0 ++ (q.0 ∷ q.1) = f.1 path ∙ ap (λ ps. f.0 ++ ps) q.2 in
    let v = vanish f.0 b.0 q.0 q.1 b.1 in
    record { last = ap last_of more ∙ v.last ∙ sym (ap last_of less); leading = λ stack. ap (λ ps. walked Path stack (leading_of ps)) more ∙ v.leading stack ∙ sym (ap (λ ps. walked Path stack (leading_of ps)) less) }

-- what the parts of a path, a query and an anchor come to
abbrev laying : List ℕ → Stack → List (List ℕ) → List ℕ → List ℕ → Outcome
laying base site ps query anchor = joined_up base (last_entered (walked Path site (leading_of ps)) (last_of ps)) (end_of (last_of ps) ++ (query ++ anchor))

less_is_more : (base : List ℕ) (site : Stack) (more less : List (List ℕ)) (query anchor : List ℕ) → Vanishes more less → laying base site less query anchor ≡ laying base site more query anchor
less_is_more base site more less query anchor v =
    ap (λ s. joined_up base (last_entered s (last_of less)) (end_of (last_of less) ++ (query ++ anchor))) (sym (v.leading site))
    ∙ ap (λ l. joined_up base (last_entered (walked Path site (leading_of more)) l) (end_of l ++ (query ++ anchor))) (sym v.last)

below_vanishes : (front detour rest base directory : List ℕ) → stays_in_path front ≡ true → whole_parts front ≡ true → Detour detour →
    below (front ++ rest) base directory ≡ below (front ++ (detour ++ rest)) base directory
below_vanishes front detour rest base directory i w d =
    same (path_of (front ++ rest)) (path_of (front ++ (detour ++ rest))) (front ++ path_of rest) (front ++ (detour ++ path_of rest))
    (path_append front rest i) (path_append front (detour ++ rest) i ∙ ap (λ p. front ++ p) (path_append detour rest (detour_in_path detour d)))
    (path_vanishes front detour (path_of rest) w d)
    (query_of (front ++ rest)) (query_of (front ++ (detour ++ rest))) (query_of rest) (anchor_of (front ++ rest)) (anchor_of (front ++ (detour ++ rest))) (anchor_of rest)
    (query_append front rest i) (query_append front (detour ++ rest) i ∙ query_append detour rest (detour_in_path detour d))
    (anchor_append front rest i) (anchor_append front (detour ++ rest) i ∙ anchor_append detour rest (detour_in_path detour d))
  where
    site : Stack
    site = walked Directory (Some []) (parts_of directory)

    same : (p p' q q' : List ℕ) → p ≡ q → p' ≡ q' → Vanishes (parts_of q') (parts_of q) → (k k' l a a' m : List ℕ) → k ≡ l → k' ≡ l → a ≡ m → a' ≡ m →
        laying base site (parts_of p) k a ≡ laying base site (parts_of p') k' a'
    same p p' q q' e e' v k k' l a a' m f f' g g' =
        ap (λ t. laying base site (parts_of t) k a) e ∙ ap (λ t. laying base site (parts_of q) t a) f ∙ ap (λ t. laying base site (parts_of q) l t) g
        ∙ less_is_more base site (parts_of q') (parts_of q) l m v
        ∙ sym (ap (λ t. laying base site (parts_of t) k' a') e' ∙ ap (λ t. laying base site (parts_of q') t a') f' ∙ ap (λ t. laying base site (parts_of q') l t) g')

-- a detour changes nothing
pub detour_vanishes_lem : (address base directory : List ℕ) → DetourVanishes address base directory (rewritten address base directory)
detour_vanishes_lem address base directory front detour rest e i w d r f =
    ap (limited base) (by_form (form_of address) r ∙ ap (λ form. resolved_by form (front ++ (detour ++ rest)) base directory) (sym f))
  where
    by_form : (form : Form) → is_relative form ≡ true → resolved_by form address base directory ≡ resolved_by form (front ++ (detour ++ rest)) base directory
    by_form Scheme h = absurd (false≢true h)
    by_form Anchor h = absurd (false≢true h)
    by_form Network h = absurd (false≢true h)
    by_form Absolute h = ap (λ a. below a base []) e ∙ below_vanishes front detour rest base [] i w d
    by_form Relative h = ap (λ a. below a base directory) e ∙ below_vanishes front detour rest base directory i w d
