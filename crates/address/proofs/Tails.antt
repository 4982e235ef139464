-- Query and anchor follow what the path before them resolves to. Assumes nothing.
use Rattle.std.proofs.Common.{◌≡◌, ℕ, ◌<◌, true, cond, ◌&&◌, eqb, ◌⊎◌, List, [], ◌∷◌, ◌++◌, length, Some, None, Ok, sym, refl, ap, ◌∙◌, inl, inr, ⊎_elim, arith}
use Rattle.std.proofs.lemmas.List.{append_assoc, append-nil}
use Rattle.std.proofs.lemmas.Bool.{eqb-true, or_cases}
use Rattle.address.specs.declared.reference.Form.{Form}
use Rattle.address.specs.declared.reference.Form.TheVariants.{Scheme, Anchor, Network, Absolute, Relative}
use Rattle.address.specs.Reference.{path_of, query_of, anchor_of, letter, scheme_byte, scheme_ends, slash_form, relative_form, form_of}
use Rattle.address.specs.Segments.{Stack, parts_of, last_of, end_of, path_text}
use Rattle.address.specs.Resolved.{Outcome, segments_of, joined_up, below, before_authority, or_nothing, resolved_by, resolved, rewritten}
use Rattle.address.specs.Laws.{stays_in_path, is_tail, TailFollows}
use Rattle.address.proofs.Cuts.{before-since, path_append, query_append, anchor_append}
use Rattle.address.proofs.Limits.{found_before}

-- a tail is nothing, a query and what follows it, or an anchor
tail_cases : (b : ℕ) (bs : List ℕ) → is_tail (b ∷ bs) ≡ true → (b ≡ 63) ⊎ (b ≡ 35)
tail_cases b bs h = ⊎_elim (λ e. inl (eqb-true b 63 e)) (λ e. inr (eqb-true b 35 e)) (or_cases (eqb b 63) (eqb b 35) h)

tail_path : (tail : List ℕ) → is_tail tail ≡ true → path_of tail ≡ []
tail_path [] h = refl
tail_path (b ∷ bs) h = ⊎_elim (λ e. ap (λ x. path_of (x ∷ bs)) e) (λ e. ap (λ x. path_of (x ∷ bs)) e) (tail_cases b bs h)

tail_whole : (tail : List ℕ) → is_tail tail ≡ true → query_of tail ++ anchor_of tail ≡ tail
tail_whole [] h = refl
tail_whole (b ∷ bs) h =
    ⊎_elim
    (λ e. ap (λ x. query_of (x ∷ bs) ++ anchor_of (x ∷ bs)) e ∙ ap (λ l. 63 ∷ l) (before-since 35 bs) ∙ ap (λ x. x ∷ bs) (sym e))
    (λ e. ap (λ x. query_of (x ∷ bs) ++ anchor_of (x ∷ bs)) e ∙ ap (λ x. x ∷ bs) (sym e))
    (tail_cases b bs h)

-- a tail does not change how an address begins
tail_scheme : (bs tail : List ℕ) → is_tail tail ≡ true → scheme_ends (bs ++ tail) ≡ scheme_ends bs
tail_scheme [] [] h = refl
tail_scheme [] (t ∷ ts) h = ⊎_elim (λ e. ap (λ x. scheme_ends (x ∷ ts)) e) (λ e. ap (λ x. scheme_ends (x ∷ ts)) e) (tail_cases t ts h)
tail_scheme (b ∷ bs) tail h = ap (λ s. cond (eqb b 58) true (scheme_byte b && s)) (tail_scheme bs tail h)

tail_slash : (bs tail : List ℕ) → is_tail tail ≡ true → slash_form (bs ++ tail) ≡ slash_form bs
tail_slash [] [] h = refl
tail_slash [] (t ∷ ts) h = ⊎_elim (λ e. ap (λ x. slash_form (x ∷ ts)) e) (λ e. ap (λ x. slash_form (x ∷ ts)) e) (tail_cases t ts h)
tail_slash (b ∷ bs) tail h = refl

tail_form : (path tail : List ℕ) → 0 < length path → is_tail tail ≡ true → form_of (path ++ tail) ≡ form_of path
tail_form [] tail l h = absurd (omega arith)
tail_form (b ∷ bs) tail l h =
    ap (λ s. cond (letter b && s) Scheme (relative_form (b ∷ (bs ++ tail)))) (tail_scheme bs tail h)
    ∙ ap (λ f. cond (letter b && scheme_ends bs) Scheme (cond (eqb b 35) Anchor (cond (eqb b 47) f Relative))) (tail_slash bs tail h)

-- what is found with a tail is what is found without it, and the tail
abbrev Follows : List ℕ → Outcome → Outcome → Type 0
Follows tail with without = (found : List ℕ) → with ≡ Ok (Some found) → (front : List ℕ) × (without ≡ Ok (Some front)) × (found ≡ front ++ tail)

joined_follows : (base end tail : List ℕ) (stack : Stack) → Follows tail (joined_up base stack (end ++ tail)) (joined_up base stack end)
joined_follows base end tail None found e = let z : ◌≡◌ {A = ℕ} 0 1 = cc in absurd (omega arith)
joined_follows base end tail (Some ss) found e =
    let k : found ≡ base ++ (path_text ss ++ (end ++ tail)) = cc in (
      base ++ (path_text ss ++ end),
      refl,
      k ∙ ap (λ t. base ++ t) (sym (append_assoc (path_text ss) end tail)) ∙ sym (append_assoc base (path_text ss ++ end) tail),
    )

path_alone : (path : List ℕ) → stays_in_path path ≡ true → (path_of path ≡ path) × (query_of path ≡ []) × (anchor_of path ≡ [])
path_alone path i = (
  ap path_of (sym (append-nil path)) ∙ path_append path [] i ∙ append-nil path,
  ap query_of (sym (append-nil path)) ∙ query_append path [] i,
  ap anchor_of (sym (append-nil path)) ∙ anchor_append path [] i,
)

below_follows : (path tail base directory : List ℕ) → stays_in_path path ≡ true → is_tail tail ≡ true → Follows tail (below (path ++ tail) base directory) (below path base directory)
below_follows path tail base directory i h found e =
    let alone = path_alone path i in
    let p : path_of (path ++ tail) ≡ path = path_append path tail i ∙ ap (λ t. path ++ t) (tail_path tail h) ∙ append-nil path in
    let qa : query_of (path ++ tail) ++ anchor_of (path ++ tail) ≡ tail =
    ap (λ q. q ++ anchor_of (path ++ tail)) (query_append path tail i) ∙ ap (λ a. query_of tail ++ a) (anchor_append path tail i) ∙ tail_whole tail h in
    let without : below path base directory ≡ laying path [] =
    ap (λ t. laying t (query_of path ++ anchor_of path)) alone.0 ∙ ap (λ q. laying path (q ++ anchor_of path)) alone.1 ∙ ap (laying path) alone.2 in
    let with : below (path ++ tail) base directory ≡ laying path tail =
    ap (λ t. laying t (query_of (path ++ tail) ++ anchor_of (path ++ tail))) p ∙ ap (laying path) qa in
    let r = joined_follows base (end_of (last_of (parts_of path))) tail (segments_of directory path) found (sym with ∙ e) in
    (r.0, without ∙ ap (joined_up base (segments_of directory path)) (append-nil (end_of (last_of (parts_of path)))) ∙ r.1, r.2)
  where
    laying : List ℕ → List ℕ → Outcome
    laying p t = joined_up base (segments_of directory p) (end_of (last_of (parts_of p)) ++ t)

by_form : (form : Form) (path tail base directory : List ℕ) → stays_in_path path ≡ true → is_tail tail ≡ true → Follows tail (resolved_by form (path ++ tail) base directory) (resolved_by form path base directory)
by_form Scheme path tail base directory i h found e = (path, refl, cc)
by_form Anchor path tail base directory i h found e = let z : ◌≡◌ {A = ℕ} 0 1 = cc in absurd (omega arith)
by_form Network path tail base directory i h found e =
    let k : found ≡ or_nothing (before_authority base) ++ (path ++ tail) = cc in
    (or_nothing (before_authority base) ++ path, refl, k ∙ sym (append_assoc (or_nothing (before_authority base)) path tail))
by_form Absolute path tail base directory i h found e = below_follows path tail base [] i h found e
by_form Relative path tail base directory i h found e = below_follows path tail base directory i h found e

pub tail_follows_lem : (address base directory : List ℕ) → TailFollows address base directory (rewritten address base directory)
tail_follows_lem address base directory path tail a i l h found e =
    let f = found_before base found (resolved address base directory) e in
    let same : resolved address base directory ≡ resolved_by (form_of path) (path ++ tail) base directory =
    ap (λ t. resolved t base directory) a ∙ ap (λ form. resolved_by form (path ++ tail) base directory) (tail_form path tail l h) in
    by_form (form_of path) path tail base directory i h found (sym same ∙ f.outcome)
