-- An address laid from its anchor to its base. Assumes nothing.
use Rattle.std.proofs.Common.{◌≡◌, ℕ, zero, suc, ◌<◌, List, [], Some, None, Option, sym, refl, ap, ◌∙◌, arith}
use Rattle.std.specs.Option.{option_map}
use Rattle.std.proofs.lemmas.List.{append-nil}
use Rattle.address.specs.Sources.{Path, Directory}
use Rattle.address.specs.Buffer.{prepended}
use Rattle.address.specs.Segments.{Stack, parts_of, leading_of, last_of, walked, last_entered, end_of}
use Rattle.address.specs.Laying.{raised, laid}
use Rattle.address.specs.Reference.{before, since, path_of, query_of, anchor_of}
use Rattle.address.specs.Resolved.{segments_of}
use Rattle.address.proofs.Writing.{prepended-append}

-- the last part, then the path's other parts, then the directory's
pub laid_whole : (directory path leading last : List ℕ) (u₁ u₂ u₃ : ℕ) (w₁ w₂ w₃ w₄ : Option (List ℕ)) →
    ((stack : Stack) → walked Path stack (parts_of leading) ≡ walked Path stack (leading_of (parts_of path))) →
    last ≡ last_of (parts_of path) →
    ((stack : Stack) → laid u₁ stack w₂ ≡ laid 0 (last_entered stack last) (prepended (end_of last) w₁)) →
    ((stack : Stack) → laid u₂ stack w₃ ≡ laid u₁ (walked Path stack (parts_of leading)) w₂) →
    ((stack : Stack) → laid u₃ stack w₄ ≡ laid u₂ (walked Directory stack (parts_of directory)) w₃) →
    laid u₃ (Some []) w₄ ≡ laid 0 (segments_of directory path) (prepended (end_of (last_of (parts_of path))) w₁)
laid_whole directory path leading last u₁ u₂ u₃ w₁ w₂ w₃ w₄ le la last-laid path-laid site-laid =
    site-laid (Some [])
    ∙ path-laid site
    ∙ ap (λ s. laid u₁ s w₂) (le site)
    ∙ last-laid (walked Path site (leading_of (parts_of path)))
    ∙ ap (λ p. laid 0 (last_entered (walked Path site (leading_of (parts_of path))) p) (prepended (end_of p) w₁)) la
  where
    site : Stack
    site = walked Directory (Some []) (parts_of directory)

-- the same of an address, cut at its marks and written from its anchor on
pub laid_address : (url directory front anchor path query leading last : List ℕ) (u₁ u₂ u₃ : ℕ) (w₀ v w₁ w₂ w₃ w₄ : Option (List ℕ)) →
    front ≡ before 35 url → anchor ≡ since 35 url → path ≡ before 63 front → query ≡ since 63 front →
    v ≡ prepended anchor w₀ → w₁ ≡ prepended query v →
    ((stack : Stack) → walked Path stack (parts_of leading) ≡ walked Path stack (leading_of (parts_of path))) →
    last ≡ last_of (parts_of path) →
    ((stack : Stack) → laid u₁ stack w₂ ≡ laid 0 (last_entered stack last) (prepended (end_of last) w₁)) →
    ((stack : Stack) → laid u₂ stack w₃ ≡ laid u₁ (walked Path stack (parts_of leading)) w₂) →
    ((stack : Stack) → laid u₃ stack w₄ ≡ laid u₂ (walked Directory stack (parts_of directory)) w₃) →
    laid u₃ (Some []) w₄ ≡ laid 0 (segments_of directory (path_of url)) (prepended (end_of (last_of (parts_of (path_of url)))) (prepended (query_of url) (prepended (anchor_of url) w₀)))
laid_address url directory front anchor path query leading last u₁ u₂ u₃ w₀ v w₁ w₂ w₃ w₄ f a p q vs ws le la last-laid path-laid site-laid =
    laid_whole directory path leading last u₁ u₂ u₃ w₁ w₂ w₃ w₄ le la last-laid path-laid site-laid
    ∙ ap (λ t. laid 0 (segments_of directory t) (prepended (end_of (last_of (parts_of t))) w₁)) (p ∙ ap (before 63) f)
    ∙ ap (λ w. laid 0 (segments_of directory (path_of url)) (prepended (end_of (last_of (parts_of (path_of url)))) w)) written
  where
    written : w₁ ≡ prepended (query_of url) (prepended (anchor_of url) w₀)
    written = ws ∙ ap (λ t. prepended t v) (q ∙ ap (since 63) f) ∙ ap (prepended (query_of url)) (vs ∙ ap (λ t. prepended t w₀) a)

raised_none : (n : ℕ) → raised n None ≡ None
raised_none zero = refl
raised_none (suc n) = raised_none n

-- segments still to be taken away where there are none
pub laid_none : (n : ℕ) (w : Option (List ℕ)) → 0 < n → laid n (Some []) w ≡ None
laid_none zero w h = absurd (omega arith)
laid_none (suc n) w h = ap (option_map _) (raised_none n)

pub lay_refused : (base : List ℕ) (n : ℕ) (w : Option (List ℕ)) (x : Option (Option (List ℕ))) → 0 < n → laid n (Some []) w ≡ x → None ≡ option_map (prepended base) x
lay_refused base n w x h e = ap (option_map (prepended base)) (sym (laid_none n w h) ∙ e)

pub lay_done : (base : List ℕ) (n : ℕ) (v w : Option (List ℕ)) (x : Option (Option (List ℕ))) → n ≡ 0 → v ≡ prepended base w → laid n (Some []) w ≡ x → Some v ≡ option_map (prepended base) x
lay_done base n v w x z k e =
    ap Some (k ∙ ap (λ b. prepended b w) (sym (append-nil base)) ∙ prepended-append base [] w)
    ∙ ap (option_map (prepended base)) (sym (ap (λ m. laid m (Some []) w) z) ∙ e)
