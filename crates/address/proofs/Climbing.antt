-- A path laid from its back: each part, whatever stack stands before it. Assumes nothing.
use Rattle.std.proofs.Common.{◌≡◌, ℕ, ◌+◌, List, [], ◌∷◌, Some, None, Option, sym, refl, ap, ◌∙◌, add-one}
use Rattle.address.specs.declared.path.Step.TheVariants.{Up, Down}
use Rattle.address.specs.Buffer.{prepended}
use Rattle.address.specs.Segments.{Stack, entered, path_text}
use Rattle.address.specs.Laying.{laid}
use Rattle.address.proofs.Writing.{prepended-append}

-- a part that goes up is one more to take away
pub laid_up : (n : ℕ) (stack : Stack) (part : List ℕ) (w : Option (List ℕ)) → laid (n + 1) stack w ≡ laid n (entered stack Up part) w
laid_up n None part w = rw (add-one n)
laid_up n (Some ss) part w = rw (add-one n)

-- a segment that stays is written, and a slash before it
pub laid_down : (stack : Stack) (part : List ℕ) (w : Option (List ℕ)) → laid 0 stack (prepended (47 ∷ []) (prepended part w)) ≡ laid 0 (entered stack Down part) w
laid_down None part w = refl
laid_down (Some ss) part w =
    ap Some (sym (prepended-append (path_text ss) (47 ∷ part) w ∙ ap (prepended (path_text ss)) (prepended-append (47 ∷ []) part w)))
