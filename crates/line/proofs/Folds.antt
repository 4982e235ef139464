-- A loop with steps that may be refused: a turn, its refusal and its end. Assumes nothing.
use Rattle.std.proofs.Common.{◌≡◌, ℕ, ◌+◌, ◌<◌, ◌≤◌, List, [], ◌∷◌, map, length, get_or, drop, Ok, Err, Result, sym, refl, ap, ◌∙◌}
use Rattle.std.proofs.lemmas.List.{at_drop_more, at_drop_all}
use Rattle.line.specs.Folding.{and_then, over}

module _ {X S E : Type 0} (step : X → S → Result S E) (xs : List X) (i : ℕ) (s : S) (all : Result S E) (so_far : over step (drop i xs) s ≡ all) where
  next : (d : X) → i < length xs → and_then (step (get_or xs i d) s) (over step (drop (i + 1) xs)) ≡ all
  next d lt = sym (at_drop_more (λ l. over step l s) xs i d lt) ∙ so_far

  pub over_stop : (d : X) (e : E) → i < length xs → step (get_or xs i d) s ≡ Err e → Err e ≡ all
  over_stop d e lt h = sym (ap (λ r. and_then r (over step (drop (i + 1) xs))) h) ∙ next d lt

  pub over_end : length xs ≤ i → Ok s ≡ all
  over_end le = sym (at_drop_all (λ l. over step l s) xs i le) ∙ so_far

pub same_after : {A B E : Type 0} (r : Result A E) (f g : A → Result B E) → ((x : A) → f x ≡ g x) → and_then r f ≡ and_then r g
same_after (Ok x) f g h = h x
same_after (Err e) f g h = refl

-- a list that is made of another
pub over-map : {W X S E : Type 0} (f : W → X) (step : X → S → Result S E) (ws : List W) (s : S) → over step (map f ws) s ≡ over (λ w. step (f w)) ws s
over-map f step [] s = refl
over-map f step (w ∷ ws) s = same_after (step (f w) s) (over step (map f ws)) (over (λ v. step (f v)) ws) (over-map f step ws)
