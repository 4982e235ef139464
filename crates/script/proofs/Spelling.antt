-- Reading a number goes digit by digit.
use Rattle.std.proofs.Common.{◌≡◌, ℕ, List, [], ◌∷◌, Some, None, Option, sym, refl, ap, ◌∙◌, subst}
use Rattle.std.specs.declared.ops.ControlFlow.{ControlFlow}
use Rattle.std.specs.declared.ops.ControlFlow.TheVariants.{Continue, Break}
use Rattle.std.specs.ControlFlow.{continue_value}
use Rattle.std.specs.Fn.{Called, Mut}
use Rattle.std.specs.Iterator.{AlwaysYields, Yields, TryFoldsItems, TryFoldTurn}
use Rattle.std.specs.List.{FoldsTo}
use Rattle.std.specs.Option.{MatchOption}
use Rattle.std.proofs.lemmas.Iterator.{YieldsList}
use Rattle.script.specs.Number.{grown, go_on}

-- `?` at an answer
abbrev branches : {E : Type 0} → Option ℕ → ControlFlow E ℕ → Type 0
branches r c = r ≡ continue_value c

-- calls of a closure that puts a digit behind a number
module _ {S A F E : Type 0} (steps : S → Option A → S → Type 0) (v : A → ℕ) (g : Mut F (ℕ × (A × Unit {0})) (Option ℕ)) (resumes : E → Option ℕ → Type 0) (f : F)
    (k : (x : A) (n : ℕ) (r : Option ℕ) (q : F) → Called g f (n, (x, tt)) r q → (q ≡ f) × (r ≡ grown n (v x)))
    (breaks : (e : E) (r : Option ℕ) → resumes e r → r ≡ None) where
  -- what the call at x made of the number n, where x stands for b
  step : (x : A) (b n : ℕ) (w : Option ℕ) (p q : F) → p ≡ f → v x ≡ b → Called g p (n, (x, tt)) w q → (q ≡ f) × (grown n b ≡ w)
  step x b n w p q same is c =
      let said = k x n w q (subst (λ p. Called g p (n, (x, tt)) w q) same c) in (said.0, sym (said.1 ∙ ap (grown n) is))

  number_tried : (all : List ℕ) (xs : List A) (o : Option A) (s t u : S) (p q : F) (n a : ℕ) (r : Option ℕ) → p ≡ f → AlwaysYields steps v s all → Yields steps s xs t → steps t o u
      → FoldsTo {P = F × ℕ} (TryFoldTurn {E = E} g branches) (p, n) xs (q, a)
      → MatchOption o (branches {E = E} r (Continue a)) (λ x. (w : Option ℕ) × (h : F) × (e : E) × Called g q (a, (x, tt)) w h × branches w (Break e) × resumes e r) → r ≡ go_on (Some n) all
  number_tried [] (x ∷ xs) o s t u p q n a r same all ys last folds end = absurd (all x ys.0 ys.1)
  number_tried [] [] (Some x) s t u p q n a r same all ys last folds end = absurd (all x u (subst (λ s. steps s (Some x) u) (sym ys) last))
  number_tried [] [] None s t u p q n a r same all ys last folds end = end ∙ ap (λ z. Some z.1) (sym folds)
  number_tried (b ∷ bs) [] None s t u p q n a r same all ys last folds end = absurd (all.0 u (subst (λ s. steps s None u) (sym ys) last))
  number_tried (b ∷ bs) [] (Some x) s t u p q n a r same all ys last folds (w, h, e, called, broke, resumed) =
      let is = (all.1 x u (subst (λ s. steps s (Some x) u) (sym ys) last)).0 in
      let at = (step x b a w q h (ap (λ z. z.0) (sym folds) ∙ same) is called).1 in
      breaks e r resumed ∙ sym (ap (λ o. go_on o bs) (ap (λ z. grown z.1 b) folds ∙ at ∙ broke))
  number_tried (b ∷ bs) (x ∷ xs) o s t u p q n a r same all ys last folds end =
      let more = all.1 x ys.0 ys.1 in
      let turn = folds.1 in
      let said = step x b n turn.0 p folds.0.0 same more.0 turn.1 in
      number_tried bs xs o ys.0 t u folds.0.0 q folds.0.1 a r said.0 more.1 ys.2 last folds.2 end
      ∙ sym (ap (λ o. go_on o bs) (said.1 ∙ turn.2))

-- the number that `try_fold` makes, where a closure puts each digit behind it
pub go_on_from_try_fold : {S A F E : Type 0} {steps : S → Option A → S → Type 0} {v : A → ℕ} {g : Mut F (ℕ × (A × Unit {0})) (Option ℕ)} {resumes : E → Option ℕ → Type 0} {s : S} {f : F} {all : List ℕ} (u : S) (n : ℕ) (r : Option ℕ)
    → TryFoldsItems steps g branches resumes s f n r u → YieldsList steps v s all
    → ((x : A) (n : ℕ) (r : Option ℕ) (q : F) → Called g f (n, (x, tt)) r q → (q ≡ f) × (r ≡ grown n (v x)))
    → ((e : E) (r : Option ℕ) → resumes e r → r ≡ None) → r ≡ go_on (Some n) all
go_on_from_try_fold {steps = steps} {v = v} {g = g} {resumes = resumes} {s = s} {f = f} {all = all} u n r (xs, o, q, a, ys, folds, end) yields k breaks =
    number_tried steps v g resumes f k breaks all xs o s ys.0 u f q n a r refl yields.runs ys.1 ys.2 folds end
