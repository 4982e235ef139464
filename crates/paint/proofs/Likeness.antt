-- Styles of one rank are one style, and `==` on styles decides whether they are one. Assumes nothing.
use Rattle.std.proofs.Common.{◌≡◌, ℕ, true, cond, eqb, Decides, sym, refl, ap, ◌∙◌}
use denote.Enum.Bare.{sameb, same_true, true_same}
use Rattle.std.proofs.lemmas.Bool.{eqb-true}
use Rattle.style.specs.declared.palette.Style.{Style}
use Rattle.style.specs.contracts.palette.Style.{the_type}
use Rattle.style.specs.declared.palette.Style.TheVariants.{Heading, Emphasis, Strong, Strikethrough, Code, Term, Link, Comment, Table, Text, Number}
use Rattle.paint.specs.Switching.{rank, same}

abbrev ranked : ℕ → Style
ranked n =
    cond (eqb n 0) Heading (cond (eqb n 1) Emphasis (cond (eqb n 2) Strong (cond (eqb n 3) Strikethrough (cond (eqb n 4) Code
    (cond (eqb n 5) Term (cond (eqb n 6) Link (cond (eqb n 7) Comment (cond (eqb n 8) Table (cond (eqb n 9) Text Number)))))))))

ranked_back : (x : Style) → ranked (rank x) ≡ x
ranked_back Heading = refl
ranked_back Emphasis = refl
ranked_back Strong = refl
ranked_back Strikethrough = refl
ranked_back Code = refl
ranked_back Term = refl
ranked_back Link = refl
ranked_back Comment = refl
ranked_back Table = refl
ranked_back Text = refl
ranked_back Number = refl

pub same_is : (x y : Style) → same x y ≡ true → x ≡ y
same_is x y h = sym (ranked_back x) ∙ ap ranked (eqb-true (rank x) (rank y) h) ∙ ranked_back y

pub style_decides : (x y : Style) → Decides (sameb the_type x y) (x ≡ y)
style_decides x y = (same_true the_type tt x y, true_same the_type x y)
