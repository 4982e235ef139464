-- A script is read line by line.
use Rattle.std.proofs.Common.{◌≡◌, ℕ, ◌+◌, List, [], ◌∷◌, ◌++◌, map, Ok, Err, Some, None, Option, sym, refl, ap, ◌∙◌, append_assoc, append-nil}
use Rattle.std.proofs.lemmas.List.{map_push}
use Rattle.std.specs.Iterator.{AlwaysYields}
use Rattle.std.specs.List.{enumerate_from}
use Rattle.script.specs.declared.command.Step.{Step}
use Rattle.script.specs.declared.fault.ScriptError.{ScriptError}
use Rattle.script.specs.declared.fault.ScriptError.TheVariants.{Memory, Line}
use Rattle.script.specs.Lines.{line_of}
use Rattle.script.specs.Script.{Said, Outcome, told, and_then, lines_from, said_by, Explains}

-- lines that come with how many stand before them
abbrev pub Numbered : Type 0
Numbered = List (ℕ × List ℕ)

-- what they ask for
abbrev pub numbered : Numbered → Outcome
numbered [] = Ok []
numbered (l ∷ ls) = and_then (told (l.0 + 1) (line_of l.1)) (numbered ls)

-- the lines of a script, with how many stand before each
pub counted : (n : ℕ) (ls : List (List ℕ)) → numbered (enumerate_from n ls) ≡ lines_from (n + 1) ls
counted n [] = refl
counted n (l ∷ ls) = ap (and_then (told (n + 1) (line_of l))) (counted (n + 1) ls)

-- what an iterator gives of the lines that are left
module _ {S A : Type 0} (steps : S → Option A → S → Type 0) (v : A → ℕ × List ℕ) where
  pub left_some : (ls : Numbered) (s t : S) (x : A) → AlwaysYields steps v s ls → steps s (Some x) t → (more : Numbered) × (ls ≡ v x ∷ more) × AlwaysYields steps v t more
  left_some [] s t x all gave = absurd (all x t gave)
  left_some (l ∷ ls) s t x all gave = (ls, ap (λ l. l ∷ ls) (sym (all.1 x t gave).0), (all.1 x t gave).1)

  pub left_none : (ls : Numbered) (s t : S) → AlwaysYields steps v s ls → steps s None t → ls ≡ []
  left_none [] s t all gave = refl
  left_none (l ∷ ls) s t all gave = absurd (all.0 t gave)

grouped : (a b c : Outcome) → and_then (and_then a b) c ≡ and_then a (and_then b c)
grouped (Err e) b c = refl
grouped (Ok xs) (Err e) c = refl
grouped (Ok xs) (Ok ys) (Err e) = refl
grouped (Ok xs) (Ok ys) (Ok zs) = ap (λ l. Ok l) (append_assoc xs ys zs)

-- a line behind what was said so far
opened : (xs : List Said) (n : ℕ) (line : List ℕ) (left more : Numbered) (r : Outcome) → left ≡ (n, line) ∷ more → and_then (Ok xs) (numbered left) ≡ r → and_then (and_then (Ok xs) (told (n + 1) (line_of line))) (numbered more) ≡ r
opened xs n line left more r cut inv =
    grouped (Ok xs) (told (n + 1) (line_of line)) (numbered more) ∙ sym (ap (λ ls. and_then (Ok xs) (numbered ls)) cut) ∙ inv

says : (xs ys : List Said) (n : ℕ) (line : List ℕ) (left more : Numbered) (r : Outcome) → left ≡ (n, line) ∷ more → told (n + 1) (line_of line) ≡ Ok ys → and_then (Ok xs) (numbered left) ≡ r → and_then (Ok (xs ++ ys)) (numbered more) ≡ r
says xs ys n line left more r cut is inv =
    sym (ap (λ o. and_then (and_then (Ok xs) o) (numbered more)) is) ∙ opened xs n line left more r cut inv

pub line_skipped : (xs : List Said) (n : ℕ) (line : List ℕ) (left more : Numbered) (r : Outcome) → left ≡ (n, line) ∷ more → told (n + 1) (line_of line) ≡ Ok [] → and_then (Ok xs) (numbered left) ≡ r → and_then (Ok xs) (numbered more) ≡ r
line_skipped xs n line left more r cut is inv =
    ap (λ l. and_then (Ok l) (numbered more)) (sym (append-nil xs)) ∙ says xs [] n line left more r cut is inv

pub line_asks : (xs ys : List Step) (s : Step) (n : ℕ) (line : List ℕ) (left more : Numbered) (r : Outcome) → ys ≡ xs ++ s ∷ [] → left ≡ (n, line) ∷ more → told (n + 1) (line_of line) ≡ Ok (said_by s ∷ []) → and_then (Ok (map said_by xs)) (numbered left) ≡ r → and_then (Ok (map said_by ys)) (numbered more) ≡ r
line_asks xs ys s n line left more r pushed cut is inv =
    ap (λ l. and_then (Ok l) (numbered more)) (ap (map said_by) pushed ∙ map_push said_by xs s) ∙ says (map said_by xs) (said_by s ∷ []) n line left more r cut is inv

pub line_wrong : (e : ScriptError) (xs : List Said) (n : ℕ) (line : List ℕ) (left more : Numbered) (r : Outcome) → left ≡ (n, line) ∷ more → Explains e (told (n + 1) (line_of line)) → and_then (Ok xs) (numbered left) ≡ r → Explains e r
line_wrong Memory xs n line left more r cut e inv = tt
line_wrong (Line w) xs n line left more r cut e inv =
    sym (opened xs n line left more r cut inv) ∙ ap (λ o. and_then (and_then (Ok xs) o) (numbered more)) e

pub script_begins : (xs : List Step) (ls : List (List ℕ)) → xs ≡ [] → and_then (Ok (map said_by xs)) (numbered (enumerate_from 0 ls)) ≡ lines_from 1 ls
script_begins xs ls none = ap (λ l. and_then (Ok (map said_by l)) (numbered (enumerate_from 0 ls))) none ∙ begins (numbered (enumerate_from 0 ls)) ∙ counted 0 ls
  where
    begins : (o : Outcome) → and_then (Ok []) o ≡ o
    begins (Ok ys) = refl
    begins (Err e) = refl

pub script_ends : (xs : List Said) (left : Numbered) (r : Outcome) → left ≡ [] → and_then (Ok xs) (numbered left) ≡ r → r ≡ Ok xs
script_ends xs left r none inv = sym inv ∙ ap (λ ls. and_then (Ok xs) (numbered ls)) none ∙ ap (λ l. Ok l) (append-nil xs)
