-- Steps that may be refused, one after the other.
use Rattle.std.specs.Prelude.{List, [], ◌∷◌, Ok, Err, Result}

-- a step, and then another if it was not refused
abbrev pub and_then : {A B E : Type 0} → Result A E → (A → Result B E) → Result B E
and_then (Ok x) f = f x
and_then (Err e) f = Err e

-- a step for each of a list in order, up to the first that is refused
abbrev pub over : {X S E : Type 0} → (X → S → Result S E) → List X → S → Result S E
over step [] s = Ok s
over step (x ∷ xs) s = and_then (step x s) (over step xs)

-- what a call answered, with what that makes in the place of its result
abbrev pub making : {A S E : Type 0} → Result A E → (A → S) → Result S E
making (Ok x) make = Ok (make x)
making (Err e) make = Err e
