-- What a whole script asks for.
use Rattle.std.specs.Prelude.{◌≡◌, ℕ, ◌+◌, List, [], ◌∷◌, ◌++◌, Ok, Err, vec_items, Result}
use Rattle.script.specs.declared.command.Step.{Step}
use Rattle.script.specs.declared.fault.Expected.{Expected}
use Rattle.script.specs.declared.fault.Refusal.{Refusal}
use Rattle.script.specs.declared.fault.ScriptError.{ScriptError}
use Rattle.script.specs.declared.fault.ScriptError.TheVariants.{Memory, Line}
use Rattle.script.specs.Lines.{Order, Meaning, skipped, asks, refused, order_of, line_of}
use Rattle.script.specs.Words.{lines_of}

-- what the line of a number asks for
pub record Said : Type 0 where
  pub number : ℕ
  pub order : Order

-- what is wrong with the line of a number: what was read, and what was expected there
pub record Wrong : Type 0 where
  pub number : ℕ
  pub read : List ℕ
  pub expected : Expected

-- what a script asks for, or the first line that is wrong
abbrev pub Outcome : Type 0
Outcome = Result (List Said) Wrong

-- what the line of a number asks for: nothing, one thing, or it is wrong
abbrev pub told : ℕ → Meaning → Outcome
told n skipped = Ok []
told n (asks o) = Ok (record { number = n; order = o } ∷ [])
told n (refused w e) = Err (record { number = n; read = w; expected = e })

-- one outcome and then another, unless the first is wrong
abbrev pub and_then : Outcome → Outcome → Outcome
and_then (Err e) o = Err e
and_then (Ok xs) (Err e) = Err e
and_then (Ok xs) (Ok ys) = Ok (xs ++ ys)

-- the lines from the number n on
abbrev pub lines_from : ℕ → List (List ℕ) → Outcome
lines_from n [] = Ok []
lines_from n (l ∷ ls) = and_then (told n (line_of l)) (lines_from (n + 1) ls)

-- what a script asks for: its lines are counted from 1
abbrev pub script_of : List ℕ → Outcome
script_of text = lines_from 1 (lines_of text)

-- the code's step as such
abbrev pub said_by : Step → Said
said_by s = record { number = s.number; order = order_of s.command }

-- the code's refusal as such
abbrev pub wrong_by : Refusal → Wrong
wrong_by r = record { number = r.number; read = vec_items r.read; expected = r.expected }

-- an error says what is wrong, but for want of memory, which says nothing of the script
abbrev pub Explains : ScriptError → Outcome → Type 0
Explains Memory o = Unit {0}
Explains (Line r) o = o ≡ Err (wrong_by r)
