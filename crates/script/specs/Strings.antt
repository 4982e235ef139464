-- What the text of strings means: bytes, or no string.
use Rattle.std.specs.Prelude.{◌≡◌, ℕ, cond, List, [], ◌∷◌, ◌++◌, length, Some, None, vec_items, Option}
use Rattle.script.specs.declared.moves.Place.{Place}
use Rattle.script.specs.declared.moves.Place.TheVariants.{Gap, Inside, Escape, High, Low, Closed, Star, Count}
use Rattle.script.specs.declared.moves.Act.{Act}
use Rattle.script.specs.declared.moves.Act.TheVariants.{Wait, Add, Join}
use Rattle.script.specs.declared.moves.Move.{Move}
use Rattle.script.specs.declared.strings.Reader.{Reader}
use Rattle.script.specs.declared.strings.ReaderError.{ReaderError}
use Rattle.script.specs.declared.strings.ReaderError.TheVariants.{Memory, NoString}
use Rattle.script.specs.Joins.{repeated, may_join}
use Rattle.script.specs.Moves.{moved}

-- where a reader stands, the strings that it has joined, and the bytes of the one that it reads
pub record Reading : Type 0 where
  pub place : Place
  pub done : List ℕ
  pub piece : List ℕ

abbrev pub reading : Place → List ℕ → List ℕ → Reading
reading p d s = record { place = p; done = d; piece = s }

-- the code's reader as such
abbrev pub meaning : Reader → Reading
meaning r = reading r.place (vec_items r.done) (vec_items r.piece)

-- the string that was read, so many times, joined to those before it
abbrev pub joined_to : Place → ℕ → List ℕ → List ℕ → Option Reading
joined_to p n d s = cond (may_join n (length d) (length s)) (Some (reading p (d ++ repeated n s) [])) None

-- what a reader does on its way to a place
abbrev pub acted : Place → Act → List ℕ → List ℕ → Option Reading
acted p Wait d s = Some (reading p d s)
acted p (Add b) d s = Some (reading p d (s ++ b ∷ []))
acted p (Join n) d s = joined_to p n d s

abbrev pub taken : Option Move → List ℕ → List ℕ → Option Reading
taken None d s = None
taken (Some m) d s = acted m.place m.act d s

-- a reader behind one more byte
abbrev pub stepped : Reading → ℕ → Option Reading
stepped t b = taken (moved t.place b) t.done t.piece

-- a reader behind all these bytes
abbrev pub read_on : Option Reading → List ℕ → Option Reading
read_on None bs = None
read_on (Some t) [] = Some t
read_on (Some t) (b ∷ bs) = read_on (stepped t b) bs

-- what is joined, if no string is half read
abbrev pub joined_at : Place → List ℕ → Option (List ℕ)
joined_at Gap d = Some d
joined_at Inside d = None
joined_at Escape d = None
joined_at High d = None
joined_at (Low h) d = None
joined_at Closed d = None
joined_at Star d = None
joined_at (Count n) d = None

abbrev pub settled : Option Reading → Option (List ℕ)
settled None = None
settled (Some t) = joined_at t.place t.done

-- the strings of a line, joined: the line is read with a space behind it, which ends its last string
abbrev pub string_of : List ℕ → Option (List ℕ)
string_of bs = settled (read_on (Some (reading Gap [] [])) (bs ++ 32 ∷ []))

-- a reader stops where there is nothing to be read, but for want of memory, which says nothing of the text
abbrev pub Stops : {A : Type 0} → ReaderError → Option A → Type 0
Stops (Memory e) o = Unit {0}
Stops NoString o = o ≡ None
