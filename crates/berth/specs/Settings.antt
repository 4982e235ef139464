-- The settings in force, and what a line does to them.
use Rattle.std.specs.Prelude.{ℕ, List, [], ◌∷◌, ◌++◌, Some, None, Ok, Err, vec_items, Option}
use Rattle.script.specs.Lines.{Order, base, directory, resolve}
use Rattle.address.specs.Resolve.{outcome_of}
use Rattle.script.specs.Script.{Said, Outcome as Script}
use Rattle.berth.specs.Answers.{answer_line}
use Rattle.berth.specs.declared.session.Session.{Session}

-- the base and the directory of the addresses to come
pub record Settings : Type 0 where
  pub base : List ℕ
  pub directory : List ℕ

abbrev pub settings_of : Session → Settings
settings_of s = record { base = vec_items s.base; directory = vec_items s.directory }

-- a setting holds from its line on, and a call changes none
abbrev pub settled_by : Order → Settings → Settings
settled_by (base b) s = record { base = b; directory = s.directory }
settled_by (directory d) s = record { base = s.base; directory = d }
settled_by (resolve n a) s = s

-- a call is answered by one line, and a setting by none
abbrev pub answer_to : Order → Settings → List ℕ
answer_to (base b) s = []
answer_to (directory d) s = []
answer_to (resolve n a) s = answer_line (outcome_of a s.base s.directory) n

-- the answers to what a script says, in order
abbrev pub answers_to : Settings → List Said → List ℕ
answers_to s [] = []
answers_to s (said ∷ more) = answer_to said.order s ++ answers_to (settled_by said.order s) more

-- at first both settings are empty
abbrev pub unset : Settings
unset = record { base = []; directory = [] }

-- what a script is answered by, unless a line of it is wrong
abbrev pub answers_of : Script → Option (List ℕ)
answers_of (Ok said) = Some (answers_to unset said)
answers_of (Err wrong) = None
