-- What a stack holds.
use Rattle.std.specs.Prelude.{◌-◌, cond, List, [], ◌∷◌, ◌++◌, length, take, nat_lt}
use Rattle.stack.specs.declared.stack.Stack.{Stack}

-- the values, in the order in which they were put on
abbrev pub held : {T : Type 0} → Stack T → List T
held s = take s.depth s.items

-- one value more, unless there are 33
abbrev pub pushed : {T : Type 0} → List T → T → List T
pushed items item = cond (nat_lt (length items) 33) (items ++ item ∷ []) items

-- without the last
abbrev pub popped : {T : Type 0} → List T → List T
popped items = take (length items - 1) items
