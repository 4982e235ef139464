-- Open lists, and the numbers of their items.
use Rattle.std.specs.Prelude.{◌+◌, ◌-◌, ◌^◌, min, List, length, Some, None, Option, slice_set}
use Rattle.std.specs.Option.{option_map}
use Rattle.std.specs.List.{slice_get}
use Rattle.events.specs.declared.frame.ListFrame.{ListFrame}

-- the list that was opened last
abbrev pub top_frame : List ListFrame → Option ListFrame
top_frame fs = slice_get fs (length fs - 1)

-- a list after one more item: its number is one higher, and stays where no 64 bits hold a higher one
abbrev pub counted : ListFrame → ListFrame
counted f = record { ordinal = option_map (λ n. min (n + 1) (2 ^ 64 - 1)) f.ordinal }

-- the lists with this one, counted up, as the innermost
abbrev pub raised_from : List ListFrame → Option ListFrame → List ListFrame
raised_from fs None = fs
raised_from fs (Some f) = slice_set fs (length fs - 1) (counted f)

-- the lists after one more item in the innermost, if there is one
abbrev pub raised : List ListFrame → List ListFrame
raised fs = raised_from fs (top_frame fs)
