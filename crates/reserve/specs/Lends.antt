-- What a list ends as, where a `&mut` to its last value is handed out.
use Rattle.std.specs.Prelude.{◌-◌, List, length, Option, slice_set}
use Rattle.std.specs.Borrow.{LendsIf, Fml, RattleType, MutBor}
use Rattle.reserve.specs.contracts.reserved.Reserved.{the_row}

module _ (T MOST : RattleType) (list : MutBor (List T.Denot)) where
  -- once the borrow ends, the last value is the one written through it; with no value the list stays as it is
  abbrev pub lends_last : Option (MutBor T.Denot) → Fml
  lends_last last =
      LendsIf (the_row T MOST) T list last (slice_set list.now (length list.now - 1)) list.now
