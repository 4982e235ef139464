-- A string many times, and how long that may be.
use Rattle.std.specs.Prelude.{ℕ, zero, suc, ◌+◌, ◌*◌, Bool, ◌||◌, List, [], ◌++◌, nat_le}

-- the bytes so many times, one after another
abbrev pub repeated : ℕ → List ℕ → List ℕ
repeated zero bs = []
repeated (suc n) bs = bs ++ repeated n bs

-- a piece may be joined once, or so often that all that is done stays within 16 MiB; both lengths are counted in bytes
abbrev pub may_join : ℕ → ℕ → ℕ → Bool
may_join times done piece = nat_le times 1 || nat_le (done + piece * times) 16777216
