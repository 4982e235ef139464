use Rattle.std.proofs.Common.{refl}
use Rattle.address.proofs.Splitting.{last_split}
use Rattle.address.proofs.path.split_last.Goals as goal

pub returns : goal.returns
returns c =
    let s = last_split c.args.path.now c.rsplit_once.result _ c.unwrap_or.result c.rsplit_once.ensures.cases refl refl c.unwrap_or.ensures in
    record { leading = s.0; last = s.1; bound = s.2 }
