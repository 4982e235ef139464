use Rattle.std.proofs.Common.{◌≡◌, ℕ, List, sym, subst}
use Rattle.address.specs.Answers.{answer_of}
use Rattle.address.specs.Laws.{SchemeStays, BeginsWithBase, SameAgain, DetourVanishes, TailFollows}
use Rattle.address.specs.Resolved.{Outcome, resolved, rewritten}
use Rattle.address.proofs.Again.{scheme_stays_lem, begins_with_base_lem, same_again_lem}
use Rattle.address.proofs.Detours.{detour_vanishes_lem}
use Rattle.address.proofs.Tails.{tail_follows_lem}
use Rattle.address.proofs.rewrite.rewrite_url.Goals as goal

pub returns : goal.returns
returns c =
    let url : List ℕ = c.args.url.now in
    let base : List ℕ = c.args.base.now in
    let site : List ℕ = c.args.site_dir.now in
    let e : rewritten url base site ≡ answer_of c.limit.result = sym (c.limit.ensures (resolved url base site) c.place.ensures) in
    record {
      answer = sym e;
      scheme_stays = subst (λ (o : Outcome). SchemeStays url base o) e (scheme_stays_lem url base site);
      begins_with_base = subst (λ (o : Outcome). BeginsWithBase url base o) e (begins_with_base_lem url base site);
      same_again = subst (λ (o : Outcome). SameAgain base o) e (same_again_lem url base site);
      detour_vanishes = subst (λ (o : Outcome). DetourVanishes url base site o) e (detour_vanishes_lem url base site);
      tail_follows = subst (λ (o : Outcome). TailFollows url base site o) e (tail_follows_lem url base site);
    }
