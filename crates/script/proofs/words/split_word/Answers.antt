use Rattle.std.proofs.Common.{◌+◌, ◌≡◌, true, false, not, cond, nat_eq, take, drop, rules, tests, refl, sym, ap, ◌∙◌, arith}
use Rattle.std.proofs.lemmas.Iterator.{YieldsList-from_slice, IsFirst-from_position, index_from_first}
use Rattle.script.specs.Words.{before}
use Rattle.script.proofs.words.split_word.Goals as goal

pub returns : goal.returns
returns c =
    let first = IsFirst-from_position _ _ c.position-end.result (λ b. true ≡ nat_eq b 32) (λ b. false ≡ nat_eq b 32) c.position-end.ensures.ran (YieldsList-from_slice c.args.bytes.now (cc)) (λ x q k. search (rules, tests)) (λ x q k. search (rules, tests)) in
    let end = index_from_first (before 32) (λ b. true ≡ nat_eq b 32) (λ b. false ≡ nat_eq b 32) refl
    (λ b bs e. ap (λ t. cond (not t) (1 + before 32 bs) 0) (sym e)) (λ b bs e. let more : 1 + before 32 bs ≡ before 32 bs + 1 = omega arith in ap (λ t. cond (not t) (1 + before 32 bs) 0) (sym e) ∙ more)
    c.args.bytes.now c.position-end.result first in
    let cut = c.unwrap_or.ensures ∙ sym end in
    record {
      word = c.split_at.ensures.front ∙ ap (λ n. take n c.args.bytes.now) cut;
      rest = c.split_at.ensures.back ∙ ap (λ n. drop n c.args.bytes.now) cut;
    }
