use Rattle.std.proofs.Common.{not, rules}
use Rattle.std.proofs.lemmas.Fn.{always_returns_same}
use Rattle.chars.specs.Controls.{allowed, breaks_in}
use Rattle.chars.proofs.FirstPlace.{none_from_clean, some_from_first_bad}
use Rattle.chars.proofs.TextCheck.{bad_within, bad_behind, clean_whole, whole_text}
use Rattle.chars.proofs.check.check_text.Goals as goal

pub returns-in-Some : goal.returns-in-Some
returns-in-Some c =
    let h = c.in-Some.ensures.cases in
    let f = h.1 (λ d. not (allowed (breaks_in c.args.breaks) d)) (always_returns_same _ _ _ (λ a r f' k. search rules)) in
    let w = bad_within (breaks_in c.args.breaks) c.args.part.now c.front_text-text.result.now c.in-Some.place h.0 c.front_text-text.utf8 f.0 f.1 h.3 c.front_text-text.ensures.front in
    record { answer = some_from_first_bad _ _ _ w; first = w }

pub returns-in-None : goal.returns-in-None
returns-in-None c =
    let n = c.in-None.ensures.cases (λ d. not (allowed (breaks_in c.args.breaks) d)) (always_returns_same _ _ _ (λ a r f' k. search rules)) in
    let f = c.front_text-text.ensures in
    let w = bad_behind (breaks_in c.args.breaks) c.args.part.now c.front_text-text.result.now c.front_text-text.utf8 n (f.front, f.longest) c.if-text-part.true in
    record { answer = some_from_first_bad _ _ _ w; first = w }

pub returns-in-None-2 : goal.returns-in-None-2
returns-in-None-2 c =
    let n = c.in-None.ensures.cases (λ d. not (allowed (breaks_in c.args.breaks) d)) (always_returns_same _ _ _ (λ a r f' k. search rules)) in
    let e = whole_text c.args.part.now c.front_text-text.result.now c.front_text-text.ensures.front c.if-text-part.false in
    let w = clean_whole (breaks_in c.args.breaks) c.args.part.now c.front_text-text.result.now c.front_text-text.utf8 n e in
    record { answer = (none_from_clean _ _ w, e); first = w }
