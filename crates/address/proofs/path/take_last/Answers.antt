use Rattle.std.proofs.Common.{◌≡◌, ℕ, ◌-◌, List, [], ◌∷◌, length, take, ap, ◌∙◌}
use Rattle.std.specs.Cmp.Lexicographic.{same_text, other_text}
use Rattle.address.specs.Buffer.{held, prepended}
use Rattle.address.proofs.Lasts.{page_ends, page_not, last_index, last_page, last_other, last_stay, last_up, last_down}
use Rattle.address.proofs.path.take_last.Goals as goal

pub returns-then-eq-clause-lays : goal.returns-then-eq-clause-lays
returns-then-eq-clause-lays c = λ stack.
    last_index stack c.args.part.now (held c.prepend.new.self) (held c.args.draft.now) (same_text _ _ c.if-eq.ensures) c.prepend.ensures

pub returns-in-Some-clause-lays : goal.returns-in-Some-clause-lays
returns-in-Some-clause-lays c =
    let part : List ℕ = c.args.part.now in
    let h = c.in-Some.ensures.cases in
    let n : h.0 ≡ 3 = h.1.0 in
    let e : c.in-Some.page.now ≡ take (length part - 3) part = h.2 ∙ ap (λ k. take (length part - k) part) n in
    let w : held c.prepend-in-Some-3.new.self ≡ prepended (47 ∷ []) (prepended c.in-Some.page.now (prepended (47 ∷ []) (held c.args.draft.now))) =
    c.prepend-in-Some-3.ensures ∙ ap (prepended (47 ∷ [])) (c.prepend-in-Some-2.ensures ∙ ap (prepended c.in-Some.page.now) c.prepend-in-Some.ensures) in
    λ stack. last_page stack part c.in-Some.page.now (held c.prepend-in-Some-3.new.self) (held c.args.draft.now) (other_text _ _ c.if-eq.ensures) (page_ends part (take (length part - h.0) part) h.1.1) e w

pub returns-in-Stay-clause-lays : goal.returns-in-Stay-clause-lays
returns-in-Stay-clause-lays c =
    let part : List ℕ = c.args.part.now in
    λ stack. last_other 0 stack part (held c.prepend-in-Stay.new.self) (held c.args.draft.now) (other_text _ _ c.if-eq.ensures) (page_not part c.in_default.ensures.cases) (rw (← c.in-Stay.ensures) (last_stay stack part (held c.prepend-in-Stay.new.self) (held c.args.draft.now) c.prepend-in-Stay.ensures))

pub returns-in-Up-clause-lays : goal.returns-in-Up-clause-lays
returns-in-Up-clause-lays c =
    let part : List ℕ = c.args.part.now in
    λ stack. last_other 1 stack part (held c.prepend-in-Up.new.self) (held c.args.draft.now) (other_text _ _ c.if-eq.ensures) (page_not part c.in_default.ensures.cases) (rw (← c.in-Up.ensures) (last_up stack part (held c.prepend-in-Up.new.self) (held c.args.draft.now) c.prepend-in-Up.ensures))

pub returns-in-Down-clause-lays : goal.returns-in-Down-clause-lays
returns-in-Down-clause-lays c =
    let part : List ℕ = c.args.part.now in
    let w : held c.prepend-in-Down-2.new.self ≡ prepended (47 ∷ []) (prepended part (held c.args.draft.now)) =
    c.prepend-in-Down-2.ensures ∙ ap (prepended (47 ∷ [])) c.prepend-in-Down.ensures in
    λ stack. last_other 0 stack part (held c.prepend-in-Down-2.new.self) (held c.args.draft.now) (other_text _ _ c.if-eq.ensures) (page_not part c.in_default.ensures.cases) (rw (← c.in-Down.ensures) (last_down stack part (held c.prepend-in-Down-2.new.self) (held c.args.draft.now) w))
