use Rattle.std.proofs.Common.{◌≡◌, true, cond, [], ◌++◌, length, is_ok, ap, ◌∙◌, arith, length-append}
use Rattle.std.proofs.lemmas.Bool.{le-leb, cond-true}
use Rattle.paint.specs.Linking.{link_bytes}
use Rattle.paint.proofs.Ends.{reset_length, filled}
use Rattle.paint.proofs.closing.close.Goals as goal

pub returns : goal.returns
returns c =
    let a : is_ok c.extend_from_slice.result ≡ true = c.extend_from_slice.ensures.answer ∙ le-leb _ _ (omega (arith, ap length c.clear.ensures)) in
    let one = c.extend_from_slice.ensures.after ∙ cond-true _ _ _ a ∙ ap (λ xs. xs ++ c.args.row.now) c.clear.ensures in
    let b : is_ok c.extend_from_slice-2.result ≡ true = c.extend_from_slice-2.ensures.answer ∙ le-leb _ _ (omega (arith, ap length one)) in
    let two = c.extend_from_slice-2.ensures.after ∙ cond-true _ _ _ b in
    let d : is_ok c.extend_from_slice-3.result ≡ true =
    c.extend_from_slice-3.ensures.answer
    ∙ le-leb _ _ (omega (arith, ap length one, ap length two, length-append c.extend_from_slice.new.self c.only_if.result.now, ap length c.reset.ensures, reset_length)) in
    filled c.clear.new.self c.args.row.now c.only_if.result.now c.only_if-2.result.now c.extend_from_slice.new.self c.extend_from_slice-2.new.self c.extend_from_slice-3.new.self _ _ _ c.clear.ensures
    c.extend_from_slice.ensures.after a c.extend_from_slice-2.ensures.after b c.extend_from_slice-3.ensures.after d
    ∙ ap (λ xs. c.args.row.now ++ (xs ++ c.only_if-2.result.now)) c.only_if.ensures.value
    ∙ ap (λ xs. c.args.row.now ++ (cond c.args.linked (link_bytes []) [] ++ xs)) (c.only_if-2.ensures.value ∙ ap (λ xs. cond c.args.styled xs []) c.reset.ensures)
