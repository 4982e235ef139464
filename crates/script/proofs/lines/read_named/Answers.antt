use Rattle.std.proofs.Common.{arith, rules, ap, sym, ◌∙◌, subst}
use Rattle.std.proofs.lemmas.Result.{err_from_is_err_and}
use Rattle.script.specs.Lines.{base, directory, with_strings, with_room, Refuses}
use Rattle.script.specs.Number.{number_of}
use Rattle.script.specs.Words.{first_word}
use Rattle.script.proofs.Named.{named_base, named_directory, named_resolve, strings_missed}
use Rattle.script.proofs.lines.read_named.Goals as goal

pub returns-in_ok-read_strings-in-base : goal.returns-in_ok-read_strings-in-base
returns-in_ok-read_strings-in-base c =
    named_base c.args.word.now c.args.rest.now (omega (arith, c.in-base.len_at_least, c.in-base.len_below)) (search rules) ∙ ap (with_strings base c.args.rest.now) c.in_ok-read_strings-in-base.ensures.strings

pub returns-in_ok-read_strings-in-directory : goal.returns-in_ok-read_strings-in-directory
returns-in_ok-read_strings-in-directory c =
    named_directory c.args.word.now c.args.rest.now (omega (arith, c.in-directory.len_at_least, c.in-directory.len_below)) (search rules) ∙ ap (with_strings directory c.args.rest.now) c.in_ok-read_strings-in-directory.ensures.strings

pub returns-in_err-read_strings-in-directory : goal.returns-in_err-read_strings-in-directory
returns-in_err-read_strings-in-directory c =
    let name = named_directory c.args.word.now c.args.rest.now (omega (arith, c.in-directory.len_at_least, c.in-directory.len_below)) (search rules) in
    let missed = strings_missed c.in_err-read_strings-in-directory.field-0.0 directory c.args.rest.now c.in_err-read_strings-in-directory.ensures.refused in
    rw name (search rules)

pub returns-in_ok-read_resolve-in-resolve : goal.returns-in_ok-read_resolve-in-resolve
returns-in_ok-read_resolve-in-resolve c =
    named_resolve c.args.word.now c.args.rest.now (omega (arith, c.in-resolve.len_at_least, c.in-resolve.len_below)) (search rules)
    ∙ ap (λ bs. with_room bs (number_of (first_word bs))) (sym c.trim_start.ensures)
    ∙ c.in_ok-read_resolve-in-resolve.ensures

pub returns-in_err-read_resolve-in-resolve : goal.returns-in_err-read_resolve-in-resolve
returns-in_err-read_resolve-in-resolve c =
    let name = named_resolve c.args.word.now c.args.rest.now (omega (arith, c.in-resolve.len_at_least, c.in-resolve.len_below)) (search rules) ∙ ap (λ bs. with_room bs (number_of (first_word bs))) (sym c.trim_start.ensures) in
    let p = err_from_is_err_and c.from_residual-in_err-read_resolve-in-resolve.result c.from_residual-in_err-read_resolve-in-resolve.ensures.1 in
    rw (p.1, p.2) (subst (λ m. Refuses c.in_err-read_resolve-in-resolve.field-0.0 m) (sym name) c.in_err-read_resolve-in-resolve.ensures)
