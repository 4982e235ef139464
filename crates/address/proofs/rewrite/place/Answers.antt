use Rattle.std.proofs.Common.{ℕ, List, [], ◌++◌, Ok, ap, ◌∙◌}
use Rattle.std.specs.Option.{option_map}
use Rattle.address.specs.Buffer.{held, prepended}
use Rattle.address.specs.Laying.{laid}
use Rattle.address.specs.Reference.{path_of, query_of, anchor_of}
use Rattle.address.specs.Resolved.{segments_of}
use Rattle.address.specs.Segments.{parts_of, last_of, end_of}
use Rattle.address.proofs.Bounds.{laid_text, laid_ok}
use Rattle.address.proofs.rewrite.place.Goals as goal

pub returns-in_ok-lay-in-Absolute : goal.returns-in_ok-lay-in-Absolute
returns-in_ok-lay-in-Absolute c =
    let url : List ℕ = c.args.url.now in
    let base : List ℕ = c.args.base.now in
    let end : List ℕ = end_of (last_of (parts_of (path_of url))) in
    rw (← c.in-Absolute.ensures) (laid_ok base (end ++ (query_of url ++ anchor_of url)) (segments_of [] (path_of url)) (held c.lay.new.draft)
    (laid_text base end (query_of url) (anchor_of url) (segments_of [] (path_of url)) (Ok tt) (held c.lay.new.draft)
    (c.in_ok-lay-in-Absolute.ensures.lays ∙ ap (λ w. option_map (prepended base) (laid 0 (segments_of [] (path_of url)) (prepended end (prepended (query_of url) (prepended (anchor_of url) w))))) c.new-draft.ensures)))

pub returns-in_ok-lay-in-Relative : goal.returns-in_ok-lay-in-Relative
returns-in_ok-lay-in-Relative c =
    let url : List ℕ = c.args.url.now in
    let base : List ℕ = c.args.base.now in
    let site : List ℕ = c.args.site_dir.now in
    let end : List ℕ = end_of (last_of (parts_of (path_of url))) in
    rw (← c.in-Relative.ensures) (laid_ok base (end ++ (query_of url ++ anchor_of url)) (segments_of site (path_of url)) (held c.lay-in-Relative.new.draft)
    (laid_text base end (query_of url) (anchor_of url) (segments_of site (path_of url)) (Ok tt) (held c.lay-in-Relative.new.draft)
    (c.in_ok-lay-in-Relative.ensures.lays ∙ ap (λ w. option_map (prepended base) (laid 0 (segments_of site (path_of url)) (prepended end (prepended (query_of url) (prepended (anchor_of url) w))))) c.new-draft.ensures)))
