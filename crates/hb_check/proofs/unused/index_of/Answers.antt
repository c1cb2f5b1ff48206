use Rattle.std.proofs.Common.{◌+◌, ◌∷◌, ℕ, Bool, Option, Some, List, drop, map, ap, cond, sym, ◌∙◌}
use Rattle.std.proofs.lemmas.List.{drop-map}
use Rattle.handlebars_includes.specs.Graph.{index_among}
use Rattle.handlebars_includes.specs.View.{name_of}
use Rattle.hb_check.proofs.Reports.{drop_more}
use Rattle.hb_check.proofs.unused.index_of.Goals as goal

pub templates-preserved : goal.templates-preserved
templates-preserved c =
    let ts = c.args.templates.now in
    let at = c.templates.index in
    let item = c.index-templates-index.result in
    let n = c.args.name.now in
    ap (λ (o : Option ℕ). index_among (at + 1) (drop (at + 1) (map name_of ts)) n o)
    (c.last_of-found.ensures ∙ ap (λ (b : Bool). cond b (Some at) c.templates.found) c.eq.ensures)
    ∙ ap (λ (xs : List (List ℕ)). index_among at xs n c.templates.found)
    (sym (drop-map name_of at ts ∙ ap (map name_of) (drop_more ts at item c.templates-test.true c.index-templates-index.is)
    ∙ ap (λ (xs : List (List ℕ)). name_of item ∷ xs) (sym (drop-map name_of (at + 1) ts))))
    ∙ c.templates.invariant
