use Rattle.std.proofs.Common.{map, string_bytes, sym, ◌∙◌}
use Rattle.handlebars_html.specs.SearchView.{helper_of}
use Rattle.handlebars_html.proofs.Listed.{contains_text-one_of, helpers-go, helpers-end, texts-left, texts-none}
use Rattle.handlebars_html.proofs.others.listed_helpers.Goals as goal

pub names-preserved : goal.names-preserved
names-preserved g c =
    helpers-go (g.E.UserParts.registered c.args.entries.now).helper (g.E.UserParts.user c.args.entries.now).helper
    (map helper_of c.names.others.items) (map helper_of c.push_other_helper.new.others.items) (string_bytes c.in-Some.name.now)
    (map string_bytes c.next.new.self) (map string_bytes c.args.names.now.keys) c.in_ok-push_other_helper.ensures
    (rw (texts-left c.names.name-iterator c.next.new.self c.in-Some.name.now c.in-Some.ensures.steps) at c.names.invariant)

pub returns : goal.returns
returns g c = λ all.
    helpers-end (g.E.UserParts.registered c.args.entries.now).helper (g.E.UserParts.user c.args.entries.now).helper
    (map helper_of c.names.others.items) (map string_bytes c.names.name-iterator) (map string_bytes c.args.names.now.keys)
    (texts-none c.names.name-iterator c.in-None.ensures.steps.0) c.names.invariant
    (λ n. sym (contains_text-one_of c.args.names.now n) ∙ all n)
