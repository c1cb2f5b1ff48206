use Rattle.std.proofs.lemmas.Result.{on_ok_weaker}
use Rattle.handlebars_html.specs.HtmlView.{html_of}
use Rattle.handlebars_html.proofs.TextEnds.{text-found}
use Rattle.handlebars_html.proofs.texts.check_text.Goals as goal

pub returns : goal.returns
returns c =
    on_ok_weaker c.check_refused.result (λ refused is. text-found c.args.location c.args.text.now (html_of c.args.state.now)
    (html_of c.args.end.now) c.args.found.now c.check_blank.new.found c.check_refused.new.found is
    c.in_ok-check_blank.ensures refused) c.check_refused.ensures
