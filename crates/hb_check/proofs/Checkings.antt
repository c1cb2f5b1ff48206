-- All checks, one after another.
use Rattle.std.proofs.Common.{◌≡◌, ◌++◌, List, ap, map, refl, ◌∙◌}
use Rattle.handlebars_helpers.specs.UserAnswers.{Registrations, UserAnswers}
use Rattle.handlebars_report.specs.Problem.{Problem}
use Rattle.handlebars_report.specs.declared.problem.Problem as problem
use Rattle.hb_check.specs.Found.{ReportsHtmlFound}
use Rattle.hb_check.specs.Report.{IfAsked, ReportsAll, ReportsHiddenIn, ReportsMarkupOf, ReportsPages}
use Rattle.hb_check.specs.Sources.{templates_in}
use Rattle.hb_check.specs.Reported.{AddsSome}
use Rattle.hb_check.specs.declared.question.Question.{Question}
use Rattle.hb_check.specs.declared.sources.Sources.{Sources}
use Rattle.hb_check.proofs.Reports.{adds-both}

module _ (r : Registrations) (a : UserAnswers) (q : Question) (ss : Sources) where
  abbrev pub Names : List Problem → Type 0
  Names ps = ReportsPages r (templates_in ss) (map (λ n. n.now) q.pages.now) ss ps

  abbrev pub Hidden : List Problem → Type 0
  Hidden ps = ReportsHiddenIn ss (templates_in ss) ps

  abbrev pub Markup : List Problem → Type 0
  Markup ps = IfAsked q.markup (ReportsMarkupOf r ss) ps

  abbrev pub Html : List Problem → Type 0
  Html ps = IfAsked q.html (ReportsHtmlFound r a ss (map (λ n. n.now) q.pages.now)) ps

  abbrev pub Later : List Problem → Type 0
  Later ps = (ms hs : List Problem) × Markup ms × Html hs × (ps ≡ ms ++ hs)

  abbrev pub Last : List Problem → Type 0
  Last ps = (ms hs : List Problem) × Hidden ms × Later hs × (ps ≡ ms ++ hs)

  pub all-reported : (b c d e f : List problem.Problem) → AddsSome Names b c → AddsSome Hidden c d → AddsSome Markup d e → AddsSome Html e f
      → AddsSome (ReportsAll r a q ss) b f
  all-reported b c d e f names hidden markup html =
      adds-both Names Last (ReportsAll r a q ss) b c f all names
      (adds-both Hidden Later Last c d f (λ ps qs h l. (ps, qs, h, l, refl)) hidden
      (adds-both Markup Html Later d e f (λ ps qs m h. (ps, qs, m, h, refl)) markup html))
    where
      all : (ps qs : List Problem) → Names ps → Last qs → ReportsAll r a q ss (ps ++ qs)
      all ps qs reported (hs, ls, hid, (ms, ts, mark, htm, is), are) = record {
        names = ps;
        hidden = hs;
        markup = ms;
        html = ts;
        names_reported = reported;
        hidden_reported = hid;
        markup_reported = mark;
        html_reported = htm;
        all = ap (λ (xs : List Problem). ps ++ xs) (are ∙ ap (λ (xs : List Problem). hs ++ xs) is);
      }
