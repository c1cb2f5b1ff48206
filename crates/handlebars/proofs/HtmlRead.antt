-- What the check says of the templates of two maps, one overlaid on the other, and of what was read.
use Rattle.std.proofs.Common.{◌≡◌, cond, is_some, List, [], ◌∷◌, ◌++◌, map, Option, None, Result, String, Global, refl, sym, ap, ◌∙◌, subst}
use Rattle.std.proofs.Math.Logic.{⊎_elim}
use Rattle.std.proofs.lemmas.List.Elements.{Contains-append_left, Contains-append_right, Contains-append_cases}
use Rattle.std.specs.BTreeMap.{BTreeMap}
use Rattle.std.specs.List.{Contains}
use Rattle.std.specs.Option.{option_or}
use Rattle.std.specs.declared.io.Error.{Error}
use Rattle.handlebars_base.specs.Bytes.{Text}
use Rattle.handlebars_base.specs.Optional.{with_or}
use Rattle.handlebars_lexer.specs.Options.{Options}
use Rattle.handlebars_template.specs.Tree.{Tree}
use Rattle.handlebars_template.specs.declared.template.tree.Template.{Template}
use Rattle.handlebars_helpers.specs.UserAnswers.{UserAnswers, Registrations}
use Rattle.handlebars_html.specs.Registry.{UserDefined, Lists}
use Rattle.handlebars_html.specs.RowsView.{fault_of}
use Rattle.handlebars_html.specs.Search.{Pages, all_templates, source, Verdict, some_faults, IsVerdict}
use Rattle.handlebars_html.specs.SearchView.{verdict_of}
use Rattle.handlebars_html.specs.declared.fault.HtmlFault.{HtmlFault}
use Rattle.handlebars_html.specs.declared.search.Verdict as declared
use Rattle.handlebars_html.specs.declared.search.Verdict.TheVariants as verdict
use Rattle.handlebars.specs.Dev.{HasRead, HoldsTrees}
use Rattle.handlebars.specs.Files.{Loaded, overlaid_on, tree_among, tree_in}
use Rattle.handlebars.specs.Html.{AreInOrder, JudgesHtml, OfSource, SaysHtml, first_unsafe, safety_by, templates_under}
use Rattle.handlebars.specs.Markup.{AreInByteOrder, key_names, uncovered, unread}
use Rattle.handlebars.specs.Over.{parts_over}
use Rattle.handlebars.specs.View.{stored_tree}
use Rattle.handlebars.specs.declared.registry.RegistryOf.{RegistryOf}
use Rattle.handlebars.specs.declared.registry.html.HtmlSafety.{HtmlSafety}
use Rattle.handlebars.proofs.HtmlTemplates.{under-all, under-only}
use Rattle.handlebars.proofs.MarkupFaults.{named-both}
use Rattle.handlebars.proofs.MarkupOrder.{names-of, names-same, names-unread}

-- ---- the same trees under names

module _ (above others below : Text → Option Tree) (same : (n : Text) → above n ≡ others n) where
  pub over-same : (n : Text) → overlaid_on above below n ≡ overlaid_on others below n
  over-same n = ap (λ (o : Option Tree). option_or o (below n)) (same n)

  under-same : (ns : List Text) → templates_under (overlaid_on above below) ns ≡ templates_under (overlaid_on others below) ns
  under-same [] = refl
  under-same (n ∷ ns) =
      ap (λ (o : Option Tree). with_or o (λ t. (n, t) ∷ []) [] ++ templates_under (overlaid_on above below) ns) (over-same n)
      ∙ ap (λ (xs : List (Text × Tree)). with_or (overlaid_on others below n) (λ t. (n, t) ∷ []) [] ++ xs) (under-same ns)

  pub in_order-same : (templates : List (Text × Tree)) → AreInOrder above below templates → AreInOrder others below templates
  in_order-same templates h = record {
    first = h.first;
    rest = h.rest;
    are_above = names-same above others h.first same h.are_above;
    are_below = names-same (uncovered above below) (uncovered others below) h.rest
        (λ n. ap (λ (o : Option Tree). cond (is_some o) None (below n)) (same n)) h.are_below;
    listed = h.listed
        ∙ ap (λ (xs : List (Text × Tree)). xs ++ templates_under (overlaid_on above below) h.rest) (under-same h.first)
        ∙ ap (λ (xs : List (Text × Tree)). templates_under (overlaid_on others below) h.first ++ xs) (under-same h.rest);
  }

module _ {E : Type 0} (registered : E → Registrations) (user : E → UserAnswers) (r : RegistryOf E) (pages : Pages) (v : Verdict) where
  says-same : (above others : Text → Option Tree) → ((n : Text) → above n ≡ others n) → SaysHtml registered user above r pages v
      → SaysHtml registered user others r pages v
  says-same above others same h = record {
    says = record {
      user = h.says.user;
      lists = h.says.lists;
      templates = h.says.templates;
      all = λ n t is. h.says.all n t (over-same above others (stored_tree r) same n ∙ is);
      registered = λ n t has. sym (over-same above others (stored_tree r) same n) ∙ h.says.registered n t has;
      verdict = h.says.verdict;
    };
    order = in_order-same above others (stored_tree r) same h.says.templates h.order;
  }

  -- What is said of a map of trees is said of what was read into it.
  pub says-read : (read : List Loaded) (trees : BTreeMap (String Global) Template) → HoldsTrees read trees
      → SaysHtml registered user (tree_in trees) r pages v → SaysHtml registered user (tree_among read) r pages v
  says-read read trees holds said = says-same (tree_in trees) (tree_among read) holds said

  -- ---- the templates of two maps

  pub says-maps : (u : UserDefined) (read : BTreeMap (String Global) Template) (templates : List (Text × Tree))
      → Lists (parts_over registered user (tree_in read) r) u → AreInByteOrder (key_names read.entries)
      → AreInByteOrder (key_names r.templates.entries)
      → templates ≡ templates_under (overlaid_on (tree_in read) (stored_tree r)) (key_names read.entries)
      ++ templates_under (overlaid_on (tree_in read) (stored_tree r)) (unread (tree_in read) (key_names r.templates.entries))
      → IsVerdict u templates pages v → SaysHtml registered user (tree_in read) r pages v
  says-maps u read templates lists first second listed is =
      let template = overlaid_on (tree_in read) (stored_tree r) in
      let ns = key_names read.entries in
      let ms = unread (tree_in read) (key_names r.templates.entries) in
      record {
        says = record {
          user = u;
          lists = lists;
          templates = templates;
          all = λ n t there. subst (λ (xs : List (Text × Tree)). Contains xs (n, t)) (sym listed)
              (⊎_elim
              (λ c. Contains-append_left (templates_under template ns) (templates_under template ms) (n, t) (under-all template ns n t there c))
              (λ c. Contains-append_right (templates_under template ns) (templates_under template ms) (n, t) (under-all template ms n t there c))
              (named-both read.entries r.templates.entries n t there));
          registered = λ n t has. ⊎_elim (under-only template ns n t) (under-only template ms n t)
              (Contains-append_cases (templates_under template ns) (templates_under template ms) (n, t)
              (subst (λ (xs : List (Text × Tree)). Contains xs (n, t)) listed has));
          verdict = is;
        };
        order = record {
          first = ns;
          rest = ms;
          are_above = names-of read first;
          are_below = names-unread (tree_in read) r.templates second;
          listed = listed;
        };
      }

-- ---- what is said first

module _ {E : Type 0} (registered : E → Registrations) (user : E → UserAnswers) (r : RegistryOf E) where
  first-judges : (trees : Text → Option Tree) (pages : Pages) (v : declared.Verdict)
      → SaysHtml registered user trees r pages (verdict_of v) → JudgesHtml registered user trees r pages (safety_by v)
  first-judges trees pages verdict.NoFaults said = said
  first-judges trees pages (verdict.Faults fs) said = by fs.items said
    where
      by : (xs : List HtmlFault) → SaysHtml registered user trees r pages (some_faults (map fault_of xs))
          → JudgesHtml registered user trees r pages (first_unsafe xs)
      by [] said = record {
        says = record {
          user = said.says.user;
          lists = said.says.lists;
          templates = said.says.templates;
          all = said.says.all;
          registered = said.says.registered;
          verdict = tt;
        };
        order = said.order;
      }
      by (f ∷ fs) said = (map fault_of fs, said)
  first-judges trees pages verdict.Undecided said = said

  -- by name
  pub judged : {S : Type 0} (reads : S → Text → Result (String Global) Error → S → Type 0) (asked : Option Text) (before after : S)
      (v : declared.Verdict) (s : HtmlSafety) → s ≡ safety_by v
      → HasRead reads r asked before after (λ read. SaysHtml registered user (tree_among read) r all_templates (verdict_of v))
      → HasRead reads r asked before after (λ read. JudgesHtml registered user (tree_among read) r all_templates s)
  judged reads asked before after v s is said = record {
    read = said.read;
    reads_all = said.reads_all;
    holds = subst (λ (x : HtmlSafety). JudgesHtml registered user (tree_among said.read) r all_templates x) (sym is)
        (first-judges (tree_among said.read) all_templates v said.holds);
  }

  -- of a source
  pub source-judged : {S : Type 0} (reads : S → Text → Result (String Global) Error → S → Type 0) (asked : Option Text)
      (before after : S) (options : Options) (text : Text) (v : declared.Verdict) (s : HtmlSafety) → s ≡ safety_by v
      → HasRead reads r asked before after (λ read. OfSource options text (λ t.
      SaysHtml registered user (tree_among read) r (source t) (verdict_of v)))
      → HasRead reads r asked before after (λ read. OfSource options text (λ t.
      JudgesHtml registered user (tree_among read) r (source t) s))
  source-judged reads asked before after options text v s is said = record {
    read = said.read;
    reads_all = said.reads_all;
    holds = (
      said.holds.0,
      said.holds.1,
      subst (λ (x : HtmlSafety). JudgesHtml registered user (tree_among said.read) r (source said.holds.0) x) (sym is)
          (first-judges (tree_among said.read) (source said.holds.0) v said.holds.2),
    );
  }
