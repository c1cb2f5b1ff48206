-- What the check of names says by the templates of two maps, one overlaid on the other, and by what was read.
use Rattle.std.proofs.Common.{◌≡◌, ◌||◌, Bool, true, false, List, [], ◌∷◌, ◌++◌, map, Option, Some, String, Global, refl, sym, ◌∙◌, subst}
use Rattle.std.proofs.Math.Logic.{⊎_elim}
use Rattle.std.proofs.lemmas.List.Elements.{Contains-append_left, Contains-append_right, Contains-append_cases}
use Rattle.std.specs.BTreeMap.{BTreeMap}
use Rattle.std.specs.List.{Contains}
use Rattle.std.specs.Str.{bytes_eq}
use Rattle.std.proofs.lemmas.Slice.Eq.{bytes_eq-Decides}
use Rattle.handlebars_base.specs.Bytes.{Text}
use Rattle.handlebars_template.specs.Tree.{Tree}
use Rattle.handlebars_template.specs.declared.template.tree.Template.{Template}
use Rattle.handlebars_helpers.specs.UserAnswers.{UserAnswers, Registrations}
use Rattle.handlebars_html.specs.Ascii.{is_one_of}
use Rattle.handlebars_html.specs.SearchView.{template_of}
use Rattle.handlebars_html.specs.declared.search.NamedTemplate.{NamedTemplate}
use Rattle.handlebars_laws.proofs.Lists.{Contains-prefix}
use Rattle.handlebars_names.specs.NamesView.{name_of_template, names_in}
use Rattle.handlebars_names.specs.Search.{Page, Verdict, IsVerdict}
use Rattle.handlebars.specs.Dev.{HoldsTrees}
use Rattle.handlebars.specs.Files.{Loaded, overlaid_on, tree_among, tree_in}
use Rattle.handlebars.specs.Html.{templates_under}
use Rattle.handlebars.specs.KnownNames.{SaysNames}
use Rattle.handlebars.specs.Markup.{AreInByteOrder, key_names, unread}
use Rattle.handlebars.specs.View.{stored_tree}
use Rattle.handlebars.specs.declared.registry.RegistryOf.{RegistryOf}
use Rattle.handlebars.proofs.HtmlRead.{over-same, in_order-same}
use Rattle.handlebars.proofs.HtmlTemplates.{under-all, under-only}
use Rattle.handlebars.proofs.MarkupFaults.{named-both}
use Rattle.handlebars.proofs.MarkupOrder.{names-of, names-unread}

-- A name among those of templates is the name of one of them.
named-one : (ts : List NamedTemplate) (n : Text) → is_one_of (map name_of_template ts) n ≡ true
    → (t : Tree) × Contains (map template_of ts) (n, t)
named-one [] n is = cc
named-one (x ∷ ts) n is = by (named-one ts n) (bytes_eq (name_of_template x) n) refl is
  where
    by : (is_one_of (map name_of_template ts) n ≡ true → (t : Tree) × Contains (map template_of ts) (n, t)) → (b : Bool)
        → bytes_eq (name_of_template x) n ≡ b → (b || is_one_of (map name_of_template ts) n) ≡ true
        → (t : Tree) × Contains (map template_of (x ∷ ts)) (n, t)
    by rest true same e = (
      (template_of x).1,
      subst (λ (m : Text). Contains (map template_of (x ∷ ts)) (m, (template_of x).1))
          ((bytes_eq-Decides (name_of_template x) n).0 same) (Contains-prefix (template_of x) (map template_of ts)),
    )
    by rest false same e =
        let one = rest e in
        (one.0, Contains-append_right (template_of x ∷ []) (map template_of ts) (n, one.0) one.1)

module _ {E : Type 0} (registered : E → Registrations) (user : E → UserAnswers) (r : RegistryOf E) (page : Page) (v : Verdict) where
  says-same : (above others : Text → Option Tree) → ((n : Text) → above n ≡ others n) → SaysNames registered user above r page v
      → SaysNames registered user others r page v
  says-same above others same h = record {
    says = record {
      names = h.says.names;
      are = record {
        helpers = h.says.are.helpers;
        decorators = h.says.are.decorators;
        sections = h.says.are.sections;
        templates = λ n is. let one = h.says.are.templates n is in
            (one.0, sym (over-same above others (stored_tree r) same n) ∙ one.1);
      };
      templates = h.says.templates;
      all = λ n t is. h.says.all n t (over-same above others (stored_tree r) same n ∙ is);
      verdict = h.says.verdict;
    };
    order = in_order-same above others (stored_tree r) same h.says.templates h.order;
  }

  -- What is said of a map of trees is said of what was read into it.
  pub says-read : (read : List Loaded) (trees : BTreeMap (String Global) Template) → HoldsTrees read trees
      → SaysNames registered user (tree_in trees) r page v → SaysNames registered user (tree_among read) r page v
  says-read read trees holds said = says-same (tree_in trees) (tree_among read) holds said

  -- ---- the templates of two maps

  pub says-maps : (read : BTreeMap (String Global) Template) (ts : List NamedTemplate)
      → AreInByteOrder (key_names read.entries) → AreInByteOrder (key_names r.templates.entries)
      → map template_of ts ≡ templates_under (overlaid_on (tree_in read) (stored_tree r)) (key_names read.entries)
      ++ templates_under (overlaid_on (tree_in read) (stored_tree r)) (unread (tree_in read) (key_names r.templates.entries))
      → IsVerdict (names_in (registered r.entries) true ts) (map template_of ts) page v
      → SaysNames registered user (tree_in read) r page v
  says-maps read ts first second listed is =
      let template = overlaid_on (tree_in read) (stored_tree r) in
      let ns = key_names read.entries in
      let ms = unread (tree_in read) (key_names r.templates.entries) in
      let only : (n : Text) (t : Tree) → Contains (map template_of ts) (n, t) → template n ≡ Some t = λ n t has.
      ⊎_elim (under-only template ns n t) (under-only template ms n t)
      (Contains-append_cases (templates_under template ns) (templates_under template ms) (n, t)
      (subst (λ (xs : List (Text × Tree)). Contains xs (n, t)) listed has)) in
      record {
        says = record {
          names = names_in (registered r.entries) true ts;
          are = record {
            helpers = λ n. refl;
            decorators = λ n. refl;
            sections = refl;
            templates = λ n has. let one = named-one ts n has in (one.0, only n one.0 one.1);
          };
          templates = map template_of ts;
          all = λ n t there. subst (λ (xs : List (Text × Tree)). Contains xs (n, t)) (sym listed)
              (⊎_elim
              (λ c. Contains-append_left (templates_under template ns) (templates_under template ms) (n, t) (under-all template ns n t there c))
              (λ c. Contains-append_right (templates_under template ns) (templates_under template ms) (n, t) (under-all template ms n t there c))
              (named-both read.entries r.templates.entries n t there));
          verdict = is;
        };
        order = record {
          first = ns;
          rest = ms;
          are_above = names-of read first;
          are_below = names-unread (tree_in read) r.templates second;
          listed = listed;
        };
      }
