-- Templates are listed one after another, in the order of a map.
use Rattle.std.proofs.Common.{◌≡◌, Bool, true, false, cond, not, is_some, List, [], ◌∷◌, ◌++◌, map, Option, None, Some, String, Global, append-nil, refl, sym, ap, ◌∙◌, subst}
use Rattle.std.proofs.Math.Logic.{◌⊎◌, ⊎_elim}
use Rattle.std.proofs.lemmas.List.{append_assoc}
use Rattle.std.proofs.lemmas.List.Elements.{Contains-append_left, Contains-append_right, Contains-append_cases}
use Rattle.std.specs.List.{Contains}
use Rattle.std.specs.Prelude.{string_bytes}
use Rattle.handlebars_base.specs.Bytes.{Text}
use Rattle.handlebars_base.specs.Optional.{with_or}
use Rattle.handlebars_template.specs.Tree.{Tree}
use Rattle.handlebars_template.specs.declared.template.tree.Template.{Template}
use Rattle.handlebars_html.specs.SearchView.{template_of}
use Rattle.handlebars_html.specs.declared.search.NamedTemplate.{NamedTemplate}
use Rattle.handlebars.specs.Html.{template_under, templates_under}
use Rattle.handlebars.specs.Markup.{key_names, unread}
use Rattle.handlebars.proofs.MarkupFaults.{Contains-nil, Contains-head, Contains-one}

-- These come after what was listed before.
abbrev pub Lists : List NamedTemplate → List NamedTemplate → List (Text × Tree) → Type 0
Lists before after xs = map template_of after ≡ map template_of before ++ xs

-- What was listed so far, with the rest, is what was listed first, with all.
abbrev pub ListsFrom : List NamedTemplate → List NamedTemplate → List (Text × Tree) → List (Text × Tree) → Type 0
ListsFrom first now rest all = map template_of now ++ rest ≡ map template_of first ++ all

lists-go : (first now next : List NamedTemplate) (xs rest all : List (Text × Tree)) → ListsFrom first now (xs ++ rest) all
    → Lists now next xs → ListsFrom first next rest all
lists-go first now next xs rest all so_far lists =
    ap (λ (zs : List (Text × Tree)). zs ++ rest) lists ∙ append_assoc (map template_of now) xs rest ∙ so_far

pub lists-end : (first now : List NamedTemplate) (rest all : List (Text × Tree)) → rest ≡ [] → ListsFrom first now rest all
    → Lists first now all
lists-end first now rest all none so_far =
    sym (append-nil (map template_of now)) ∙ sym (ap (λ (zs : List (Text × Tree)). map template_of now ++ zs) none) ∙ so_far

lists-then : (a b c : List NamedTemplate) (xs ys : List (Text × Tree)) → Lists a b xs → Lists b c ys → Lists a c (xs ++ ys)
lists-then a b c xs ys first later =
    later ∙ ap (λ (zs : List (Text × Tree)). zs ++ ys) first ∙ append_assoc (map template_of a) xs ys

-- all that two parts list, one after the other
pub listed-both : (a b c now : List NamedTemplate) (xs ys : List (Text × Tree)) → a ≡ [] → Lists a b xs → Lists b c ys → now ≡ c
    → map template_of now ≡ xs ++ ys
listed-both a b c now xs ys none first later is =
    ap (λ (ts : List NamedTemplate). map template_of ts) is ∙ lists-then a b c xs ys first later
    ∙ ap (λ (ts : List NamedTemplate). map template_of ts ++ (xs ++ ys)) none

module _ (template : Text → Option Tree) (first : List NamedTemplate) (all : List (Text × Tree)) where
  -- ---- all names

  abbrev pub FromNames : List NamedTemplate → List Text → Type 0
  FromNames now ns = ListsFrom first now (templates_under template ns) all

  one-more : (now next : List NamedTemplate) (n m : Text) (ns : List Text) → m ≡ n → FromNames now (n ∷ ns)
      → Lists now next (template_under template m) → FromNames next ns
  one-more now next n m ns same so_far lists =
      lists-go first now next (template_under template n) (templates_under template ns) all so_far
      (subst (λ (k : Text). Lists now next (template_under template k)) same lists)

  pub names-next : (now next : List NamedTemplate) (es rest : List (String Global × Template)) (e : String Global × Template)
      (m : Text) → es ≡ e ∷ rest → m ≡ string_bytes e.0 → FromNames now (key_names es)
      → Lists now next (template_under template m) → FromNames next (key_names rest)
  names-next now next es rest e m steps same so_far lists =
      one-more now next (string_bytes e.0) m (key_names rest) same
      (subst (λ (xs : List (String Global × Template)). FromNames now (key_names xs)) steps so_far) lists

  pub names-end : (now : List NamedTemplate) (es : List (String Global × Template)) → es ≡ [] → FromNames now (key_names es)
      → Lists first now all
  names-end now es none so_far =
      lists-end first now (templates_under template (key_names es)) all
      (ap (λ (xs : List (String Global × Template)). templates_under template (key_names xs)) none) so_far

  -- ---- those that weren't read

  module _ (read : Text → Option Tree) where
    left-as : (now : List NamedTemplate) (es rest : List (String Global × Template)) (e : String Global × Template) (b : Bool)
        → es ≡ e ∷ rest → not (is_some (read (string_bytes e.0))) ≡ b → FromNames now (unread read (key_names es))
        → FromNames now (cond b (string_bytes e.0 ∷ unread read (key_names rest)) (unread read (key_names rest)))
    left-as now es rest e b steps is so_far =
        subst (λ (ns : List Text). FromNames now ns)
        (ap (λ (xs : List (String Global × Template)). unread read (key_names xs)) steps
        ∙ ap (λ (c : Bool). cond c (string_bytes e.0 ∷ unread read (key_names rest)) (unread read (key_names rest))) is)
        so_far

    pub unread-next : (now next : List NamedTemplate) (es rest : List (String Global × Template)) (e : String Global × Template)
        (m : Text) → es ≡ e ∷ rest → m ≡ string_bytes e.0 → not (is_some (read (string_bytes e.0))) ≡ true
        → FromNames now (unread read (key_names es)) → Lists now next (template_under template m)
        → FromNames next (unread read (key_names rest))
    unread-next now next es rest e m steps same is so_far lists =
        one-more now next (string_bytes e.0) m (unread read (key_names rest)) same (left-as now es rest e true steps is so_far) lists

    pub unread-skip : (now : List NamedTemplate) (es rest : List (String Global × Template)) (e : String Global × Template)
        → es ≡ e ∷ rest → not (is_some (read (string_bytes e.0))) ≡ false → FromNames now (unread read (key_names es))
        → FromNames now (unread read (key_names rest))
    unread-skip now es rest e steps is so_far = left-as now es rest e false steps is so_far

    pub unread-end : (now : List NamedTemplate) (es : List (String Global × Template)) → es ≡ []
        → FromNames now (unread read (key_names es)) → Lists first now all
    unread-end now es none so_far =
        lists-end first now (templates_under template (unread read (key_names es))) all
        (ap (λ (xs : List (String Global × Template)). templates_under template (unread read (key_names xs))) none) so_far

-- ---- what is listed

module _ (template : Text → Option Tree) where
  one-only : (m : Text) (o : Option Tree) (n : Text) (t : Tree) → template m ≡ o
      → Contains {X = Text × Tree} (with_or o (λ u. (m, u) ∷ []) []) (n, t) → template n ≡ Some t
  one-only m None n t is has = Contains-nil (n, t) has
  one-only m (Some u) n t is has = pair (Contains-one (n, t) (m, u) has)
    where
      pair : ◌≡◌ {A = Text × Tree} (m, u) (n, t) → template n ≡ Some t
      pair same =
          sym (ap (λ (x : Text × Tree). template x.0) same) ∙ is ∙ ap (λ (x : Text × Tree). Some x.1) same

  -- Under each name stands what is listed with it.
  pub under-only : (ns : List Text) (n : Text) (t : Tree) → Contains (templates_under template ns) (n, t) → template n ≡ Some t
  under-only [] n t has = Contains-nil (n, t) has
  under-only (m ∷ ns) n t has =
      ⊎_elim (one-only m (template m) n t refl) (under-only ns n t)
      (Contains-append_cases (template_under template m) (templates_under template ns) (n, t) has)

  one-has : (n : Text) (t : Tree) → template n ≡ Some t → Contains (template_under template n) (n, t)
  one-has n t is =
      subst (λ (o : Option Tree). Contains {X = Text × Tree} (with_or o (λ u. (n, u) ∷ []) []) (n, t)) (sym is)
      (Contains-append_left ((n, t) ∷ []) [] (n, t) (Contains-head (n, t) []))

  -- What stands under one of these names is listed.
  pub under-all : (ns : List Text) (n : Text) (t : Tree) → template n ≡ Some t → Contains ns n
      → Contains (templates_under template ns) (n, t)
  under-all [] n t is has = Contains-nil n has
  under-all (m ∷ ns) n t is has =
      ⊎_elim
      (λ here. Contains-append_left (template_under template m) (templates_under template ns) (n, t)
      (subst (λ (k : Text). Contains (template_under template k) (n, t)) (sym (Contains-one n m here)) (one-has n t is)))
      (λ there. Contains-append_right (template_under template m) (templates_under template ns) (n, t)
      (under-all ns n t is there))
      (Contains-append_cases (m ∷ []) ns n has)
