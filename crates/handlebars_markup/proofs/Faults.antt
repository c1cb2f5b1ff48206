-- A template without faults is blind, and a blind one has none; the same holds of registries.
use Rattle.std.proofs.Common.{◌≡◌, Bool, true, false, List, [], ◌∷◌, Option, unwrap_or, refl}
use Rattle.handlebars_base.specs.Bytes.{Text}
use Rattle.handlebars_base.specs.EscapeLaws.{marks_in}
use Rattle.handlebars_base.specs.Path.{raw_of}
use Rattle.handlebars_base.specs.Values.{rendered}
use Rattle.handlebars_template.specs.Position.{Position}
use Rattle.handlebars_template.specs.Tree.{Tree, tree, Elements, no_elements, element, Element, raw_string, html_expression, escaped_expression, helper_block, decorator_expression, decorator_block, partial_expression, partial_block, comment, Call, call, Decorator, decorator, Args, args, args_params, args_hash, Param, name, path, literal, subexpression, Params, no_params, param, Hash, no_hash, hash_pair, lacks_hash, Bodies, bodies, Body, no_body, body}
use Rattle.handlebars_helpers.specs.Escaping.{Escaping, for_html, for_plain, by_user}
use Rattle.handlebars_helpers.specs.UserAnswers.{Registrations}
use Rattle.handlebars_semantics.specs.State.{hook}
use Rattle.handlebars_markup.specs.Blind.{IsStaticName, IsLiteralFirst, calls_blind, decorates_blind, IsBlindTree, AreBlindElements, IsBlindElement, IsBlindCall, IsBlindTag, IsBlindInclusion, AreBlindArgs, IsBlindInner, IsBlindInnerCall, IsBlindParam, AreBlindParams, IsBlindHash, AreBlindBodies, IsBlindBody}
use Rattle.handlebars_markup.specs.Faults.{Why, reading_helper, user_decorator, inclusion_hash, reading_hook, faults_at, unless, whys_of_name, whys_of_first, whys_of_marks, whys_of_helper, whys_of_decorator, whys_of_call, whys_of_args, whys_of_params, whys_of_hash, whys_of_param, whys_of_inner, first_position, later_positions, faults_of_tree, faults_of_elements, faults_of_element, faults_of_call, faults_of_tag, faults_of_inclusion, faults_of_bodies, faults_of_body, whys_of_escape, whys_of_hook, faults_of_parts, DecideTrees, DecideParts}
use Rattle.handlebars_markup.proofs.Empty.{IsEmptyIff, of_mapped, empty_of_two, of_three, of_four, of_five}

-- ---- what always holds, and what never does

always : {A : Type 0} → IsEmptyIff {A = A} [] (Unit {0})
always = record { holds = λ e. tt; empty = λ u. refl }

never : {A : Type 0} (x : A) → IsEmptyIff (x ∷ []) ⊥
never x = record { holds = λ e. cc; empty = λ h. absurd h }

-- ---- tags

unless-true : (b : Bool) (w : Why) → IsEmptyIff (unless b w) (b ≡ true)
unless-true true w = record { holds = λ e. refl; empty = λ e. refl }
unless-true false w = record { holds = λ e. cc; empty = λ e. cc }

name-blind : (under : Text → List Why) (test : Text → Bool) → ((t : Text) → IsEmptyIff (under t) (test t ≡ true))
    → (q : Param) → IsEmptyIff (whys_of_name under q) (IsStaticName test q)
name-blind under test each (name n) = each n
name-blind under test each (path p) = each (raw_of p)
name-blind under test each (literal d) = each (rendered d)
name-blind under test each (subexpression e) = never _

first-blind : (qs : Params) → IsEmptyIff (whys_of_first qs) (IsLiteralFirst qs)
first-blind no_params = always
first-blind (param (name n) qs) = never _
first-blind (param (path p) qs) = never _
first-blind (param (literal d) qs) = always
first-blind (param (subexpression e) qs) = never _

marks-blind : (t : Text) → IsEmptyIff (whys_of_marks t) (t ≡ [])
marks-blind [] = record { holds = λ e. refl; empty = λ e. refl }
marks-blind (b ∷ bs) = record { holds = λ e. cc; empty = λ e. cc }

module _ (r : Registrations) where
  helper-blind : (q : Param) → IsEmptyIff (whys_of_name (whys_of_helper r) q) (IsStaticName (calls_blind r) q)
  helper-blind q = name-blind _ _ (λ t. unless-true (calls_blind r t) (reading_helper t)) q

  decorator-blind : (q : Param) → IsEmptyIff (whys_of_name (whys_of_decorator r) q) (IsStaticName (decorates_blind r) q)
  decorator-blind q = name-blind _ _ (λ t. unless-true (decorates_blind r t) (user_decorator t)) q

  inclusion-blind : (q : Param) → IsEmptyIff (whys_of_name (λ t. []) q) (IsStaticName (λ t. true) q)
  inclusion-blind q = name-blind (λ t. []) (λ t. true) (λ t. record { holds = λ e. refl; empty = λ e. refl }) q

  mutual
    inner_call-blind : (c : Call) → IsEmptyIff (whys_of_call r c) (IsBlindInnerCall r c)
    inner_call-blind (call n xs b t m) = empty_of_two (helper-blind n) (args-blind xs)

    args-blind : (xs : Args) → IsEmptyIff (whys_of_args r xs) (AreBlindArgs r xs)
    args-blind (args ps hs) = empty_of_two (params-blind ps) (hash-blind hs)

    params-blind : (qs : Params) → IsEmptyIff (whys_of_params r qs) (AreBlindParams r qs)
    params-blind no_params = always
    params-blind (param q qs) = empty_of_two (param-blind q) (params-blind qs)

    hash-blind : (hs : Hash) → IsEmptyIff (whys_of_hash r hs) (IsBlindHash r hs)
    hash-blind no_hash = always
    hash-blind (hash_pair k q hs) = empty_of_two (param-blind q) (hash-blind hs)

    param-blind : (q : Param) → IsEmptyIff (whys_of_param r q) (IsBlindParam r q)
    param-blind (name n) = always
    param-blind (path p) = always
    param-blind (literal d) = always
    param-blind (subexpression e) = inner-blind e

    inner-blind : (e : Element) → IsEmptyIff (whys_of_inner r e) (IsBlindInner r e)
    inner-blind (raw_string t) = always
    inner-blind (html_expression c) = always
    inner-blind (escaped_expression c) = inner_call-blind c
    inner-blind (helper_block c) = always
    inner-blind (decorator_expression t) = always
    inner-blind (decorator_block t) = always
    inner-blind (partial_expression t) = always
    inner-blind (partial_block t) = always
    inner-blind (comment t) = always

  -- ---- templates

  module _ (n : Option Text) where
    positioned : {ws : List Why} {P : Type 0} (p : Option Position) → IsEmptyIff ws P → IsEmptyIff (faults_at n p ws) P
    positioned p h = of_mapped _ h

    mutual
      tree-blind : (t : Tree) → IsEmptyIff (faults_of_tree r n t) (IsBlindTree r t)
      tree-blind (tree m es ps) = elements-blind ps es

      elements-blind : (ps : List Position) (es : Elements) → IsEmptyIff (faults_of_elements r n ps es) (AreBlindElements r es)
      elements-blind ps no_elements = always
      elements-blind ps (element e es) = empty_of_two (element-blind (first_position ps) e) (elements-blind (later_positions ps) es)

      element-blind : (p : Option Position) (e : Element) → IsEmptyIff (faults_of_element r n p e) (IsBlindElement r e)
      element-blind p (raw_string t) = always
      element-blind p (html_expression c) = never _
      element-blind p (escaped_expression c) = call-blind p c
      element-blind p (helper_block c) = call-blind p c
      element-blind p (decorator_expression t) = tag-blind p t
      element-blind p (decorator_block t) = tag-blind p t
      element-blind p (partial_expression t) = included-blind p t
      element-blind p (partial_block t) = included-blind p t
      element-blind p (comment t) = always

      call-blind : (p : Option Position) (c : Call) → IsEmptyIff (faults_of_call r n p c) (IsBlindCall r c)
      call-blind p (call m xs b t s) = of_three (positioned p (empty_of_two (helper-blind m) (args-blind xs))) (bodies-blind t)

      tag-blind : (p : Option Position) (t : Decorator) → IsEmptyIff (faults_of_tag r n p t) (IsBlindTag r t)
      tag-blind p (decorator m xs b s) =
          of_four (positioned p (of_three (empty_of_two (decorator-blind m) (first-blind (args_params xs))) (args-blind xs)))
          (body-blind b)

      included-blind : (p : Option Position) (t : Decorator) → IsEmptyIff (faults_of_inclusion r n p t) (IsBlindInclusion r t)
      included-blind p (decorator m xs b s) =
          of_five (positioned p (of_four (of_three (empty_of_two (inclusion-blind m)
          (unless-true (lacks_hash (args_hash xs)) inclusion_hash))
          (marks-blind (marks_in (unwrap_or s.indent [])))) (args-blind xs))) (body-blind b)

      bodies-blind : (t : Bodies) → IsEmptyIff (faults_of_bodies r n t) (AreBlindBodies r t)
      bodies-blind (bodies b i) = empty_of_two (body-blind b) (body-blind i)

      body-blind : (b : Body) → IsEmptyIff (faults_of_body r n b) (IsBlindBody r b)
      body-blind no_body = always
      body-blind (body t) = tree-blind t

pub decide_trees : DecideTrees
decide_trees r n t = ((tree-blind r n t).holds, (tree-blind r n t).empty)

-- ---- registries

escape-html : (e : Escaping) → IsEmptyIff (whys_of_escape e) (e ≡ for_html)
escape-html for_html = record { holds = λ e. refl; empty = λ e. refl }
escape-html for_plain = record { holds = λ e. cc; empty = λ e. cc }
escape-html by_user = record { holds = λ e. cc; empty = λ e. cc }

module _ (r : Registrations) where
  hook-blind : (block : Bool) → IsEmptyIff (whys_of_hook r block) (calls_blind r (hook block) ≡ true)
  hook-blind block = unless-true (calls_blind r (hook block)) (reading_hook (hook block))

  parts-blind : IsEmptyIff (faults_of_parts r)
      ((r.escape ≡ for_html) × (calls_blind r (hook false) ≡ true) × (calls_blind r (hook true) ≡ true))
  parts-blind = of_mapped _ (of_three (empty_of_two (escape-html r.escape) (hook-blind false)) (hook-blind true))

  both-hooks : calls_blind r (hook false) ≡ true → calls_blind r (hook true) ≡ true
      → (block : Bool) → calls_blind r (hook block) ≡ true
  both-hooks no_block for_block true = for_block
  both-hooks no_block for_block false = no_block

pub decide_parts : DecideParts
decide_parts r = (
  λ e. let p = (parts-blind r).holds e in record { escape = p.0; hooks = both-hooks r p.1 p.2 },
  λ h. (parts-blind r).empty (h.escape, h.hooks false, h.hooks true),
)
