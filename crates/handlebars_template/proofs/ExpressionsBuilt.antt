-- What the code builds from an expression, and what that stands for.
use Rattle.std.proofs.Common.{◌≡◌, ◌∙◌, ◌&&◌, ◌==◌, Bool, Option, None, Some, length, sym, List, [], ◌∷◌, ◌++◌, map, refl, ap, String, Global}
use Rattle.std.proofs.lemmas.List.{reverse-append, map-append}
use denote.Ref.{Bor}
use Rattle.std.specs.Prelude.{string_cmp, unwrap_or}
use Rattle.handlebars_expressions.specs.ExpressionView.{key_of}
use Rattle.std.specs.declared.cmp.Ordering.{Ordering}
use Rattle.std.specs.declared.cmp.Ordering.TheVariants.{Less, Equal, Greater}
use Rattle.std.specs.Ordering.{match_ordering}
use Rattle.std.specs.BTreeMap.{insert_entry}
use Rattle.handlebars_base.specs.Bytes.{Text}
use Rattle.handlebars_base.specs.Path.{Reference, IsPath}
use Rattle.handlebars_base.specs.PathReading.{path_of}
use Rattle.handlebars_base.proofs.PathShapes.{path_is}
use Rattle.handlebars_template.specs.Tree.{lacks_hash, args, lacks_arguments, Param, param, params_of, Hash, hash_pair}
use Rattle.handlebars_template.specs.TreeView.{text, param_view, params_view, hash_view}
use Rattle.handlebars_template.specs.Calls.{with_param, put_hash_pair}
use Rattle.handlebars_template.proofs.Levels.{lacks_params-view, lacks_hash-view}
use Rattle.handlebars_template.specs.ExpressionBuildingView.{open_view, around_view}
use Rattle.handlebars_template.specs.declared.template.tree.Parameter.{Parameter}
use Rattle.handlebars_template.specs.declared.template.build.OpenCall.{OpenCall as BuiltCall}

params_of-append : (ps : List Param) (p : Param) → params_of (ps ++ p ∷ []) ≡ with_param (params_of ps) p
params_of-append [] p = refl
params_of-append (q ∷ ps) p = ap (param q) (params_of-append ps p)

pub params_view_push : (ps : List Parameter) (p : Parameter) → params_view (ps ++ p ∷ []) ≡ with_param (params_view ps) (param_view p)
params_view_push ps p = ap params_of (map-append param_view ps (p ∷ [])) ∙ params_of-append (map param_view ps) (param_view p)

pub around_view_push : (fs : List BuiltCall) (f : BuiltCall) → around_view (fs ++ f ∷ []) ≡ open_view f ∷ around_view fs
around_view_push fs f = rw (map-append) (reverse-append (map open_view fs) (open_view f ∷ []))

pub lacks_arguments-view : (ps : List Parameter) (hs : List (String Global × Parameter))
    → lacks_arguments (args (params_view ps) (hash_view hs)) ≡ (length ps == 0) && (length hs == 0)
lacks_arguments-view ps hs =
    ap (λ (b : Bool). b && lacks_hash (hash_view hs)) (lacks_params-view ps)
    ∙ ap (λ (b : Bool). (length ps == 0) && b) (lacks_hash-view hs)

-- a text that is no path
pub path_of-none : (raw : Text) → ((means : Reference) → IsPath raw means → ⊥) → None ≡ path_of raw
path_of-none raw none = on (path_of raw) refl
  where
    on : (o : Option Reference) → path_of raw ≡ o → None ≡ path_of raw
    on None is = sym is
    on (Some means) is = absurd (none means (path_is raw means is))

-- the same case of an ordering, before the view and after it
hash_view-match : (o : Ordering) (a b c : List (String Global × Parameter)) → hash_view (match_ordering o a b c) ≡ match_ordering o (hash_view a) (hash_view b) (hash_view c)
hash_view-match Less a b c = refl
hash_view-match Equal a b c = refl
hash_view-match Greater a b c = refl

pub hash_view_insert : (hs : List (String Global × Parameter)) (key : String Global) (value : Parameter)
    → hash_view (insert_entry string_cmp hs key value) ≡ put_hash_pair (text key) (param_view value) (hash_view hs)
hash_view_insert [] key value = refl
hash_view_insert (h ∷ hs) key value =
    let o : Ordering = string_cmp key h.0 in
    hash_view-match o ((key, value) ∷ h ∷ hs) ((h.0, value) ∷ hs) (h ∷ insert_entry string_cmp hs key value)
    ∙ ap (λ (z : Hash). match_ordering o (hash_view ((key, value) ∷ h ∷ hs)) (hash_view ((h.0, value) ∷ hs)) (hash_pair (text h.0) (param_view h.1) z)) (hash_view_insert hs key value)

-- the text of the rejected literal that is recorded
pub unwrap_or-now : (o : Option (Bor Text)) (t : Bor Text) → Some (unwrap_or o t).now ≡ Some (unwrap_or (key_of o) t.now)
unwrap_or-now None t = refl
unwrap_or-now (Some u) t = refl
