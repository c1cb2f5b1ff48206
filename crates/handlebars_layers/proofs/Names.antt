-- Names in reverse.
use Rattle.std.proofs.Common.{◌≡◌, ◌++◌, ◌∷◌, [], List, refl, sym, ap, ◌∙◌, reverse}
use Rattle.std.proofs.lemmas.List.{append_assoc, append-nil, reverse-append, reverse-reverse}
use mathlib.Core.List.{reverse_aux}
use Rattle.std.specs.Prelude.{Err, IfOk, Ok, Result, String, Vec, string_bytes}
use Rattle.std.specs.declared.alloc.AllocError.{AllocError}
use Rattle.std.specs.declared.alloc.Global.{Global}
use Rattle.handlebars_base.specs.Bytes.{Text}
use Rattle.handlebars_base.specs.PathView.{segments_of}
use Rattle.handlebars_base.specs.declared.json.path.PathRule.{PathRule}
use Rattle.handlebars_base.specs.declared.json.path.PathRule.TheVariants as rule
use Rattle.handlebars_base.specs.declared.json.path.PathSeg.{PathSeg}
use Rattle.handlebars_base.specs.declared.json.path.PathSeg.TheVariants.{Named, Ruled}
use Rattle.handlebars_scope.specs.Resolve.{names_of}
use Rattle.handlebars_scope.specs.ResolutionView.{names_in}

pub names-and : (rest : List PathSeg) (last : PathSeg)
    → names_of (segments_of (rest ++ last ∷ [])) ≡ names_of (segments_of rest) ++ names_of (segments_of (last ∷ []))
names-and [] last = refl
names-and (Named name ∷ rest) last = ap (λ names. string_bytes name ∷ names) (names-and rest last)
names-and (Ruled rule.Root ∷ rest) last = names-and rest last
names-and (Ruled rule.Local ∷ rest) last = names-and rest last
names-and (Ruled rule.Up ∷ rest) last = names-and rest last

-- the names so far, and then those that are left, the last one first
pub after-named : (path new : List Text) (left rest : List PathSeg) (name : String Global) → new ≡ path ++ string_bytes name ∷ []
    → left ≡ rest ++ Named name ∷ []
    → new ++ reverse (names_of (segments_of rest)) ≡ path ++ reverse (names_of (segments_of left))
after-named path new left rest name added is =
    ap (λ names. names ++ reverse (names_of (segments_of rest))) added
    ∙ append_assoc path (string_bytes name ∷ []) (reverse (names_of (segments_of rest)))
    ∙ sym (ap (λ segments. path ++ reverse (names_of (segments_of segments))) is
    ∙ ap (λ names. path ++ names) (ap reverse (names-and rest (Named name))
    ∙ reverse-append (names_of (segments_of rest)) (string_bytes name ∷ [])))

pub nameless : (r : PathRule) → names_of (segments_of (Ruled r ∷ [])) ≡ []
nameless rule.Root = refl
nameless rule.Local = refl
nameless rule.Up = refl

pub after-ruled : (path : List Text) (left rest : List PathSeg) (r : PathRule) → left ≡ rest ++ Ruled r ∷ []
    → path ++ reverse (names_of (segments_of rest)) ≡ path ++ reverse (names_of (segments_of left))
after-ruled path left rest r is =
    sym (ap (λ segments. path ++ reverse (names_of (segments_of segments))) is
    ∙ ap (λ names. path ++ reverse names) (names-and rest (Ruled r)
    ∙ ap (λ names. names_of (segments_of rest) ++ names) (nameless r) ∙ append-nil (names_of (segments_of rest))))

-- ---- a path in reverse

reversed-onto : (path after : List (String Global)) → names_in (reverse_aux path after) ≡ reverse_aux (names_in path) (names_in after)
reversed-onto [] after = refl
reversed-onto (name ∷ path) after = reversed-onto path (name ∷ after)

-- a path that was made in reverse, with its base
pub reversed-path : (before pushed all : List (String Global)) (base : List Text) → names_in pushed ≡ names_in before ++ reverse base
    → all ≡ reverse pushed → names_in all ≡ base ++ reverse (names_in before)
reversed-path before pushed all base added is =
    ap names_in is ∙ reversed-onto pushed [] ∙ ap reverse added ∙ reverse-append (names_in before) (reverse base)
    ∙ ap (λ names. names ++ reverse (names_in before)) (reverse-reverse base)

pub ok-path : (r : Result (Vec (String Global) Global) AllocError) (base after all : List Text)
    → IfOk r (λ path. names_in path.items ≡ base ++ after) → base ++ after ≡ all → IfOk r (λ path. names_in path.items ≡ all)
ok-path (Ok path) base after all h is = h ∙ is
ok-path (Err e) base after all h is = h
