-- The names of descents, one descent after another.
use Rattle.std.proofs.Common.{◌≡◌, ◌+◌, ◌++◌, ◌∷◌, ℕ, List, [], Option, None, Some, Bor, String, Global, append_assoc, reverse, rules, string_bytes, sym, take, ap, ◌∙◌}
use Rattle.std.proofs.lemmas.List.{append-nil, map-append, reverse-append}
use Rattle.handlebars_base.specs.Bytes.{Text}
use Rattle.handlebars_base.specs.PathView.{segments_of}
use Rattle.handlebars_base.specs.declared.json.path.PathRule.{PathRule}
use Rattle.handlebars_base.specs.declared.json.path.PathSeg.{PathSeg}
use Rattle.handlebars_base.specs.declared.json.path.PathSeg.TheVariants.{Named, Ruled}
use Rattle.handlebars_scope.specs.Resolve.{names_of}
use Rattle.handlebars_scope.specs.ResolutionView.{names_in}
use Rattle.handlebars_layers.specs.LayerView.{after_names, after_of, descent_names, last_names, last_of, own_names}
use Rattle.handlebars_layers.proofs.Names.{nameless, names-and}
use Rattle.handlebars_layers.specs.declared.layer.Descent.{Descent, out-Descent, roll-Descent, roll-out-Descent, the_lemmas}

pub names-made : (after : Option (Bor Descent)) (bound : Bor (List (String Global))) (rest : Bor (List PathSeg))
    (last : Option (Bor (String Global)))
    → descent_names (roll-Descent (record { after = after; bound = bound; rest = rest; last = last }))
    ≡ after_names after ++ (names_in bound.now ++ (names_of (segments_of rest.now) ++ last_names last))
names-made None bound rest last = search (rules, the_lemmas)
names-made (Some before) bound rest last = search (rules, the_lemmas)

-- the names that a name is bound to, and those of segments
pub names-plain : (bound : Bor (List (String Global))) (rest : Bor (List PathSeg))
    → descent_names (roll-Descent (record { after = None; bound = bound; rest = rest; last = None }))
    ≡ names_in bound.now ++ names_of (segments_of rest.now)
names-plain bound rest =
    names-made None bound rest None ∙ ap (λ names. names_in bound.now ++ names) (append-nil (names_of (segments_of rest.now)))

pub names-of-descent : (b : Descent) → descent_names b ≡ after_names (out-Descent b).after ++ own_names b
names-of-descent b =
    ap descent_names (sym (roll-out-Descent b))
    ∙ names-made (out-Descent b).after (out-Descent b).bound (out-Descent b).rest (out-Descent b).last

-- ---- names that are added in reverse

-- the names of a descent, and then those of the descent before it
pub then-before : (path new : List Text) (b : Descent) (after : Option (Bor Descent)) → (out-Descent b).after ≡ after
    → new ≡ path ++ reverse (own_names b) → new ++ reverse (after_names after) ≡ path ++ reverse (descent_names b)
then-before path new b after is added =
    ap (λ names. names ++ reverse (after_names after)) added
    ∙ append_assoc path (reverse (own_names b)) (reverse (after_names after))
    ∙ ap (λ names. path ++ names) (sym (reverse-append (after_names after) (own_names b)))
    ∙ ap (λ o. path ++ reverse (after_names o ++ own_names b)) (sym is)
    ∙ ap (λ names. path ++ reverse names) (sym (names-of-descent b))

-- there is no descent before it
pub then-none : (path new : List Text) (b : Descent) → (out-Descent b).after ≡ None → new ≡ path ++ reverse (own_names b)
    → new ≡ path ++ reverse (descent_names b)
then-none path new b is added = sym (append-nil new) ∙ then-before path new b None is added

-- ---- names up to a link, and a name after them

pub names-to-name : (after : Option (Bor Descent)) (bound : List (String Global)) (cut : Bor (List (String Global)))
    (rest : Bor (List PathSeg)) (k : ℕ) (link : String Global) (name : Bor (String Global)) → rest.now ≡ []
    → cut.now ≡ take k bound ++ link ∷ []
    → descent_names (roll-Descent (record { after = after; bound = cut; rest = rest; last = Some name }))
    ≡ ((after_names after ++ names_in (take k bound)) ++ string_bytes link ∷ []) ++ string_bytes name.now ∷ []
names-to-name after bound cut rest k link name none is =
    names-made after cut rest (Some name)
    ∙ (λ i. after_names after ++ (names_in (is i) ++ (names_of (segments_of (none i)) ++ string_bytes name.now ∷ [])))
    ∙ ap (λ names. after_names after ++ (names ++ string_bytes name.now ∷ [])) (map-append string_bytes (take k bound) (link ∷ []))
    ∙ ap (λ names. after_names after ++ names)
    (append_assoc (names_in (take k bound)) (string_bytes link ∷ []) (string_bytes name.now ∷ []))
    ∙ sym (append_assoc (after_names after ++ names_in (take k bound)) (string_bytes link ∷ []) (string_bytes name.now ∷ [])
    ∙ append_assoc (after_names after) (names_in (take k bound)) (string_bytes link ∷ string_bytes name.now ∷ []))

pub names-to-segment : (after : Option (Bor Descent)) (bound : Bor (List (String Global))) (rest : List PathSeg)
    (cut : Bor (List PathSeg)) (k : ℕ) (link : String Global) (name : Bor (String Global))
    → cut.now ≡ take k rest ++ Named link ∷ []
    → descent_names (roll-Descent (record { after = after; bound = bound; rest = cut; last = Some name }))
    ≡ (((after_names after ++ names_in bound.now) ++ names_of (segments_of (take k rest))) ++ string_bytes link ∷ [])
    ++ string_bytes name.now ∷ []
names-to-segment after bound rest cut k link name is =
    let b = names_in bound.now in
    let r = names_of (segments_of (take k rest)) in
    let l = string_bytes link in
    let n = string_bytes name.now in
    names-made after bound cut (Some name)
    ∙ ap (λ segments. after_names after ++ (b ++ (names_of (segments_of segments) ++ n ∷ []))) is
    ∙ ap (λ names. after_names after ++ (b ++ (names ++ n ∷ []))) (names-and (take k rest) (Named link))
    ∙ ap (λ names. after_names after ++ (b ++ names)) (append_assoc r (l ∷ []) (n ∷ []))
    ∙ sym (append_assoc ((after_names after ++ b) ++ r) (l ∷ []) (n ∷ [])
    ∙ append_assoc (after_names after ++ b) r (l ∷ n ∷ [])
    ∙ append_assoc (after_names after) b (r ++ l ∷ n ∷ []))

-- after a segment that is no name there are the names before it
pub names-past-rule : (rest : List PathSeg) (k : ℕ) (r : PathRule) → take (k + 1) rest ≡ take k rest ++ Ruled r ∷ []
    → names_of (segments_of (take k rest)) ≡ names_of (segments_of (take (k + 1) rest))
names-past-rule rest k r is =
    sym (ap (λ segments. names_of (segments_of segments)) is ∙ names-and (take k rest) (Ruled r)
    ∙ ap (λ names. names_of (segments_of (take k rest)) ++ names) (nameless r) ∙ append-nil (names_of (segments_of (take k rest))))

pub names-past-name : (rest : List PathSeg) (k : ℕ) (link : String Global) → take (k + 1) rest ≡ take k rest ++ Named link ∷ []
    → names_of (segments_of (take k rest)) ++ string_bytes link ∷ [] ≡ names_of (segments_of (take (k + 1) rest))
names-past-name rest k link is =
    sym (ap (λ segments. names_of (segments_of segments)) is ∙ names-and (take k rest) (Named link))

-- the whole descent, and a name after it
pub names-to-last : (descent : Bor Descent) (bound : Bor (List (String Global))) (rest : Bor (List PathSeg)) (name : Bor (String Global))
    → bound.now ≡ [] → rest.now ≡ []
    → descent_names (roll-Descent (record { after = Some descent; bound = bound; rest = rest; last = Some name }))
    ≡ descent_names descent.now ++ string_bytes name.now ∷ []
names-to-last descent bound rest name no_bound no_rest =
    names-made (Some descent) bound rest (Some name)
    ∙ (λ i. descent_names descent.now ++ (names_in (no_bound i) ++ (names_of (segments_of (no_rest i)) ++ string_bytes name.now ∷ [])))

-- the names of a descent, up to its last one
pub names-in-order : (b : Descent)
    → descent_names b ≡ ((after_of b ++ names_in (out-Descent b).bound.now) ++ names_of (segments_of (out-Descent b).rest.now)) ++ last_of b
names-in-order b =
    let a = after_of b in
    let n = names_in (out-Descent b).bound.now in
    let r = names_of (segments_of (out-Descent b).rest.now) in
    names-of-descent b ∙ sym (append_assoc (a ++ n) r (last_of b) ∙ append_assoc a n (r ++ last_of b))
